use Rattle.std.proofs.Common.{sym, subst}
use Rattle.std.proofs.lemmas.Result.{MatchResult-at_ok}
use Rattle.parts.specs.declared.part.Rule.TheVariants.{BadCounts}
use Rattle.sequence.specs.Plan.{Plan}
use Rattle.sequence.specs.Model.{plan_of}
use Rattle.reader.specs.Outcomes.{Reads}
use Rattle.reader.proofs.Whole.{only_ok, left, never_refused, begun_as, bad_line, never_unfinished, all_read}
use Rattle.reader.proofs.read_sequence.Goals as goal

pub unwrap-draft-requires : goal.unwrap-draft-requires
unwrap-draft-requires c =
    only_ok _ _ c.begin.result c.begin.ensures (λ b h. never_refused c.args.text.now c.if-text-gt-LONGEST_TEXT.false c.in-Ok.read.0 c.in-Ok.read.1.now c.in-Ok.ensures BadCounts h.0)

pub read_lines-requires : goal.read_lines-requires
read_lines-requires c = left c.args.text.now c.if-text-gt-LONGEST_TEXT.false c.in-Ok.read.0 c.in-Ok.read.1.now c.in-Ok.ensures

pub returns-in-Err-read_lines : goal.returns-in-Err-read_lines
returns-in-Err-read_lines c =
    let t = c.args.text.now in
    let short = c.if-text-gt-LONGEST_TEXT.false in
    let p = plan_of c.unwrap-draft.result in
    let b = begun_as t short c.in-Ok.read.0 c.in-Ok.read.1.now c.in-Ok.ensures p (MatchResult-at_ok _ _ c.unwrap-draft.result c.unwrap-draft.ensures c.begin.ensures) in
    record { refused = bad_line t short c.in-Ok.read.0 c.in-Ok.read.1.now c.in-Ok.ensures p b c.in-Err-read_lines.fault c.in-Err-read_lines.ensures; roomy = c.into_memory.ensures }

pub unwrap-requires : goal.unwrap-requires
unwrap-requires c =
    let t = c.args.text.now in
    let short = c.if-text-gt-LONGEST_TEXT.false in
    let p = plan_of c.unwrap-draft.result in
    let b = begun_as t short c.in-Ok.read.0 c.in-Ok.read.1.now c.in-Ok.ensures p (MatchResult-at_ok _ _ c.unwrap-draft.result c.unwrap-draft.ensures c.begin.ensures) in
    only_ok _ _ c.finish.result c.finish.ensures
    (λ d h. never_unfinished t short c.in-Ok.read.0 c.in-Ok.read.1.now c.in-Ok.ensures p b (plan_of c.read_lines.new.draft) c.in-Ok-read_lines.rest.now c.in-Ok-read_lines.ensures h.1)

pub returns : goal.returns
returns c =
    let t = c.args.text.now in
    let short = c.if-text-gt-LONGEST_TEXT.false in
    let p = plan_of c.unwrap-draft.result in
    let b = begun_as t short c.in-Ok.read.0 c.in-Ok.read.1.now c.in-Ok.ensures p (MatchResult-at_ok _ _ c.unwrap-draft.result c.unwrap-draft.ensures c.begin.ensures) in
    let rest = c.in-Ok-read_lines.rest.now in
    let same = (MatchResult-at_ok _ _ c.unwrap.result c.unwrap.ensures c.finish.ensures).0 in
    subst (λ (q : Plan). Reads t q rest) (sym same)
    (all_read t short c.in-Ok.read.0 c.in-Ok.read.1.now c.in-Ok.ensures p b (plan_of c.read_lines.new.draft) rest c.in-Ok-read_lines.ensures)
