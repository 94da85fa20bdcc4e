use Rattle.std.proofs.Common.{◌≡◌, length, rules}
use Rattle.std.proofs.lemmas.Bool.{and_from, eq-eqb}
use Rattle.grammar.specs.Widths.{assignment_in_widths, condition_in_widths}
use Rattle.grammar.proofs.Kept.{kept_group}
use Rattle.grammar.proofs.in_memory.EdgeWide.keeps_widths.Goals as goal

pub returns : goal.returns
returns c =
    let e = c.args.self in
    let guard : length e.guard ≡ 4 = search rules in
    let resets : length e.resets ≡ 4 = search rules in
    let sets : length e.assignments ≡ 4 = search rules in
    and_from _ _ (kept_group condition_in_widths 4 e.guard guard c.all_keep_widths.ensures)
    (and_from _ _ (eq-eqb (length e.resets) 4 resets) (kept_group assignment_in_widths 4 e.assignments sets c.all_keep_widths-2.ensures))
