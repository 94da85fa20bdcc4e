use Rattle.std.proofs.Common.{ℤ, pos, negsuc, Ok, Err, Result, ap, ◌∙◌, w32, SFits, rules, rules}
use Rattle.std.proofs.lemmas.Int.{to_z-of_z}
use Rattle.parts.specs.Limits.{last_tick}
use Rattle.parts.specs.declared.part.Condition.{Condition}
use Rattle.lexical.specs.declared.fault.LineFault.TheVariants.{Number}
use Rattle.lexical.specs.declared.fault.SequenceFault.{SequenceFault}
use Rattle.lexical.specs.declared.fault.SequenceFault.TheVariants.{Line}
use Rattle.lexical.specs.Fields.{reference, relation, integer, numeral}
use Rattle.grammar.specs.Reading.{difference_condition}
use Rattle.lines.proofs.Shapes.{four_of}
use Rattle.lines.proofs.Rows.{gone, four_first, four_second, four_third, four_fourth}
use Rattle.lines.proofs.condition.difference_line.Goals as goal

pub returns-in_err-first : goal.returns-in_err-first
returns-in_err-first c =
    let f = four_of c.args.value.bytes.now c.args.value.at _ _ _ _ c.in_ok-x.ensures in
    gone c.from_residual-in_err-first.result _ c.from_residual-in_err-first.ensures.1
    (four_first (reference c.args.present.scope.counts.clocks) (reference c.args.present.scope.counts.clocks) relation (integer (negsuc 999999999) (pos last_tick)) difference_condition c.args.value.at f (Err c.in_err-first.field-0.0)
    (c.in_err-first.ensures _ _ _ f.first))

pub returns-in_err-second : goal.returns-in_err-second
returns-in_err-second c =
    let f = four_of c.args.value.bytes.now c.args.value.at _ _ _ _ c.in_ok-x.ensures in
    gone c.from_residual-in_err-second.result _ c.from_residual-in_err-second.ensures.1
    (four_second (reference c.args.present.scope.counts.clocks) (reference c.args.present.scope.counts.clocks) relation (integer (negsuc 999999999) (pos last_tick)) difference_condition c.args.value.at f c.in_ok-first.first (Err c.in_err-second.field-0.0)
    (c.in_ok-first.ensures _ _ _ f.first) (c.in_err-second.ensures _ _ _ f.second))

pub returns-in_err-relation : goal.returns-in_err-relation
returns-in_err-relation c =
    let f = four_of c.args.value.bytes.now c.args.value.at _ _ _ _ c.in_ok-x.ensures in
    gone c.from_residual-in_err-relation.result _ c.from_residual-in_err-relation.ensures.1
    (four_third (reference c.args.present.scope.counts.clocks) (reference c.args.present.scope.counts.clocks) relation (integer (negsuc 999999999) (pos last_tick)) difference_condition c.args.value.at f c.in_ok-first.first c.in_ok-second.second (Err c.in_err-relation.field-0.0)
    (c.in_ok-first.ensures _ _ _ f.first) (c.in_ok-second.ensures _ _ _ f.second) (c.in_err-relation.ensures _ _ _ f.third))

pub returns-in_err-constant : goal.returns-in_err-constant
returns-in_err-constant c =
    let f = four_of c.args.value.bytes.now c.args.value.at _ _ _ _ c.in_ok-x.ensures in
    gone c.from_residual-in_err-constant.result _ c.from_residual-in_err-constant.ensures.1
    (four_fourth (reference c.args.present.scope.counts.clocks) (reference c.args.present.scope.counts.clocks) relation (integer (negsuc 999999999) (pos last_tick)) difference_condition c.args.value.at f c.in_ok-first.first c.in_ok-second.second c.in_ok-relation.relation (Err (Line (Number c.in_err-constant.field-0.0)))
    (c.in_ok-first.ensures _ _ _ f.first) (c.in_ok-second.ensures _ _ _ f.second) (c.in_ok-relation.ensures _ _ _ f.third) (ap numeral (c.in_err-constant.ensures.read _ _ _ f.fourth)))

pub returns : goal.returns
returns c =
    let f = four_of c.args.value.bytes.now c.args.value.at _ _ _ _ c.in_ok-x.ensures in
    let fits : SFits w32 c.in_ok-constant.constant = search rules in
    ap {B = Result Condition SequenceFault} (λ (z : ℤ). Ok (difference_condition (c.in_ok-first.first, c.in_ok-second.second, c.in_ok-relation.relation, z))) (to_z-of_z w32 c.in_ok-constant.constant fits) ∙
    four_fourth (reference c.args.present.scope.counts.clocks) (reference c.args.present.scope.counts.clocks) relation (integer (negsuc 999999999) (pos last_tick)) difference_condition c.args.value.at f c.in_ok-first.first c.in_ok-second.second c.in_ok-relation.relation (Ok c.in_ok-constant.constant)
    (c.in_ok-first.ensures _ _ _ f.first) (c.in_ok-second.ensures _ _ _ f.second) (c.in_ok-relation.ensures _ _ _ f.third) (ap numeral (c.in_ok-constant.ensures.read _ _ _ f.fourth))
