use Rattle.std.proofs.Common.{Ok, Err, ap}
use Rattle.parts.specs.Limits.{last_tick}
use Rattle.lexical.specs.declared.fault.LineFault.TheVariants.{Number}
use Rattle.lexical.specs.declared.fault.SequenceFault.TheVariants.{Line}
use Rattle.lexical.specs.Fields.{reference, relation, count, numeral}
use Rattle.grammar.specs.Reading.{clock_condition}
use Rattle.lines.proofs.Shapes.{three_of}
use Rattle.lines.proofs.Rows.{gone, three_first, three_second, three_third}
use Rattle.lines.proofs.condition.clock_line.Goals as goal

pub returns-in_err-clock : goal.returns-in_err-clock
returns-in_err-clock c =
    let f = three_of c.args.value.bytes.now c.args.value.at _ _ _ c.in_ok-x.ensures in
    gone c.from_residual-in_err-clock.result _ c.from_residual-in_err-clock.ensures.1
    (three_first (reference c.args.present.scope.counts.clocks) (λ v. relation) (λ v r. count 0 last_tick) clock_condition c.args.value.at f (Err c.in_err-clock.field-0.0)
    (c.in_err-clock.ensures _ _ _ f.first))

pub returns-in_err-relation : goal.returns-in_err-relation
returns-in_err-relation c =
    let f = three_of c.args.value.bytes.now c.args.value.at _ _ _ c.in_ok-x.ensures in
    gone c.from_residual-in_err-relation.result _ c.from_residual-in_err-relation.ensures.1
    (three_second (reference c.args.present.scope.counts.clocks) (λ v. relation) (λ v r. count 0 last_tick) clock_condition c.args.value.at f c.in_ok-clock.clock (Err c.in_err-relation.field-0.0)
    (c.in_ok-clock.ensures _ _ _ f.first) (c.in_err-relation.ensures _ _ _ f.second))

pub returns-in_err-constant : goal.returns-in_err-constant
returns-in_err-constant c =
    let f = three_of c.args.value.bytes.now c.args.value.at _ _ _ c.in_ok-x.ensures in
    gone c.from_residual-in_err-constant.result _ c.from_residual-in_err-constant.ensures.1
    (three_third (reference c.args.present.scope.counts.clocks) (λ v. relation) (λ v r. count 0 last_tick) clock_condition c.args.value.at f c.in_ok-clock.clock c.in_ok-relation.relation (Err (Line (Number c.in_err-constant.field-0.0)))
    (c.in_ok-clock.ensures _ _ _ f.first) (c.in_ok-relation.ensures _ _ _ f.second) (ap numeral (c.in_err-constant.ensures.read _ _ _ f.third)))

pub returns : goal.returns
returns c =
    let f = three_of c.args.value.bytes.now c.args.value.at _ _ _ c.in_ok-x.ensures in
    three_third (reference c.args.present.scope.counts.clocks) (λ v. relation) (λ v r. count 0 last_tick) clock_condition c.args.value.at f c.in_ok-clock.clock c.in_ok-relation.relation (Ok c.in_ok-constant.constant)
    (c.in_ok-clock.ensures _ _ _ f.first) (c.in_ok-relation.ensures _ _ _ f.second) (ap numeral (c.in_ok-constant.ensures.read _ _ _ f.third))
