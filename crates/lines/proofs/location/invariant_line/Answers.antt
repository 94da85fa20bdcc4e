use Rattle.std.proofs.Common.{Ok, Err, ap}
use Rattle.parts.specs.Limits.{last_tick}
use Rattle.lexical.specs.declared.fault.LineFault.TheVariants.{Number}
use Rattle.lexical.specs.declared.fault.SequenceFault.TheVariants.{Line}
use Rattle.lexical.specs.Fields.{reference, strictness, count, numeral}
use Rattle.grammar.specs.Reading.{invariant_of}
use Rattle.lines.proofs.Shapes.{three_of}
use Rattle.lines.proofs.Rows.{gone, three_first, three_second, three_third}
use Rattle.lines.proofs.location.invariant_line.Goals as goal

pub returns-in_err-clock : goal.returns-in_err-clock
returns-in_err-clock c =
    let f = three_of c.args.value.bytes.now c.args.value.at _ _ _ c.in_ok-x.ensures in
    gone c.from_residual-in_err-clock.result _ c.from_residual-in_err-clock.ensures.1
    (three_first (reference c.args.present.scope.counts.clocks) (λ v. strictness) (λ v r. count 0 last_tick) invariant_of c.args.value.at f (Err c.in_err-clock.field-0.0)
    (c.in_err-clock.ensures _ _ _ f.first))

pub returns-in_err-strict : goal.returns-in_err-strict
returns-in_err-strict c =
    let f = three_of c.args.value.bytes.now c.args.value.at _ _ _ c.in_ok-x.ensures in
    gone c.from_residual-in_err-strict.result _ c.from_residual-in_err-strict.ensures.1
    (three_second (reference c.args.present.scope.counts.clocks) (λ v. strictness) (λ v r. count 0 last_tick) invariant_of c.args.value.at f c.in_ok-clock.clock (Err c.in_err-strict.field-0.0)
    (c.in_ok-clock.ensures _ _ _ f.first) (c.in_err-strict.ensures _ _ _ f.second))

pub returns-in_err-bound : goal.returns-in_err-bound
returns-in_err-bound c =
    let f = three_of c.args.value.bytes.now c.args.value.at _ _ _ c.in_ok-x.ensures in
    gone c.from_residual-in_err-bound.result _ c.from_residual-in_err-bound.ensures.1
    (three_third (reference c.args.present.scope.counts.clocks) (λ v. strictness) (λ v r. count 0 last_tick) invariant_of c.args.value.at f c.in_ok-clock.clock c.in_ok-strict.strict (Err (Line (Number c.in_err-bound.field-0.0)))
    (c.in_ok-clock.ensures _ _ _ f.first) (c.in_ok-strict.ensures _ _ _ f.second) (ap numeral (c.in_err-bound.ensures.read _ _ _ f.third)))

pub returns : goal.returns
returns c =
    let f = three_of c.args.value.bytes.now c.args.value.at _ _ _ c.in_ok-x.ensures in
    three_third (reference c.args.present.scope.counts.clocks) (λ v. strictness) (λ v r. count 0 last_tick) invariant_of c.args.value.at f c.in_ok-clock.clock c.in_ok-strict.strict (Ok c.in_ok-bound.bound)
    (c.in_ok-clock.ensures _ _ _ f.first) (c.in_ok-strict.ensures _ _ _ f.second) (ap numeral (c.in_ok-bound.ensures.read _ _ _ f.third))
