use Rattle.std.proofs.Common.{Ok, Err, ap}
use Rattle.parts.specs.Limits.{longest}
use Rattle.lexical.specs.declared.fault.LineFault.TheVariants.{Number}
use Rattle.lexical.specs.declared.fault.SequenceFault.TheVariants.{Line}
use Rattle.lexical.specs.Fields.{count, numeral}
use Rattle.grammar.specs.Reading.{task_of}
use Rattle.lines.proofs.Shapes.{three_of}
use Rattle.lines.proofs.Rows.{gone, three_first, three_second, three_third}
use Rattle.lines.proofs.task.task_line.Goals as goal

pub returns-in_err-cost : goal.returns-in_err-cost
returns-in_err-cost c =
    let f = three_of c.args.value.bytes.now c.args.value.at _ _ _ c.in_ok-x.ensures in
    gone c.from_residual-in_err-cost.result _ c.from_residual-in_err-cost.ensures.1
    (three_first (count 1 longest) (λ c. count c longest) (λ c d. count 0 255) task_of c.args.value.at f (Err (Line (Number c.in_err-cost.field-0.0)))
    (ap numeral (c.in_err-cost.ensures.read _ _ _ f.first)))

pub returns-in_err-deadline : goal.returns-in_err-deadline
returns-in_err-deadline c =
    let f = three_of c.args.value.bytes.now c.args.value.at _ _ _ c.in_ok-x.ensures in
    gone c.from_residual-in_err-deadline.result _ c.from_residual-in_err-deadline.ensures.1
    (three_second (count 1 longest) (λ c. count c longest) (λ c d. count 0 255) task_of c.args.value.at f c.in_ok-cost.cost (Err (Line (Number c.in_err-deadline.field-0.0)))
    (ap numeral (c.in_ok-cost.ensures.read _ _ _ f.first)) (ap numeral (c.in_err-deadline.ensures.read _ _ _ f.second)))

pub returns-in_err-priority : goal.returns-in_err-priority
returns-in_err-priority c =
    let f = three_of c.args.value.bytes.now c.args.value.at _ _ _ c.in_ok-x.ensures in
    gone c.from_residual-in_err-priority.result _ c.from_residual-in_err-priority.ensures.1
    (three_third (count 1 longest) (λ c. count c longest) (λ c d. count 0 255) task_of c.args.value.at f c.in_ok-cost.cost c.in_ok-deadline.deadline (Err (Line (Number c.in_err-priority.field-0.0)))
    (ap numeral (c.in_ok-cost.ensures.read _ _ _ f.first)) (ap numeral (c.in_ok-deadline.ensures.read _ _ _ f.second)) (ap numeral (c.in_err-priority.ensures.read _ _ _ f.third)))

pub returns : goal.returns
returns c =
    let f = three_of c.args.value.bytes.now c.args.value.at _ _ _ c.in_ok-x.ensures in
    three_third (count 1 longest) (λ c. count c longest) (λ c d. count 0 255) task_of c.args.value.at f c.in_ok-cost.cost c.in_ok-deadline.deadline (Ok c.in_ok-priority.priority)
    (ap numeral (c.in_ok-cost.ensures.read _ _ _ f.first)) (ap numeral (c.in_ok-deadline.ensures.read _ _ _ f.second)) (ap numeral (c.in_ok-priority.ensures.read _ _ _ f.third))
