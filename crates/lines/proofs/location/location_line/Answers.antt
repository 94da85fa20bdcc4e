use Rattle.std.proofs.Common.{Ok, Err}
use Rattle.lexical.specs.Fields.{reference, optional}
use Rattle.grammar.specs.Reading.{location_of}
use Rattle.lines.proofs.Shapes.{two_of}
use Rattle.lines.proofs.Rows.{gone, two_first, two_second}
use Rattle.lines.proofs.location.location_line.Goals as goal

pub returns-in_err-automaton : goal.returns-in_err-automaton
returns-in_err-automaton c =
    let f = two_of c.args.value.bytes.now c.args.value.at _ _ c.in_ok-x.ensures in
    gone c.from_residual-in_err-automaton.result _ c.from_residual-in_err-automaton.ensures.1
    (two_first (reference c.args.present.scope.counts.automata) (optional (reference c.args.present.scope.tasks)) location_of c.args.value.at f (Err c.in_err-automaton.field-0.0)
    (c.in_err-automaton.ensures _ _ _ f.first))

pub returns-in_err-task : goal.returns-in_err-task
returns-in_err-task c =
    let f = two_of c.args.value.bytes.now c.args.value.at _ _ c.in_ok-x.ensures in
    gone c.from_residual-in_err-task.result _ c.from_residual-in_err-task.ensures.1
    (two_second (reference c.args.present.scope.counts.automata) (optional (reference c.args.present.scope.tasks)) location_of c.args.value.at f c.in_ok-automaton.automaton (Err c.in_err-task.field-0.0)
    (c.in_ok-automaton.ensures _ _ _ f.first) (c.in_err-task.ensures _ _ _ f.second))

pub returns : goal.returns
returns c =
    let f = two_of c.args.value.bytes.now c.args.value.at _ _ c.in_ok-x.ensures in
    two_second (reference c.args.present.scope.counts.automata) (optional (reference c.args.present.scope.tasks)) location_of c.args.value.at f c.in_ok-automaton.automaton (Ok c.in_ok-task.task)
    (c.in_ok-automaton.ensures _ _ _ f.first) (c.in_ok-task.ensures _ _ _ f.second)
