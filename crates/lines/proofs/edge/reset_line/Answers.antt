use Rattle.std.proofs.Common.{Ok, Err}
use Rattle.lexical.specs.Fields.{reference}
use Rattle.lines.specs.Values.{reset_of}
use Rattle.lines.proofs.Rows.{gone, one_only}
use Rattle.lines.proofs.edge.reset_line.Goals as goal

pub returns-in_err-clock : goal.returns-in_err-clock
returns-in_err-clock c =
    let f = c.in_ok-x.ensures in
    gone c.from_residual-in_err-clock.result _ c.from_residual-in_err-clock.ensures.1
    (one_only (reference c.args.present.scope.counts.clocks) reset_of c.args.at f (Err c.in_err-clock.field-0.0)
    (c.in_err-clock.ensures _ _ _ f.first))

pub returns : goal.returns
returns c =
    let f = c.in_ok-x.ensures in
    one_only (reference c.args.present.scope.counts.clocks) reset_of c.args.at f (Ok c.in_ok-clock.clock)
    (c.in_ok-clock.ensures _ _ _ f.first)
