use Rattle.std.proofs.Common.{Ok, Err, ap}
use Rattle.lexical.specs.declared.fault.LineFault.TheVariants.{Number}
use Rattle.lexical.specs.declared.fault.SequenceFault.TheVariants.{Line}
use Rattle.lexical.specs.Fields.{count, numeral}
use Rattle.lines.specs.Values.{edge_count_of}
use Rattle.lines.proofs.Rows.{gone, one_only}
use Rattle.lines.proofs.edge.edge_count_line.Goals as goal

pub returns-in_err-number : goal.returns-in_err-number
returns-in_err-number c =
    let f = c.in_ok-x.ensures in
    gone c.from_residual-in_err-number.result _ c.from_residual-in_err-number.ensures.1
    (one_only (count 0 128) edge_count_of c.args.at f (Err (Line (Number c.in_err-number.field-0.0)))
    (ap numeral (c.in_err-number.ensures.read _ _ _ f.first)))

pub returns : goal.returns
returns c =
    let f = c.in_ok-x.ensures in
    one_only (count 0 128) edge_count_of c.args.at f (Ok c.in_ok-number.field-0)
    (ap numeral (c.in_ok-number.ensures.read _ _ _ f.first))
