use Rattle.std.proofs.Common.{[], arith}
use Rattle.std.proofs.lemmas.Result.{err_from_is_err_and}
use Rattle.runs.specs.Edges.{sides}
use Rattle.machine.specs.Model.{model}
use Rattle.events.specs.Steps.{listed}
use Rattle.events.proofs.Sided.{took_from, step_refused}
use Rattle.events.proofs.step.take.Goals as goal

pub returns-in_err-assign_sides : goal.returns-in_err-assign_sides
returns-in_err-assign_sides g c =
    let p = err_from_is_err_and c.from_residual.result c.from_residual.ensures.1 in
    rw p.1
    (step_refused (g.O.Precedence.before c.args.order.now) (listed c.new-sides.result) (sides c.args.edge.now c.args.partner) (model [] c.args.engine.now.core) (model [] c.assign_sides.new.engine.core)
    c.has_room.result c.in_err-assign_sides.field-0.0 p.0 c.new-sides.ensures (omega arith) c.has_room.ensures p.2 c.in_err-assign_sides.ensures)

pub returns : goal.returns
returns g c =
    took_from (g.O.Precedence.before c.args.order.now) c.args.edge.now (listed c.new-sides.result) (sides c.args.edge.now c.args.partner) (model [] c.args.engine.now.core)
    (model [] c.assign_sides.new.engine.core) (model [] c.take_sides.new.engine.core) (model [] c.count_step.new.self.core)
    c.has_room.result c.new-sides.ensures (omega arith) c.has_room.ensures c.in_ok-assign_sides.ensures c.take_sides.ensures c.count_step.ensures
