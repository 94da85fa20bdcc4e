use Rattle.std.proofs.Common.{[]}
use Rattle.machine.specs.Model.{model}
use Rattle.events.proofs.Sided.{two_taken}
use Rattle.events.proofs.step.take_sides.Goals as goal

pub returns-in-Some : goal.returns-in-Some
returns-in-Some g c = two_taken (g.O.Precedence.before c.args.order.now) (model [] c.args.engine.now.core) (model [] c.take_side.new.engine.core) (model [] c.take_side-in-Some.new.engine.core)
    c.args.sides.now.first c.in-Some.edge c.args.sides.now.second c.in-Some.is c.take_side.ensures c.take_side-in-Some.ensures
