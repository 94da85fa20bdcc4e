use Rattle.std.proofs.Common.{sym}
use Rattle.strides.proofs.Opening.{never_together, together}
use Rattle.strides.proofs.stretch.Stretch.before_partner.Goals as goal

pub returns-then-not-could_join : goal.returns-then-not-could_join
returns-then-not-could_join c = never_together c.args.view.now c.args.edge.now c.args.partner.now c.args.self (sym c.if-not-could_join.ensures)

pub returns : goal.returns
returns c = together c.args.view.now c.args.edge.now c.args.partner.now c.args.self c.guard_span-own.result c.guard_span-other.result c.meet.result c.guard_span-own.ensures c.guard_span-other.ensures c.meet.ensures.low c.meet.ensures.high (sym c.if-not-could_join.ensures) c.before_span.result c.before_span.ensures
