use Rattle.guards.proofs.Spans.{meets_none, meets_some}
use Rattle.guards.proofs.valuation.Valuation.meet_place.Goals as goal

pub returns-in-None : goal.returns-in-None
returns-in-None c = rw c.in-None.is (meets_none c.args.self.zeroed.now c.args.self.values.now c.args.span)

pub returns-in-Some : goal.returns-in-Some
returns-in-Some c = rw c.in-Some.is (meets_some c.args.self.zeroed.now c.args.self.values.now c.args.span c.condition_span.result c.meet.result c.in-Some.c c.condition_span.ensures c.meet.ensures.low c.meet.ensures.high)
