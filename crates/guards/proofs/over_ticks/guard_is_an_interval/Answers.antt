use Rattle.guards.proofs.Intervals.{guard_is_an_interval}
use Rattle.guards.proofs.over_ticks.guard_is_an_interval.Goals as goal

pub returns : goal.returns
returns c = guard_is_an_interval
