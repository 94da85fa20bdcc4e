use Rattle.std.proofs.Common.{◌≡◌, drop}
use Rattle.runs.specs.Edges.{reset_all}
use Rattle.rows.proofs.take.reset_all.Given as goal

-- what is left, from the clocks as they stand, gives what all give from the start
abbrev pub invariant-loop-reset : goal.invariant-loop-reset
invariant-loop-reset l = reset_all l.tick (drop l.reset-index l.resets) l.zeroed ≡ reset_all l.tick l.resets l.initial.zeroed
