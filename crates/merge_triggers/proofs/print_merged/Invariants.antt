use Rattle.std.proofs.Common.{length}
use Rattle.sources.specs.Lists.{earlier}
use Rattle.sources.specs.Merging.{merge}
use Rattle.merge_triggers.proofs.print_merged.Given as goal

-- the triggers that are still to come
abbrev pub decreases-loop-trigger : goal.decreases-loop-trigger
decreases-loop-trigger g l = length (merge earlier (g.L.Source.list l.pair.left) (g.R.Source.list l.pair.right))
