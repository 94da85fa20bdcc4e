-- the rows to come are a table's rest
use Rattle.std.proofs.Common.{length}
use Rattle.serve_table.proofs.Run.release.Given as goal

abbrev pub decreases-loop-self : goal.decreases-loop-self
decreases-loop-self g l = length l.self.to_come.now
