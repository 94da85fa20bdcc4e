use Rattle.std.proofs.Common.{rules}
use Rattle.guards.proofs.valuation.Valuation.condition_holds.Goals as goal

pub returns-in-Difference : goal.returns-in-Difference
returns-in-Difference c = rw c.in-Difference.is (search rules)
