use Rattle.service.proofs.Accounting.{nothing_leaves_its_bounds}
use Rattle.service.proofs.nothing_leaves_its_bounds.Goals as goal

pub returns : goal.returns
returns c = nothing_leaves_its_bounds
