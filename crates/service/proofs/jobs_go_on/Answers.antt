use Rattle.service.proofs.Going.{jobs_go_on}
use Rattle.service.proofs.jobs_go_on.Goals as goal

pub returns : goal.returns
returns c = jobs_go_on
