use Rattle.service.proofs.Serving.{the_right_job_works}
use Rattle.service.proofs.the_right_job_works.Goals as goal

pub returns : goal.returns
returns c = the_right_job_works
