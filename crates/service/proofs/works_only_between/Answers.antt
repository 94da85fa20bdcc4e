use Rattle.service.proofs.Numbering.{works_only_between}
use Rattle.service.proofs.works_only_between.Goals as goal

pub returns : goal.returns
returns c = works_only_between
