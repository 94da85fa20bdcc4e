use Rattle.service.proofs.Showing.{service_facts}
use Rattle.service.proofs.service_facts.Goals as goal

pub returns : goal.returns
returns c = service_facts
