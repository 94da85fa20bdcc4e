use Rattle.service.proofs.Accounting.{done_means_exactly_C_within_D}
use Rattle.service.proofs.done_means_exactly_c_within_d.Goals as goal

pub returns : goal.returns
returns c = done_means_exactly_C_within_D
