use Rattle.strides.proofs.Hopping.{quiet_ticks_pass_together}
use Rattle.strides.proofs.quiet_ticks_pass_together.Goals as goal

pub returns : goal.returns
returns c = quiet_ticks_pass_together
