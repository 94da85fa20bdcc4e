use Rattle.std.proofs.Common.{◌∙◌}
use Rattle.sequence.proofs.Filling.{nth_last}
use Rattle.sequence.proofs.group.last.Goals as goal

pub returns : goal.returns
returns g c = c.copied.ensures ∙ (c.last.ensures.value ∙ nth_last c.args.row.now)
