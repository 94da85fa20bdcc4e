use Rattle.sources.specs.Lists.{earlier}
use Rattle.sources.specs.Members.{earlier_lawful}
use Rattle.sources.proofs.Merging.{merge_merged}
use Rattle.sources.proofs.merge_keeps_both.Goals as goal

pub returns : goal.returns
returns c = merge_merged earlier earlier_lawful
