use Rattle.std.proofs.Common.{refl}
use Rattle.sources.specs.Lists.{earlier}
use Rattle.sources.specs.Members.{earlier_lawful}
use Rattle.sources.proofs.Merging.{merge_merged}
use Rattle.sources.proofs.Pair.new.Goals as goal

pub returns : goal.returns
returns g c = record {
  left = refl;
  right = refl;
  merged = merge_merged earlier earlier_lawful (g.L.Source.list c.args.left) (g.R.Source.list c.args.right);
}
