use Rattle.std.proofs.Common.{◌≡◌, is_some, sym, ◌∙◌, arith}
use Rattle.std.specs.List.{count_by}
use Rattle.std.proofs.lemmas.Grind.{common_steps}
use Rattle.sequence.proofs.Filling.{used_count}
use Rattle.sequence.proofs.group.used_places.Goals as goal

pub returns : goal.returns
returns g c = let e : c.count.result ≡ count_by is_some c.args.row.now = grind (arith, common_steps) in e ∙ sym (used_count c.args.row.now)
