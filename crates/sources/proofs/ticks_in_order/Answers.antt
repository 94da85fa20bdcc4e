use Rattle.std.proofs.Common.{leb, rules}
use Rattle.std.proofs.lemmas.Fn.{always_returns_same}
use Rattle.sources.proofs.Checking.{sorted_is}
use Rattle.sources.proofs.ticks_in_order.Goals as goal

pub returns : goal.returns
returns c = sorted_is c.args.rows.now _ (c.is_sorted_by.ensures.cases (λ x y. leb x.tick y.tick) (always_returns_same _ _ _ (λ a r f h. search rules)))
