use Rattle.std.proofs.Common.{rules}
use Rattle.std.proofs.lemmas.Iterator.{YieldsList-from_slice}
use Rattle.std.proofs.lemmas.Iterator.Search.{position_from_yields_List}
use Rattle.precedence.specs.Sorted.{by_key}
use Rattle.precedence.proofs.Placing.{place_is}
use Rattle.precedence.proofs.place.Goals as goal

pub returns-clause-there : goal.returns-clause-there
returns-clause-there g c =
    let before = by_key g.T.Keyed.key (g.O.Precedence.before c.args.order.now) in
    let row = c.args.row.now in
    place_is before c.args.x.now row _ _
    (position_from_yields_List (before c.args.x.now) _ _ c.position.result c.position.ensures.ran (YieldsList-from_slice row c.iter.ensures.rest) (λ x b q h. search rules))
    c.unwrap_or.ensures
