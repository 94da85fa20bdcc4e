use Rattle.std.proofs.Common.{rules}
use Rattle.std.proofs.lemmas.Fn.{fronts}
use Rattle.std.proofs.lemmas.Iterator.{YieldsList-from_slice}
use Rattle.strides.proofs.Reaching.{row_folded}
use Rattle.strides.proofs.Staying.{stays_at, places_all}
use Rattle.strides.proofs.stretch.Stretch.before_invariants.Goals as goal

pub returns : goal.returns
returns c =
    let v = c.args.view.now in
    places_all v c.args.self c.fold.result
    (row_folded (stays_at v) _ _ c.args.self fronts c.iter.result v.places.now c.fold.result (λ m x r q e l k. (search rules, search rules)) (YieldsList-from_slice v.places.now (cc)) c.fold.ensures.ran)
