use Rattle.std.proofs.Common.{rules}
use Rattle.std.proofs.lemmas.Fn.{fronts}
use Rattle.std.proofs.lemmas.Iterator.{YieldsList-from_slice}
use Rattle.strides.proofs.Reaching.{row_folded}
use Rattle.strides.proofs.Staying.{kept_at, group_all}
use Rattle.strides.proofs.stretch.Stretch.before_group.Goals as goal

pub returns : goal.returns
returns c =
    let zeroed = c.args.zeroed.now in
    let is = c.args.invariants.now in
    group_all zeroed is c.args.self c.fold.result
    (row_folded (kept_at zeroed) _ _ c.args.self fronts c.iter.result is c.fold.result (λ m x r q e l k. (search rules, search rules)) (YieldsList-from_slice is (cc)) c.fold.ensures.ran)
