use Rattle.std.proofs.Common.{rules}
use Rattle.std.proofs.lemmas.Fn.{fold_over}
use Rattle.std.proofs.iter.Yields.{fronts}
use Rattle.std.proofs.lemmas.Iterator.{YieldsList-from_slice}
use Rattle.guards.proofs.Spans.{CommonSpan, common_none, common_more, common_is}
use Rattle.guards.proofs.valuation.Valuation.guard_span.Goals as goal

pub returns : goal.returns
returns c =
    let v = c.args.self in
    common_is v.zeroed.now v.values.now c.args.guard.now c.fold.result
    (fold_over fronts (λ x. x.now) _ (CommonSpan v.zeroed.now v.values.now) _
    (λ ds a x b q so_far k. (common_more v.zeroed.now v.values.now ds a b x.now so_far (search rules), search rules))
    c.iter.result _ _ _ (YieldsList-from_slice c.args.guard.now (cc)).runs
    (common_none v.zeroed.now v.values.now) c.fold.ensures.ran)
