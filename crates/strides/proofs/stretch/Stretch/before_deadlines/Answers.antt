use Rattle.std.proofs.Common.{◌≡◌, false, rules}
use Rattle.std.proofs.lemmas.Fn.{fronts}
use Rattle.std.proofs.lemmas.Iterator.{YieldsList-from_slice}
use Rattle.jobs.specs.Jobs.{late}
use Rattle.ready_queue.specs.Waiting.{waiting}
use Rattle.strides.proofs.Reaching.{row_folded}
use Rattle.strides.proofs.stretch.Stretch.before_deadlines.Goals as goal

pub returns : goal.returns
returns c =
    row_folded (λ j t. late t j ≡ false) _ _ c.args.self fronts c.iter.result (waiting c.args.queue.now) c.fold.result (λ m x r q e l k. (search rules, search rules)) (YieldsList-from_slice (waiting c.args.queue.now) (cc)) c.fold.ensures.ran
