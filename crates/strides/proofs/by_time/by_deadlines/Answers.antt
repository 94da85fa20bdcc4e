use Rattle.std.proofs.Common.{◌≡◌, ℕ, false}
use Rattle.std.specs.List.{AllByRecursion}
use Rattle.jobs.specs.Jobs.{late}
use Rattle.ready_queue.specs.Waiting.{waiting}
use Rattle.strides.proofs.Reaching.{between}
use Rattle.strides.proofs.by_time.by_deadlines.Goals as goal

pub returns : goal.returns
returns c h =
    let free : ℕ → Type 0 = λ t. AllByRecursion (λ j. late t j ≡ false) (waiting c.args.queue.now) in
    between free c.args.from c.args.reach c.new.result c.before_deadlines.result c.new.ensures.from c.new.ensures.to h c.before_deadlines.ensures
