use Rattle.std.proofs.Common.{◌≡◌, arith}
use Rattle.strides.proofs.Ending.{zeroed_shown, all_obstacles, stride_ends}
use Rattle.strides.proofs.stride_end.Goals as goal

pub returns : goal.returns
returns c s shown closed =
    let v = c.args.view.now in
    let q = c.args.queue.now in
    let z = zeroed_shown v q c.args.first s shown closed in
    let far : c.new.result.to ≡ c.min-reach.result = omega (arith, c.new.ensures.to) in
    let ends =
    all_obstacles v q c.args.first c.new.result c.before_first_job.result c.before_deadlines.result c.before_trigger.result c.before_invariants.result c.before_edges.result c.new.ensures.from c.before_first_job.ensures c.before_deadlines.ensures c.before_trigger.ensures c.before_invariants.ensures
    (c.before_edges.ensures (λ k. omega (arith, z k, c.new.ensures.from, c.before_first_job.ensures.same_start, c.before_deadlines.ensures.same_start, c.before_trigger.ensures.same_start, c.before_invariants.ensures.same_start))
    (omega (arith, far, c.before_first_job.ensures.reaches.within, c.before_deadlines.ensures.reaches.within, c.before_trigger.ensures.reaches.within, c.before_invariants.ensures.reaches.within))) in
    stride_ends v q c.args.first s shown closed c.args.until c.min-reach.result c.before_edges.result.to (omega arith) (omega arith) (rw far at ends)
