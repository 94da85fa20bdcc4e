use Rattle.std.proofs.Common.{◌<◌, sym, ap, arith}
use Rattle.ready_queue.specs.Waiting.{waiting}
use Rattle.jobs.specs.Jobs.{job_before}
use Rattle.sequence.specs.Whole.{plan}
use Rattle.moves.proofs.Releasing.{costs, numbered_more}
use Rattle.moves.proofs.engine.Engine.release.Goals as goal

pub invariant_of-self-in-Ok-2 : goal.invariant_of-self-in-Ok-2
invariant_of-self-in-Ok-2 g c =
    let e = c.args.self.now in
    let m = e.core in
    let before = job_before (g.O.Precedence.before c.args.order.now) in
    let cost = costs (plan m.sequence) m.sequence.draft.valid c.in-Some.number c.in-Some-task.task (sym c.in-Some-task.ensures) in
    let k : 0 < c.released-job.result.remaining = omega (arith, ap (λ j. j.remaining) c.released-job.ensures) in
    let n = numbered_more before m.next m.now c.released-job.result (waiting m.queue) (waiting c.release.new.self) c.in-Ok.ensures.1 k e.numbered in
    record { time = e.time; numbered = n; past = e.past }
