-- What the calls of the ready queue do, by the waiting jobs before and after.
use Rattle.std.specs.Prelude.{◌≡◌, ◌<◌, Bool, false, List, [], length, Some, None, Ok, Err, Option, Result}
use Rattle.std.specs.List.{slice_get, AllByRecursion}
use Rattle.precedence.specs.Laws.{WeakOrder}
use Rattle.precedence.specs.Sorted.{InOrder, put}
use Rattle.precedence.specs.Insertion.{Inserted}
use Rattle.jobs.specs.declared.job.Job.{Job}
use Rattle.jobs.specs.declared.job.JobKey.{JobKey}
use Rattle.jobs.specs.Jobs.{job_before}
use Rattle.jobs.specs.Laws.{JobOrder}
use Rattle.ready_queue.specs.declared.queue.QueueFull.{QueueFull}
use Rattle.ready_queue.specs.Waiting.{rest, serve_first, NewNumber, NumbersApart}

-- under any order that the queue is kept in, no waiting job goes before the first
abbrev pub Leads : List Job → Option Job → Type 0
Leads js None = js ≡ []
Leads js (Some j) = (g : JobKey → JobKey → Bool) → WeakOrder g → InOrder (job_before g) js → AllByRecursion (λ k. job_before g k j ≡ false) js

-- A release: the job is put at its place, the others stay as they were, each with the ticks that remain to it.
abbrev pub Releases : (Job → Job → Bool) → Job → (before after : List Job) → Result Unit QueueFull → Type 0
Releases g j before after (Ok _) =
    (length before < 32)
    × (after ≡ put g j before)
    × Inserted g j before after
    × (NewNumber j before → NumbersApart before → NumbersApart after)
Releases g j before after (Err full) = (length before ≡ 32) × (full.0 ≡ j) × (after ≡ before)

-- A tick of the processor: the first job works, and stays first in any order.
abbrev pub Serves : (before after : List Job) → Option Job → Type 0
Serves before after r =
    (r ≡ slice_get before 0)
    × (after ≡ serve_first before)
    × ((g : JobKey → JobKey → Bool) → WeakOrder g → JobOrder g → NumbersApart before → InOrder (job_before g) before → InOrder (job_before g) after)
    × (NumbersApart before → NumbersApart after)

-- The first job leaves; the others stay as they were.
abbrev pub Leaves : (before after : List Job) → Option Job → Type 0
Leaves before after r =
    (r ≡ slice_get before 0)
    × (after ≡ rest before)
    × ((g : JobKey → JobKey → Bool) → InOrder (job_before g) before → InOrder (job_before g) after)
    × (NumbersApart before → NumbersApart after)
