-- Jobs of a run: release, service, the first that is done.
use Rattle.std.specs.Prelude.{ℕ, ◌+◌, Bool, cond, List, [], ◌∷◌, Some, None, Option, ◌==◌}
use Rattle.std.specs.List.{slice_get}
use Rattle.precedence.specs.Sorted.{put}
use Rattle.jobs.specs.declared.job.Job.{Job}
use Rattle.jobs.specs.declared.job.JobKey.{JobKey}
use Rattle.jobs.specs.Jobs.{job_before, released_job}
use Rattle.parts.specs.declared.part.Assignment.{Assignment}
use Rattle.parts.specs.declared.part.Task.{Task}
use Rattle.parts.specs.declared.part.Location.{Location}
use Rattle.parts.specs.declared.part.Edge.{Edge}
use Rattle.sequence.specs.Plan.{Plan}
use Rattle.runs.specs.declared.event.Worker.{Worker}

-- the next number and the waiting jobs
pub record Queue : Type 0 where
  pub next : ℕ
  pub jobs : List Job

abbrev pub task_in : Option Location → Option ℕ
task_in None = None
task_in (Some l) = l.task

-- what a task assigns when a job of it is done; nothing where there is no such task
abbrev pub assignments_in : Option Task → List (Option Assignment)
assignments_in None = []
assignments_in (Some t) = t.assignments

abbrev pub task_assignments : Plan → ℕ → List (Option Assignment)
task_assignments p i = assignments_in (slice_get p.tasks i)

module _ (g : JobKey → JobKey → Bool) where
  -- a job of the task with number i is released at a tick
  abbrev pub release_task : (tick i : ℕ) → Option Task → Queue → Queue
  release_task tick i None q = q
  release_task tick i (Some t) q = record { next = q.next + 1; jobs = put (job_before g) (released_job q.next i t.cost t.deadline t.priority tick) q.jobs }

  abbrev pub release_number : List Task → (tick : ℕ) → Option ℕ → Queue → Queue
  release_number ts tick None q = q
  release_number ts tick (Some i) q = release_task tick i (slice_get ts i) q

  -- the new locations of some edges release their tasks, one edge behind the other
  abbrev pub release_edges : Plan → (tick : ℕ) → List Edge → Queue → Queue
  release_edges p tick [] q = q
  release_edges p tick (d ∷ ds) q = release_edges p tick ds (release_number p.tasks tick (task_in (slice_get p.locations d.to)) q)

-- the first job, if nothing remains to it
abbrev pub finished : List Job → Option Job
finished [] = None
finished (j ∷ js) = cond (j.remaining == 0) (Some j) None

-- the job that works, if any waits: the first
abbrev pub worker : List Job → Option Worker
worker [] = None
worker (j ∷ js) = Some (record { job = j.number; task = j.task })
