-- What becomes of a job from event to event: it goes on where it was.
use Rattle.std.specs.Prelude.{◌≡◌, ℕ, ◌≤◌, Bool, false, ◌⊎◌, List, Some, Option}
use Rattle.std.specs.List.{ContainsAt as Has, AllByRecursion, slice_get}
use Rattle.jobs.specs.declared.job.Job.{Job}
use Rattle.jobs.specs.declared.job.JobKey.{JobKey}
use Rattle.jobs.specs.Jobs.{worked}
use Rattle.sources.specs.declared.trigger.Trigger.{Trigger}
use Rattle.parts.specs.declared.part.Task.{Task}
use Rattle.sequence.specs.Plan.{Plan}
use Rattle.runs.specs.declared.event.Worker.{Worker}
use Rattle.runs.specs.declared.event.Line.TheVariants as line
use Rattle.runs.specs.declared.event.Event.{Event}
use Rattle.runs.specs.declared.event.Event.TheVariants.{Made, Passed}
use Rattle.runs.specs.State.{State}
use Rattle.runs.specs.Runs.{Free, FreeRun}
use Rattle.runs.specs.Laws.{AtEach}

-- number, task, C, D, P and release tick are the same
pub record SameTerms (k j : Job) : Type 0 where
  pub number : j.number ≡ k.number
  pub task : j.task ≡ k.task
  pub cost : j.cost ≡ k.cost
  pub deadline : j.deadline ≡ k.deadline
  pub priority : j.priority ≡ k.priority
  pub release : j.release ≡ k.release

-- the job k worked in this event: its record but for one tick and the mark is as it was
abbrev pub WorkedFrom : Event → State → Job → Type 0
WorkedFrom e s j = (k : Job) × Has s.waiting k × (w : Worker) × (e ≡ Passed (Some w)) × (w.job ≡ k.number) × (j ≡ worked k) × SameTerms k j

-- the step of an edge line released the job, at the tick of that line
pub record ReleasedBy (e : Event) (s : State) (j : Job) : Type 0 where
  pub tick : ℕ
  pub number : ℕ
  pub partner : Option ℕ
  pub line_is : e ≡ Made (line.Edge tick number partner)
  pub released_then : j.release ≡ tick
  pub new : s.next ≤ j.number
  pub terms : Task
  pub of_task : slice_get s.plan.tasks j.task ≡ Some terms
  pub cost : j.cost ≡ terms.cost
  pub deadline : j.deadline ≡ terms.deadline
  pub priority : j.priority ≡ terms.priority
  pub whole : j.remaining ≡ j.cost
  pub fresh : j.started ≡ false

-- where a waiting job comes from
abbrev pub Origin : Event → State → Job → Type 0
Origin e s j = Has s.waiting j ⊎ (WorkedFrom e s j ⊎ ReleasedBy e s j)

-- where a waiting job goes to
abbrev pub Fate : Event → State → Job → Type 0
Fate e t j = Has t.waiting j ⊎ (Has t.waiting (worked j) ⊎ ((tick : ℕ) × (task : ℕ) × (e ≡ Made (line.Done tick task j.number))))

pub record GoesOn (e : Event) (s t : State) : Type 0 where
  pub from : AllByRecursion (Origin e s) t.waiting
  pub to : AllByRecursion (Fate e t) s.waiting

-- a preempted job keeps what remains to it; C, D, P and the release tick of a job never change
abbrev pub JobsGoOn : Type 0
JobsGoOn = (g : JobKey → JobKey → Bool) (p : Plan) (ts : List Trigger) (es : List Event) (t : State) (r : FreeRun g p ts es t) → AtEach (Free g) GoesOn _ es t r
