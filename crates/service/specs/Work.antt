-- Who works in a tick, and how often a job has worked.
use Rattle.std.specs.Prelude.{◌≡◌, ℕ, ◌+◌, ◌≤◌, Bool, false, List, [], ◌∷◌, ◌++◌, Some, None, Option, ◌==◌}
use Rattle.std.specs.List.{AllByRecursion}
use Rattle.precedence.specs.Laws.{WeakOrder}
use Rattle.precedence.specs.Sorted.{InOrder}
use Rattle.jobs.specs.declared.job.Job.{Job}
use Rattle.jobs.specs.declared.job.JobKey.{JobKey}
use Rattle.jobs.specs.Jobs.{job_before, worked}
use Rattle.jobs.specs.Laws.{JobOrder}
use Rattle.sources.specs.declared.trigger.Trigger.{Trigger}
use Rattle.sequence.specs.Plan.{Plan, Valid}
use Rattle.runs.specs.declared.event.Worker.{Worker}
use Rattle.runs.specs.declared.event.Line.TheVariants as line
use Rattle.runs.specs.declared.event.Event.{Event}
use Rattle.runs.specs.declared.event.Event.TheVariants.{Made, Came, Left, Passed}
use Rattle.runs.specs.State.{State}
use Rattle.runs.specs.Runs.{Free, Run, FreeRun}
use Rattle.runs.specs.Laws.{AtEach, count_if}

-- ---- the right job works

-- one waiting job works, and only it: the one that no other goes before
pub record Serves (g : JobKey → JobKey → Bool) (w : Worker) (before after : List Job) : Type 0 where
  pub front : List Job
  pub job : Job
  pub back : List Job
  pub number : w.job ≡ job.number
  pub task : w.task ≡ job.task
  pub waits : before ≡ front ++ (job ∷ back)
  pub foremost : AllByRecursion (λ k. job_before g k job ≡ false) before
  pub works : after ≡ front ++ (worked job ∷ back)

-- nobody works only where nobody waits
abbrev pub Works : (JobKey → JobKey → Bool) → Option Worker → (before after : List Job) → Type 0
Works g None before after = (before ≡ []) × (after ≡ [])
Works g (Some w) before after = Serves g w before after

abbrev pub ServesIn : (JobKey → JobKey → Bool) → Event → State → State → Type 0
ServesIn g (Made l) s t = Unit {0}
ServesIn g (Came x) s t = Unit {0}
ServesIn g (Left p) s t = Unit {0}
ServesIn g (Passed w) s t = Works g w s.waiting t.waiting

-- in every tick that passes, and the waiting list is in order at every point
abbrev pub TheRightJobWorks : Type 0
TheRightJobWorks =
    (g : JobKey → JobKey → Bool) → WeakOrder g → JobOrder g → (p : Plan) (ts : List Trigger) (es : List Event) (t : State) (r : FreeRun g p ts es t) →
    AtEach (Free g) (ServesIn g) _ es t r × InOrder (job_before g) t.waiting

-- ---- how many ticks a job has worked: the passes of the run that name it

abbrev pub names : Option Worker → ℕ → Bool
names None n = false
names (Some w) n = w.job == n

abbrev pub works_in : ℕ → Event → ℕ
works_in n (Made l) = 0
works_in n (Came x) = 0
works_in n (Left p) = 0
works_in n (Passed w) = count_if (names w n)

abbrev pub ticks_worked : ℕ → List Event → ℕ
ticks_worked n [] = 0
ticks_worked n (e ∷ es) = works_in n e + ticks_worked n es

-- a job with a done line worked exactly C ticks, and is done within D of its release
pub record DoneRight (es : List Event) (tick task number : ℕ) (s : State) : Type 0 where
  pub job : Job
  pub rest : List Job
  pub first : s.waiting ≡ job ∷ rest
  pub is_number : number ≡ job.number
  pub is_task : task ≡ job.task
  pub exactly : ticks_worked number es ≡ job.cost
  pub within : tick ≤ job.release + job.deadline

abbrev pub DoneMeansExactlyCWithinD : Type 0
DoneMeansExactlyCWithinD =
    (g : JobKey → JobKey → Bool) (p : Plan) → Valid p → (ts : List Trigger) (es : List Event) (s t : State) (tick task number : ℕ) →
    FreeRun g p ts es s → Free g (Made (line.Done tick task number)) s t → DoneRight es tick task number s

-- a job works in no tick before its release (its number is not given yet), and in none after it is done
abbrev pub WorksOnlyBetween : Type 0
WorksOnlyBetween =
    (g : JobKey → JobKey → Bool) (p : Plan) (ts : List Trigger) (es : List Event) (s : State) → FreeRun g p ts es s →
    ((n : ℕ) → s.next ≤ n → ticks_worked n es ≡ 0)
    × ((tick task number : ℕ) (t : State) → Free g (Made (line.Done tick task number)) s t → (fs : List Event) (u : State) → Run (Free g) t fs u → ticks_worked number fs ≡ 0)
