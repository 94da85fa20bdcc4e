-- Quiet ticks: nothing but time, work and phases changes, and no line is made. They pass together.
use Rattle.std.specs.Prelude.{◌≡◌, ℕ, ◌+◌, ◌-◌, ◌<◌, ◌≤◌, Bool, true, false, List, [], ◌∷◌}
use Rattle.std.specs.List.{AllByRecursion}
use Rattle.jobs.specs.declared.job.Job.{Job}
use Rattle.jobs.specs.declared.job.JobKey.{JobKey}
use Rattle.jobs.specs.Jobs.{late}
use Rattle.sources.specs.declared.trigger.Trigger.{Trigger}
use Rattle.parts.specs.Limits.{last_tick}
use Rattle.runs.specs.declared.event.Phase.TheVariants.{Pass}
use Rattle.runs.specs.declared.event.Event.{Event}
use Rattle.runs.specs.State.{State}
use Rattle.runs.specs.Edges.{NoneOpen}
use Rattle.runs.specs.Rules.{NonePresent, may_stay}
use Rattle.runs.specs.Runs.{Strict, Run, lines}

-- the same state at another tick
abbrev pub at_tick : ℕ → State → State
at_tick n s = record { plan = s.plan; now = n; phase = s.phase; places = s.places; zeroed = s.zeroed; values = s.values; waiting = s.waiting; next = s.next; present = s.present; steps = s.steps; ended = s.ended; coming = s.coming }

-- the first job does not come to its end within n ticks
abbrev pub Outlasts : ℕ → List Job → Type 0
Outlasts n [] = Unit {0}
Outlasts n (j ∷ js) = n < j.remaining

-- no trigger comes up to tick n
abbrev pub NoneDueBy : ℕ → List Trigger → Type 0
NoneDueBy n [] = Unit {0}
NoneDueBy n (t ∷ ts) = n < t.tick

-- the next n ticks of a closed state are quiet
pub record Quiet (n : ℕ) (s : State) : Type 0 where
  pub closed : s.phase ≡ Pass
  pub live : s.ended ≡ false
  pub clear : NonePresent s.present
  pub before_last : s.now + n ≤ last_tick
  -- no job comes to its end, and none becomes late
  pub busy : Outlasts n s.waiting
  pub in_time : AllByRecursion (λ j. late (s.now + n) j ≡ false) s.waiting
  pub no_trigger : NoneDueBy (s.now + n) s.coming
  -- no edge opens, and no invariant fails
  pub shut : (t : ℕ) → s.now < t → t ≤ s.now + n → NoneOpen (at_tick t s)
  pub stays : (t : ℕ) → s.now < t → t ≤ s.now + n → (a : ℕ) → may_stay s t a ≡ true

-- the first job after n ticks of work
abbrev pub served_by : ℕ → List Job → List Job
served_by n [] = []
served_by n (j ∷ js) = record { number = j.number; task = j.task; cost = j.cost; deadline = j.deadline; priority = j.priority; release = j.release; remaining = j.remaining - n; started = true } ∷ js

-- n ticks later, closed again
abbrev pub strode : ℕ → State → State
strode n s = record { plan = s.plan; now = s.now + n; phase = Pass; places = s.places; zeroed = s.zeroed; values = s.values; waiting = served_by n s.waiting; next = s.next; present = s.present; steps = 0; ended = s.ended; coming = s.coming }

-- quiet ticks, passed together, are a strict run without lines
abbrev pub QuietTicksPassTogether : Type 0
QuietTicksPassTogether =
    (g : JobKey → JobKey → Bool) (n : ℕ) (s : State) → 0 < n → Quiet n s →
    (es : List Event) × Run (Strict g) s es (strode n s) × (lines es ≡ [])
