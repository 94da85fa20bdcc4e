-- Nothing leaves its bounds.
use Rattle.std.specs.Prelude.{◌≡◌, ℕ, ◌+◌, ◌<◌, ◌≤◌, Bool, true, List, length, ℤ, pos, ◌≢◌, slice_index, slice_index_or}
use Rattle.std.specs.List.{AllByRecursion}
use Rattle.jobs.specs.declared.job.JobKey.{JobKey}
use Rattle.ready_queue.specs.Waiting.{NumbersApart}
use Rattle.sources.specs.declared.trigger.Trigger.{Trigger}
use Rattle.parts.specs.declared.part.Variable.{Variable}
use Rattle.sequence.specs.Plan.{Plan, Valid}
use Rattle.runs.specs.declared.event.Phase.TheVariants.{Late, Pass}
use Rattle.runs.specs.declared.event.Cause.TheVariants.{Overload}
use Rattle.runs.specs.declared.event.Event.{Event}
use Rattle.runs.specs.State.{State}
use Rattle.runs.specs.Values.{in_range, no_variable}
use Rattle.runs.specs.Edges.{sides, released}
use Rattle.runs.specs.Rules.{NonePresent, Refuses}
use Rattle.runs.specs.Runs.{FreeRun}

-- every variable lies within low to high
pub record InRanges (vars : List Variable) (values : List ℤ) : Type 0 where
  pub long : length values ≡ length vars
  pub each_in : (v : ℕ) → v < length values → in_range (slice_index_or vars v no_variable) (slice_index_or values v (pos 0)) ≡ true

pub record Bounded (p : Plan) (s : State) : Type 0 where
  pub same_plan : s.plan ≡ p
  pub jobs : length s.waiting ≤ 32
  pub steps : s.steps ≤ 64
  pub values : InRanges p.variables s.values
  pub time : s.now ≤ 1000000000
  pub apart : NumbersApart s.waiting
  pub given : AllByRecursion (λ j. j.number < s.next) s.waiting
  -- job numbers fit 32 bits
  pub numbers : s.next ≤ s.now + 32
  pub places : length s.places ≡ p.counts.automata
  pub clocks : length s.zeroed ≡ p.counts.clocks
  pub triggers : length s.present ≡ p.counts.triggers
  -- no clock was zeroed later than now, no job released later
  pub zeroed : (c : ℕ) → slice_index s.zeroed c ≤ s.now
  pub releases : AllByRecursion (λ j. j.release ≤ s.now) s.waiting
  -- once the late ones were looked for, no job waits past its deadline
  pub in_time : (s.phase ≢ Late) → AllByRecursion (λ j. s.now ≤ j.release + j.deadline) s.waiting
  -- in a closed tick nothing is present
  pub closed : s.phase ≡ Pass → NonePresent s.present

abbrev pub NothingLeavesItsBounds : Type 0
NothingLeavesItsBounds =
    (g : JobKey → JobKey → Bool) (p : Plan) → Valid p → (ts : List Trigger) (es : List Event) (s : State) → FreeRun g p ts es s →
    Bounded p s
    -- a step that releases no job never ends the run for want of room
    × ((tick e : ℕ) (t : State) (h : Refuses g tick Overload e s t) → s.next < (released g (sides h.tries.edge h.tries.mate) s).next)
