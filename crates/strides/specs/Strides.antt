-- The longest stride from a closed tick.
use Rattle.std.specs.Prelude.{◌≡◌, ℕ, ◌+◌, ◌-◌, ◌<◌, ◌≤◌, false, Option}
use Rattle.std.specs.List.{slice_get}
use Rattle.ready_queue.specs.declared.queue.ReadyQueue.{ReadyQueue}
use Rattle.ready_queue.specs.Waiting.{waiting}
use Rattle.sources.specs.declared.trigger.Trigger.{Trigger}
use Rattle.runs.specs.declared.event.Phase.TheVariants.{Pass}
use Rattle.runs.specs.State.{State}
use Rattle.runs.specs.Rules.{NonePresent}
use Rattle.guards.specs.Spans.{ZeroedBy}
use Rattle.search.specs.declared.view.View.{View}
use Rattle.strides.specs.Quiet.{Quiet}

-- a view, a queue and the first trigger to come show all of a state that decides how far a stride goes
pub record Shown (v : View) (q : ReadyQueue) (first : Option Trigger) (s : State) : Type 0 where
  pub edges : v.edges.now ≡ s.plan.edges
  pub locations : v.locations.now ≡ s.plan.locations
  pub now : v.now ≡ s.now
  pub places : v.places.now ≡ s.places
  pub zeroed : v.valuation.zeroed.now ≡ s.zeroed
  pub values : v.valuation.values.now ≡ s.values
  pub present : v.present.now ≡ s.present
  pub jobs : waiting q ≡ s.waiting
  pub comes : first ≡ slice_get s.coming 0

-- a closed tick of a run that goes on; no clock is zeroed later
pub record Closed (s : State) : Type 0 where
  pub in_pass : s.phase ≡ Pass
  pub live : s.ended ≡ false
  pub clear : NonePresent s.present
  pub zeroed_by : ZeroedBy s.zeroed s.now

-- of the ticks up to one that is asked for, r is the last to which ticks pass together
pub record StrideEnd (s : State) (until r : ℕ) : Type 0 where
  pub ahead : s.now ≤ r
  pub within : s.now ≤ until → r ≤ until
  pub quiet : (n : ℕ) → 0 < n → s.now + n ≤ r → Quiet n s
  pub longest : (n : ℕ) → s.now + n ≤ until → Quiet n s → s.now + n ≤ r
  -- where nothing is due now, the stride of no tick is quiet too
  pub all_quiet : Quiet 0 s → Quiet (r - s.now) s
