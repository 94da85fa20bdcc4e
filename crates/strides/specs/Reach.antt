-- How far a stride goes: up to the last tick in front of an obstacle.
use Rattle.std.specs.Prelude.{◌≡◌, ℕ, ◌+◌, ◌<◌, ◌≤◌, Bool, true, false, not, ◌&&◌, Some, None, Option, ◌==◌}
use Rattle.std.specs.List.{AllByRecursion}
use Rattle.sources.specs.declared.trigger.Trigger.{Trigger}
use Rattle.parts.specs.declared.part.Edge.{Edge}
use Rattle.parts.specs.Limits.{last_tick}
use Rattle.runs.specs.State.{State, automaton}
use Rattle.runs.specs.Guards.{guard_holds}
use Rattle.runs.specs.Edges.{leaves_current, ready, goes_alone, opposite, fits}
use Rattle.guards.specs.Spans.{ZeroedBy}
use Rattle.search.specs.declared.view.View.{View}
use Rattle.strides.specs.declared.stretch.Stretch.{Stretch}
use Rattle.strides.specs.Quiet.{at_tick}

-- behind a tick all ticks up to r are free, and the next one is not, unless r is as far as was asked
pub record Reaches (free : ℕ → Type 0) (from reach r : ℕ) : Type 0 where
  pub ahead : from ≤ r
  pub within : r ≤ reach
  pub free_to : (t : ℕ) → from < t → t ≤ r → free t
  pub stops : r < reach → free (r + 1) → ⊥

-- the part of a stretch in front of the first tick that is not free
pub record FreePart (free : ℕ → Type 0) (s r : Stretch) : Type 0 where
  pub same_start : r.from ≡ s.from
  pub reaches : Reaches free s.from s.to r.to

-- the same by a view; it is right up to the last tick, where no clock is zeroed later than the stretch starts
abbrev pub ViewFreePart : View → (ℕ → Type 0) → Stretch → Stretch → Type 0
ViewFreePart v free s r = ZeroedBy v.valuation.zeroed.now s.from → s.to ≤ last_tick → FreePart free s r

-- as far as a tick from a view's own tick on; right where ViewFreePart is
abbrev pub ViewReaches : View → (ℕ → Type 0) → (reach r : ℕ) → Type 0
ViewReaches v free reach r = ZeroedBy v.valuation.zeroed.now v.now → v.now ≤ reach → reach ≤ last_tick → Reaches free v.now reach r

-- the first trigger to come, if any, comes behind a tick
abbrev pub ComesBehind : ℕ → Option Trigger → Type 0
ComesBehind t None = Unit {0}
ComesBehind t (Some x) = t < x.tick

-- an edge that is ready can be taken neither alone nor with a partner
abbrev pub EdgeShut : State → Edge → Type 0
EdgeShut s d = ready s d ≡ true → (goes_alone s.present d.label ≡ false) × AllByRecursion (λ c. fits s d c ≡ false) s.plan.edges

-- an edge of another automaton that leaves its current location and has the opposite label
abbrev pub could_join : State → Edge → Edge → Bool
could_join s d c = not (automaton s.plan d.from == automaton s.plan c.from) && (leaves_current s.plan s.places c && opposite d.label c.label)

-- at a tick an edge's guard holds, and another edge is its fitting partner
abbrev pub pairs_at : State → ℕ → Edge → Edge → Bool
pairs_at s t d c = guard_holds s.zeroed s.values t d.guard && fits (at_tick t s) d c
