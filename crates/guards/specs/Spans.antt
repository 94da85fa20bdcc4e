-- The ticks at which conditions and guards hold, while no clock is zeroed and no variable changes.
use Rattle.std.specs.Prelude.{◌≡◌, ℕ, ◌<◌, ◌≤◌, Bool, true, false, ◌&&◌, List, ℤ, Some, None, Option, nat_le, slice_index}
use Rattle.parts.specs.declared.part.Condition.{Condition}
use Rattle.parts.specs.Limits.{last_tick}
use Rattle.runs.specs.Guards.{holds, if_used, guard_holds}
use Rattle.guards.specs.declared.span.Span.{Span}

-- no clock is zeroed later than a tick
abbrev pub ZeroedBy : List ℕ → ℕ → Type 0
ZeroedBy zeroed from = (c : ℕ) → slice_index zeroed c ≤ from

abbrev pub in_span : Span → ℕ → Bool
in_span s t = nat_le s.low t && nat_le t s.high

-- from a tick to the last one a test holds exactly at the ticks of a span
abbrev pub Spans : ℕ → (ℕ → Bool) → Span → Type 0
Spans from test s = (t : ℕ) → from ≤ t → t ≤ last_tick → test t ≡ in_span s t

abbrev pub ConditionSpans : List ℕ → List ℤ → Condition → Span → Type 0
ConditionSpans zeroed values condition s = (from : ℕ) → ZeroedBy zeroed from → Spans from (λ t. holds zeroed values t condition) s

-- a span and the condition in a place of a guard, if there is one, have a span in common
abbrev pub MeetsPlace : List ℕ → List ℤ → Span → Option Condition → Span → Type 0
MeetsPlace zeroed values so_far place met = (from : ℕ) → ZeroedBy zeroed from → Spans from (λ t. in_span so_far t && if_used place (holds zeroed values t)) met

abbrev pub GuardSpans : List ℕ → List ℤ → List (Option Condition) → Span → Type 0
GuardSpans zeroed values guard s = (from : ℕ) → ZeroedBy zeroed from → Spans from (λ t. guard_holds zeroed values t guard) s

-- the first tick from a tick on at which a test holds, or none to the last tick
abbrev pub FirstTick : ℕ → (ℕ → Bool) → Option ℕ → Type 0
FirstTick from test None = (t : ℕ) → from ≤ t → t ≤ last_tick → test t ≡ false
FirstTick from test (Some first) = (from ≤ first) × (first ≤ last_tick) × (test first ≡ true) × ((t : ℕ) → from ≤ t → t < first → test t ≡ false)

-- from a tick on a test that holds at two ticks holds at each tick between them
abbrev pub Interval : ℕ → (ℕ → Bool) → Type 0
Interval from test = (a b c : ℕ) → from ≤ a → a ≤ b → b ≤ c → test a ≡ true → test c ≡ true → test b ≡ true

-- while no clock is zeroed and no variable changes, a guard holds on an interval of ticks
abbrev pub GuardIsAnInterval : Type 0
GuardIsAnInterval = (zeroed : List ℕ) (values : List ℤ) (guard : List (Option Condition)) (from : ℕ) → ZeroedBy zeroed from → Interval from (λ t. guard_holds zeroed values t guard)
