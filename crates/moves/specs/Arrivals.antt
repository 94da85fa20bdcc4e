-- A trigger of this tick is taken from the list to come, and becomes present or not.
use Rattle.std.specs.Prelude.{◌≡◌, ℕ, ◌<◌, Bool, true, false, not, ◌&&◌, List, ◌∷◌, length, Some, None, Option, nat_lt, slice_index_or, slice_set}
use Rattle.sources.specs.declared.trigger.Trigger.{Trigger}
use Rattle.runs.specs.State.{State, with_triggers}
use Rattle.runs.specs.Rules.{NoTriggerDue}

-- the first trigger goes where its tick is this one; else the list stays
abbrev pub TakesDue : ℕ → (before after : List Trigger) → Option Trigger → Type 0
TakesDue tick before after None = NoTriggerDue tick before × (after ≡ before)
TakesDue tick before after (Some t) = (before ≡ t ∷ after) × (t.tick ≡ tick)

-- known and absent
abbrev pub is_new : List Bool → ℕ → Bool
is_new ps x = nat_lt x (length ps) && not (slice_index_or ps x false)

-- a trigger that is known and absent becomes present; any other changes nothing
abbrev pub Arrived : ℕ → (s t : State) → Bool → Type 0
Arrived x s t true = (x < length s.present) × (slice_index_or s.present x false ≡ false) × (t ≡ with_triggers (slice_set s.present x true) s.coming s)
Arrived x s t false = (x < length s.present → slice_index_or s.present x false ≡ true) × (t ≡ s)
