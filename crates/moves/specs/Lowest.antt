-- The lowest present trigger and the lowest automaton that must not stay.
use Rattle.std.specs.Prelude.{◌≡◌, ℕ, ◌+◌, ◌<◌, Bool, true, false, List, Some, None, Option, slice_index_or}
use Rattle.runs.specs.State.{State}
use Rattle.runs.specs.Rules.{NonePresent, may_stay}

-- the lowest present trigger, or that none is present
abbrev pub LowestPresent : List Bool → Option ℕ → Type 0
LowestPresent ps None = NonePresent ps
LowestPresent ps (Some x) = (slice_index_or ps x false ≡ true) × ((y : ℕ) → y < x → slice_index_or ps y false ≡ false)

-- the lowest automaton whose invariants fail at the next tick, or that all may stay
abbrev pub LowestStuck : State → Option ℕ → Type 0
LowestStuck s None = (a : ℕ) → may_stay s (s.now + 1) a ≡ true
LowestStuck s (Some a) = (may_stay s (s.now + 1) a ≡ false) × ((b : ℕ) → b < a → may_stay s (s.now + 1) b ≡ true)
