-- The lists of triggers that sources stand for.
use Rattle.std.specs.Prelude.{◌≡◌, ℕ, Bool, true, List, [], ◌∷◌, Some, None, Option, nat_le, nat_lt}
use Rattle.std.specs.List.{list_all}
use Rattle.precedence.specs.Sorted.{InOrder}
use Rattle.sources.specs.declared.trigger.Trigger.{Trigger}

-- the last tick that a trigger can have
abbrev pub last_tick : ℕ
last_tick = 1000000000

-- the smaller tick goes first
abbrev pub earlier : Trigger → Trigger → Bool
earlier a b = nat_lt a.tick b.tick

abbrev pub all_within : List Trigger → Bool
all_within = list_all (λ t. nat_le t.tick last_tick)

-- what a source stands for: the ticks never fall, and none is over the last tick
pub record TriggerList (ts : List Trigger) : Type 0 where
  pub ordered : InOrder earlier ts
  pub within : all_within ts ≡ true

abbrev pub first : List Trigger → Option Trigger
first [] = None
first (t ∷ ts) = Some t

-- all but the first
abbrev pub rest : List Trigger → List Trigger
rest [] = []
rest (t ∷ ts) = ts
