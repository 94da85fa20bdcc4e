-- What an insertion does.
use Rattle.std.specs.Prelude.{◌≡◌, ℕ, ◌+◌, ◌<◌, ◌≤◌, Bool, true, false, List, ◌∷◌, ◌++◌, length, take, drop, Ok, Err, Result}
use Rattle.std.specs.List.{AllByRecursion}
use Rattle.precedence.specs.Sorted.{InOrder, put}

-- The old records as they stood, each once, and x among them.
-- Records that the order does not tell apart from x are in front of it: they came first.
pub record Inserted {X : Type 0} (g : X → X → Bool) (x : X) (old new : List X) : Type 0 where
  pub front : List X
  pub back : List X
  pub old_is : old ≡ front ++ back
  pub new_is : new ≡ front ++ (x ∷ back)
  -- x goes before none of those in front of it
  pub behind : AllByRecursion (λ y. g x y ≡ false) front
  -- and, where the old ones were in order, before each of those behind it
  pub ahead : InOrder g old → AllByRecursion (λ y. g x y ≡ true) back
  pub ordered : InOrder g old → InOrder g new

-- of a row whose first len places are in use
abbrev pub Inserts : {X : Type 0} → (X → X → Bool) → X → ℕ → (entry exit : List X) → Result Unit X → Type 0
Inserts g x len entry exit (Ok _) =
    (len < length entry)
    × (exit ≡ put g x (take len entry) ++ drop (len + 1) entry)
    × (take (len + 1) exit ≡ put g x (take len entry))
    × Inserted g x (take len entry) (take (len + 1) exit)
Inserts g x len entry exit (Err y) = (length entry ≤ len) × (y ≡ x) × (exit ≡ entry)
