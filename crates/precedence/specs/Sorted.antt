-- Records in order, and a record put at its place.
use Rattle.std.specs.Prelude.{◌≡◌, Bool, true, cond, not, ◌&&◌, List, [], ◌∷◌}

-- an order on records, by their keys
abbrev pub by_key : {X K : Type 0} → (X → K) → (K → K → Bool) → X → X → Bool
by_key key g a b = g (key a) (key b)

-- no record of the list goes before x
abbrev pub none_before : {X : Type 0} → (X → X → Bool) → X → List X → Bool
none_before g x [] = true
none_before g x (y ∷ ys) = not (g y x) && none_before g x ys

-- no record goes before one that stands in front of it
abbrev pub in_order : {X : Type 0} → (X → X → Bool) → List X → Bool
in_order g [] = true
in_order g (x ∷ xs) = none_before g x xs && in_order g xs

abbrev pub InOrder : {X : Type 0} → (X → X → Bool) → List X → Type 0
InOrder g xs = in_order g xs ≡ true

-- x in front of the first record that it goes before, at the end where it goes before none
abbrev pub put : {X : Type 0} → (X → X → Bool) → X → List X → List X
put g x [] = x ∷ []
put g x (y ∷ ys) = cond (g x y) (x ∷ y ∷ ys) (y ∷ put g x ys)
