-- The laws that every order on records keeps.
use Rattle.std.specs.Prelude.{◌≡◌, Bool, true, false}

-- A strict weak order: `g a b` says that a goes before b. Two records that neither goes before are of equal rank.
pub record WeakOrder {X : Type 0} (g : X → X → Bool) : Type 0 where
  pub transitive : (a b c : X) → g a b ≡ true → g b c ≡ true → g a c ≡ true
  -- never both ways
  pub asymmetric : (a b : X) → g a b ≡ true → g b a ≡ false
  -- equal rank is transitive
  pub equal_rank : (a b c : X) → g a b ≡ false → g b a ≡ false → g b c ≡ false → g c b ≡ false → g a c ≡ false
