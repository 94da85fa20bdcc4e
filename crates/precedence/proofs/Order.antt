-- What follows from the laws of a weak order.
use Rattle.std.proofs.Common.{◌≡◌, Bool, true, false, List, [], ◌∷◌, refl, ⊎_elim}
use Rattle.std.proofs.lemmas.Bool.{cases_Bool, both_ways, and_parts, and_from, not-true, not_from_false}
use Rattle.std.specs.List.{AllByRecursion}
use Rattle.precedence.specs.Laws.{WeakOrder}
use Rattle.precedence.specs.Sorted.{by_key, none_before}

-- an order on keys orders the records that have them
pub by_key_lawful : {X K : Type 0} (key : X → K) (g : K → K → Bool) → WeakOrder g → WeakOrder (by_key key g)
by_key_lawful key g w = record {
  transitive = λ a b c. w.transitive (key a) (key b) (key c);
  asymmetric = λ a b. w.asymmetric (key a) (key b);
  equal_rank = λ a b c. w.equal_rank (key a) (key b) (key c);
}

module _ {X : Type 0} (g : X → X → Bool) (w : WeakOrder g) where
  pub irreflexive : (a : X) → g a a ≡ false
  irreflexive a = ⊎_elim (λ (t : g a a ≡ true). w.asymmetric a a t) (λ f. f) (cases_Bool (g a a))

  -- "does not go before" is transitive
  pub not_before : (a b c : X) → g a b ≡ false → g b c ≡ false → g a c ≡ false
  not_before a b c p q =
      ⊎_elim
      (λ (t : g a c ≡ true).
      let ba : g b a ≡ false = ⊎_elim (λ (u : g b a ≡ true). absurd (both_ways _ q (w.transitive b a c u t))) (λ f. f) (cases_Bool (g b a)) in
      let cb : g c b ≡ false = ⊎_elim (λ (u : g c b ≡ true). absurd (both_ways _ p (w.transitive a c b t u))) (λ f. f) (cases_Bool (g c b)) in
      w.equal_rank a b c p ba q cb)
      (λ f. f)
      (cases_Bool (g a c))

  -- what x goes before, y does not go before
  pub before_rest : (x y z : X) → g x y ≡ true → g z y ≡ false → g x z ≡ true
  before_rest x y z t f =
      ⊎_elim (λ u. u) (λ (n : g x z ≡ false). absurd (both_ways _ (not_before x z y n f) t)) (cases_Bool (g x z))

  -- where none of ys goes before y and y not before x, none of ys goes before x
  pub none_below : (x y : X) (ys : List X) → g y x ≡ false → none_before g y ys ≡ true → none_before g x ys ≡ true
  none_below x y [] h n = refl
  none_below x y (z ∷ zs) h n =
      let p = and_parts _ _ n in
      and_from _ _ (not_from_false _ (not_before z y x (not-true _ p.0) h)) (none_below x y zs h p.1)

  pub before_all : (x y : X) (ys : List X) → g x y ≡ true → none_before g y ys ≡ true → AllByRecursion (λ z. g x z ≡ true) ys
  before_all x y [] t n = tt
  before_all x y (z ∷ zs) t n =
      let p = and_parts _ _ n in
      (before_rest x y z t (not-true _ p.0), before_all x y zs t p.1)
