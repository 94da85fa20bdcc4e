-- What `put` leaves: the old records with the new one among them, in order.
use Rattle.std.proofs.Common.{◌≡◌, ◌+◌, Bool, true, false, List, [], ◌∷◌, length, refl, ap, subst, arith}
use Rattle.std.proofs.lemmas.Bool.{cond_both, and_parts, and_from, not_from_false}
use Rattle.precedence.specs.Laws.{WeakOrder}
use Rattle.precedence.specs.Sorted.{put, none_before, InOrder}
use Rattle.precedence.specs.Insertion.{Inserted}
use Rattle.precedence.proofs.Order.{none_below, before_all}

module _ {X : Type 0} (g : X → X → Bool) (x : X) where
  none_put : (z : X) (ys : List X) → g x z ≡ false → none_before g z ys ≡ true → none_before g z (put g x ys) ≡ true
  none_put z [] h n = and_from _ _ (not_from_false _ h) refl
  none_put z (y ∷ ys) h n =
      let p = and_parts _ _ n in
      cond_both (g x y) _ _ (λ l. none_before g z l ≡ true)
      (λ _. and_from _ _ (not_from_false _ h) n)
      (λ _. and_from _ _ p.0 (none_put z ys h p.1))

  pub length_put : (xs : List X) → length (put g x xs) ≡ length xs + 1
  length_put [] = refl
  length_put (y ∷ ys) = cond_both (g x y) _ _ (λ l. length l ≡ length (y ∷ ys) + 1) (λ _. omega arith) (λ _. let h = length_put ys in omega arith)

  module _ (w : WeakOrder g) where
    pub put_in_order : (xs : List X) → InOrder g xs → InOrder g (put g x xs)
    put_in_order [] s = refl
    put_in_order (y ∷ ys) s =
        let p = and_parts _ _ s in
        cond_both (g x y) _ _ (InOrder g)
        (λ t. and_from _ _ (and_from _ _ (not_from_false _ (w.asymmetric x y t)) (none_below g w x y ys (w.asymmetric x y t) p.0)) s)
        (λ f. and_from _ _ (none_put y ys f p.0) (put_in_order ys p.1))

    pub put_inserted : (xs : List X) → Inserted g x xs (put g x xs)
    put_inserted [] = record { front = []; back = []; old_is = refl; new_is = refl; behind = tt; ahead = λ _. tt; ordered = λ _. refl }
    put_inserted (y ∷ ys) =
        cond_both (g x y) _ _ (Inserted g x (y ∷ ys))
        (λ t. record {
          front = [];
          back = y ∷ ys;
          old_is = refl;
          new_is = refl;
          behind = tt;
          ahead = λ s. (t, before_all g w x y ys t (and_parts _ _ s).0);
          ordered = λ s. subst (InOrder g) (put_here y ys t) (put_in_order (y ∷ ys) s);
        })
        (λ f. let r = put_inserted ys in record {
          front = y ∷ r.front;
          back = r.back;
          old_is = ap (λ l. y ∷ l) r.old_is;
          new_is = ap (λ l. y ∷ l) r.new_is;
          behind = (f, r.behind);
          ahead = λ s. r.ahead (and_parts _ _ s).1;
          ordered = λ s. subst (InOrder g) (put_past y ys f) (put_in_order (y ∷ ys) s);
        })
      where
        put_here : (y : X) (ys : List X) → g x y ≡ true → put g x (y ∷ ys) ≡ x ∷ y ∷ ys
        put_here y ys t = simp t

        put_past : (y : X) (ys : List X) → g x y ≡ false → put g x (y ∷ ys) ≡ y ∷ put g x ys
        put_past y ys f = simp f
