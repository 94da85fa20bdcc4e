-- The merge of two lists.
use Rattle.std.proofs.Common.{◌≡◌, Bool, true, false, cond, List, [], ◌∷◌, map, refl, ap, ⊎_elim}
use Rattle.std.proofs.lemmas.Bool.{cond_both, cases_Bool, both_ways, and_parts, and_from, not-true, not-false, not_from_true, not_from_false}
use Rattle.precedence.specs.Laws.{WeakOrder}
use Rattle.precedence.specs.Sorted.{none_before, InOrder, put}
use Rattle.precedence.proofs.Order.{not_before, before_rest}
use Rattle.sources.specs.Members.{merge_in_order}
use Rattle.sources.specs.Merging.{merge, Sided, left, right, record_of, lefts, rights, left_first, Merged}

module _ {X : Type 0} (g : X → X → Bool) where
  all_are : (xs ys : List X) → map record_of (merge (left_first g) (map left xs) (map right ys)) ≡ merge g xs ys
  all_are [] [] = refl
  all_are [] (y ∷ ys) = ap (λ l. y ∷ l) (all_are [] ys)
  all_are (x ∷ xs) [] = ap (λ l. x ∷ l) (all_are xs [])
  all_are (x ∷ xs) (y ∷ ys) =
      ⊎_elim
      (λ (t : g y x ≡ true). simp t (ap (λ l. y ∷ l) (all_are (x ∷ xs) ys)))
      (λ (f : g y x ≡ false). simp f (ap (λ l. x ∷ l) (all_are xs (y ∷ ys))))
      (cases_Bool (g y x))

  left_are : (xs ys : List X) → lefts (merge (left_first g) (map left xs) (map right ys)) ≡ xs
  left_are [] [] = refl
  left_are [] (y ∷ ys) = left_are [] ys
  left_are (x ∷ xs) [] = ap (λ l. x ∷ l) (left_are xs [])
  left_are (x ∷ xs) (y ∷ ys) =
      cond_both (g y x) _ _ (λ l. lefts l ≡ x ∷ xs)
      (λ _. left_are (x ∷ xs) ys)
      (λ _. ap (λ l. x ∷ l) (left_are xs (y ∷ ys)))

  right_are : (xs ys : List X) → rights (merge (left_first g) (map left xs) (map right ys)) ≡ ys
  right_are [] [] = refl
  right_are [] (y ∷ ys) = ap (λ l. y ∷ l) (right_are [] ys)
  right_are (x ∷ xs) [] = right_are xs []
  right_are (x ∷ xs) (y ∷ ys) =
      cond_both (g y x) _ _ (λ l. rights l ≡ y ∷ ys)
      (λ _. ap (λ l. y ∷ l) (right_are (x ∷ xs) ys))
      (λ _. right_are xs (y ∷ ys))

  none_left : (x : X) (xs : List X) → none_before g x xs ≡ true → none_before (left_first g) (left x) (map left xs) ≡ true
  none_left x [] h = refl
  none_left x (y ∷ ys) h = let p = and_parts _ _ h in and_from _ _ p.0 (none_left x ys p.1)

  none_right : (x : X) (xs : List X) → none_before g x xs ≡ true → none_before (left_first g) (right x) (map right xs) ≡ true
  none_right x [] h = refl
  none_right x (y ∷ ys) h = let p = and_parts _ _ h in and_from _ _ p.0 (none_right x ys p.1)

  left_in_order : (xs : List X) → InOrder g xs → InOrder (left_first g) (map left xs)
  left_in_order [] h = refl
  left_in_order (x ∷ xs) h = let p = and_parts _ _ h in and_from _ _ (none_left x xs p.0) (left_in_order xs p.1)

  right_in_order : (xs : List X) → InOrder g xs → InOrder (left_first g) (map right xs)
  right_in_order [] h = refl
  right_in_order (x ∷ xs) h = let p = and_parts _ _ h in and_from _ _ (none_right x xs p.0) (right_in_order xs p.1)

  module _ (w : WeakOrder g) where
    goes_after : (a b c : X) → g a b ≡ false → g a c ≡ true → g b c ≡ true
    goes_after a b c p q =
        ⊎_elim (λ (t : g b c ≡ true). t) (λ (f : g b c ≡ false). absurd (both_ways _ (not_before g w a b c p f) q)) (cases_Bool (g b c))

    transitive : (a b c : Sided X) → left_first g a b ≡ true → left_first g b c ≡ true → left_first g a c ≡ true
    transitive (left a) (left b) (left c) p q = w.transitive a b c p q
    transitive (left a) (left b) (right c) p q = not_from_false _ (not_before g w c b a (not-true _ q) (w.asymmetric a b p))
    transitive (left a) (right b) (left c) p q = goes_after b a c (not-true _ p) q
    transitive (left a) (right b) (right c) p q = not_from_false _ (not_before g w c b a (w.asymmetric b c q) (not-true _ p))
    transitive (right a) (left b) (left c) p q = w.transitive a b c p q
    transitive (right a) (left b) (right c) p q = before_rest g w a b c p (not-true _ q)
    transitive (right a) (right b) (left c) p q = w.transitive a b c p q
    transitive (right a) (right b) (right c) p q = w.transitive a b c p q

    asymmetric : (a b : Sided X) → left_first g a b ≡ true → left_first g b a ≡ false
    asymmetric (left a) (left b) p = w.asymmetric a b p
    asymmetric (left a) (right b) p = not-true _ p
    asymmetric (right a) (left b) p = not_from_true _ p
    asymmetric (right a) (right b) p = w.asymmetric a b p

    -- a left and a right record are never of equal rank
    equal_rank : (a b c : Sided X) → left_first g a b ≡ false → left_first g b a ≡ false → left_first g b c ≡ false → left_first g c b ≡ false → left_first g a c ≡ false
    equal_rank (left a) (left b) (left c) p q r s = w.equal_rank a b c p q r s
    equal_rank (left a) (left b) (right c) p q r s = absurd (both_ways _ s (not-false _ r))
    equal_rank (left a) (right b) c p q r s = absurd (both_ways _ q (not-false _ p))
    equal_rank (right a) (left b) c p q r s = absurd (both_ways _ p (not-false _ q))
    equal_rank (right a) (right b) (left c) p q r s = absurd (both_ways _ r (not-false _ s))
    equal_rank (right a) (right b) (right c) p q r s = w.equal_rank a b c p q r s

    left_first_lawful : WeakOrder (left_first g)
    left_first_lawful = record { transitive = transitive; asymmetric = asymmetric; equal_rank = equal_rank }

    pub merge_merged : (xs ys : List X) → Merged g xs ys (merge g xs ys)
    merge_merged xs ys = record {
      sides = merge (left_first g) (map left xs) (map right ys);
      all_are = all_are xs ys;
      left_are = left_are xs ys;
      right_are = right_are xs ys;
      ordered = merge_in_order g w xs ys;
      ties = λ a b. merge_in_order (left_first g) left_first_lawful (map left xs) (map right ys) (left_in_order xs a) (right_in_order ys b);
    }

    -- what is put on the right side is put into the whole
    pub put_merge : (t : X) (xs ys : List X) → merge g xs (put g t ys) ≡ put g t (merge g xs ys)
    put_merge t [] ys = refl
    put_merge t (x ∷ xs) [] = ap (λ l. cond (g t x) (t ∷ x ∷ merge g xs []) (x ∷ l)) (put_merge t xs [])
    put_merge t (x ∷ xs) (y ∷ ys) =
        ⊎_elim
        (λ (a : g t y ≡ true).
        ⊎_elim
        (λ (b : g t x ≡ true). simp (a, b) (cond_both (g y x) _ _ (λ l. t ∷ l ≡ put g t l) (λ _. simp a) (λ _. simp b)))
        (λ (b : g t x ≡ false).
        let c : g y x ≡ false = not_before g w y t x (w.asymmetric t y a) b in
        simp (a, b, c) (ap (λ l. x ∷ l) (simp a at (put_merge t xs (y ∷ ys)))))
        (cases_Bool (g t x)))
        (λ (a : g t y ≡ false).
        ⊎_elim
        (λ (b : g y x ≡ true). simp (a, b) (ap (λ l. y ∷ l) (put_merge t (x ∷ xs) ys)))
        (λ (b : g y x ≡ false).
        let c : g t x ≡ false = not_before g w t y x a b in
        simp (a, b, c) (ap (λ l. x ∷ l) (simp a at (put_merge t xs (y ∷ ys)))))
        (cases_Bool (g y x)))
        (cases_Bool (g t y))
