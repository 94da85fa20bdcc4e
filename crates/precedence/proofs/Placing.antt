-- The search for the place, and what the move and the write leave.
use Rattle.std.proofs.Common.{◌≡◌, ℕ, suc, ◌+◌, ◌-◌, ◌<◌, ◌≤◌, Bool, true, false, not, nat_lt, Option, List, [], ◌∷◌, ◌++◌, length, take, drop, set, sym, ap, ◌∙◌, subst, refl, ⊎_elim, arith, rules}
use lib.Seq.{paste}
use Rattle.std.specs.List.{position, position_or_len}
use Rattle.std.specs.Option.{unwrap_or}
use Rattle.std.proofs.lemmas.List.{same_lists, places, get_or-set_same, length-take-le, take_at}
use Rattle.std.proofs.lemmas.Bool.{cond_both, cases_eq, cases_Bool, ltb-false}
use Rattle.std.proofs.lemmas.List.Sums.{prefix_len-le-length}
use Rattle.precedence.specs.Laws.{WeakOrder}
use Rattle.precedence.specs.Sorted.{put}
use Rattle.precedence.specs.Insertion.{Inserted}
use Rattle.precedence.proofs.Putting.{length_put, put_inserted}

module _ {X : Type 0} (g : X → X → Bool) (x : X) where
  at_first : (xs : List X) → take (position_or_len (g x) xs) xs ++ (x ∷ drop (position_or_len (g x) xs) xs) ≡ put g x xs
  at_first [] = refl
  at_first (y ∷ ys) =
      ⊎_elim
      (λ (t : g x y ≡ true). simp t)
      (λ (f : g x y ≡ false).
      let s : 1 + position_or_len (g x) ys ≡ suc (position_or_len (g x) ys) = omega arith in
      simp (f, s) (ap (λ l. y ∷ l) (at_first ys)))
      (cases_Bool (g x y))

  -- the first record that x goes before, or the end
  pub place_is : (xs : List X) (o : Option ℕ) (i : ℕ) → o ≡ position (g x) xs → i ≡ unwrap_or o (length xs) → take i xs ++ (x ∷ drop i xs) ≡ put g x xs
  place_is xs o i f e =
      let n = position_or_len (g x) xs in
      let p : unwrap_or (position (g x) xs) (length xs) ≡ n =
      cond_both (nat_lt n (length xs)) _ _ (λ (o : Option ℕ). unwrap_or o (length xs) ≡ n)
      (λ _. refl)
      (λ h. omega (arith, ltb-false n (length xs) h, prefix_len-le-length (λ y. not (g x y)) xs)) in
      ap (λ k. take k xs ++ (x ∷ drop k xs)) (e ∙ (ap (λ (r : Option ℕ). unwrap_or r (length xs)) f ∙ p)) ∙ at_first xs

  moved_is : (row : List X) (len i : ℕ) → len < length row → i ≤ len → set (paste row (i + 1) (drop i row) (len - i)) i x ≡ (take i (take len row) ++ (x ∷ drop i (take len row))) ++ drop (len + 1) row
  moved_is row len i h k = same_lists _ _ (search (rules, places)) (λ j d lt. let s = cases_eq j i in grind (arith, places, get_or-set_same))

  pub row_after : (row moved : List X) (len i : ℕ) → len < length row → i ≤ length (take (len - 0) row) → moved ≡ paste row (i + 1) (drop i row) (len - i) → take i (take (len - 0) row) ++ (x ∷ drop i (take (len - 0) row)) ≡ put g x (take (len - 0) row) → set moved i x ≡ put g x (take len row) ++ drop (len + 1) row
  row_after row moved len i h within m p =
      let z : len - 0 ≡ len = omega arith in
      let k : i ≤ len = omega (arith, length-take-le (len - 0) row (omega arith)) in
      let q : take i (take len row) ++ (x ∷ drop i (take len row)) ≡ put g x (take len row) = subst (λ (n : ℕ). take i (take n row) ++ (x ∷ drop i (take n row)) ≡ put g x (take n row)) z p in
      ap (λ l. set l i x) m ∙ (moved_is row len i h k ∙ ap (λ l. l ++ drop (len + 1) row) q)

  pub front_after : (row after : List X) (len : ℕ) → len < length row → after ≡ put g x (take len row) ++ drop (len + 1) row → take (len + 1) after ≡ put g x (take len row)
  front_after row after len h e =
      let n : length (put g x (take len row)) ≡ len + 1 = omega (arith, length_put g x (take len row), length-take-le len row (omega arith)) in
      ap (λ l. take (len + 1) l) e ∙ take_at _ _ _ n

  pub inserted_after : WeakOrder g → (old new : List X) → new ≡ put g x old → Inserted g x old new
  inserted_after w old new e = subst (Inserted g x old) (sym e) (put_inserted g x w old)
