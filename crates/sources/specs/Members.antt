-- Proofs that ghost members of the sources give: the merge of two trigger lists is one.
use Rattle.std.specs.Prelude.{◌≡◌, Bool, true, List, [], ◌∷◌, refl}
use Rattle.std.proofs.Common.{arith}
use Rattle.std.proofs.lemmas.Bool.{cond_both, and_parts, and_from, not_from_false, le-ltb, lt-ltb, ltb-true, ltb-false}
use Rattle.precedence.specs.Laws.{WeakOrder}
use Rattle.precedence.specs.Sorted.{none_before, InOrder}
use Rattle.precedence.proofs.Order.{none_below}
use Rattle.sources.specs.declared.trigger.Trigger.{Trigger}
use Rattle.sources.specs.Lists.{earlier, all_within, TriggerList}
use Rattle.sources.specs.Merging.{merge}

pub earlier_lawful : WeakOrder earlier
earlier_lawful = record {
  transitive = λ a b c p q. lt-ltb a.tick c.tick (omega (arith, ltb-true a.tick b.tick p, ltb-true b.tick c.tick q));
  asymmetric = λ a b p. le-ltb b.tick a.tick (omega (arith, ltb-true a.tick b.tick p));
  equal_rank = λ a b c p _ q _. le-ltb a.tick c.tick (omega (arith, ltb-false a.tick b.tick p, ltb-false b.tick c.tick q));
}

module _ {X : Type 0} (g : X → X → Bool) where
  pub none_merge : (z : X) (xs ys : List X) → none_before g z xs ≡ true → none_before g z ys ≡ true → none_before g z (merge g xs ys) ≡ true
  none_merge z [] ys a b = b
  none_merge z (x ∷ xs) [] a b = let p = and_parts _ _ a in and_from _ _ p.0 (none_merge z xs [] p.1 refl)
  none_merge z (x ∷ xs) (y ∷ ys) a b =
      let p = and_parts _ _ a in
      let q = and_parts _ _ b in
      cond_both (g y x) _ _ (λ l. none_before g z l ≡ true)
      (λ _. and_from _ _ q.0 (none_merge z (x ∷ xs) ys a q.1))
      (λ _. and_from _ _ p.0 (none_merge z xs (y ∷ ys) p.1 b))

  pub merge_in_order : WeakOrder g → (xs ys : List X) → InOrder g xs → InOrder g ys → InOrder g (merge g xs ys)
  merge_in_order w [] ys a b = b
  merge_in_order w (x ∷ xs) [] a b =
      let p = and_parts _ _ a in
      and_from _ _ (none_merge x xs [] p.0 refl) (merge_in_order w xs [] p.1 refl)
  merge_in_order w (x ∷ xs) (y ∷ ys) a b =
      let p = and_parts _ _ a in
      let q = and_parts _ _ b in
      cond_both (g y x) _ _ (InOrder g)
      (λ t.
      let f = w.asymmetric y x t in
      and_from _ _ (none_merge y (x ∷ xs) ys (and_from _ _ (not_from_false _ f) (none_below g w y x xs f p.0)) q.0) (merge_in_order w (x ∷ xs) ys a q.1))
      (λ f.
      and_from _ _ (none_merge x xs (y ∷ ys) p.0 (and_from _ _ (not_from_false _ f) (none_below g w x y ys f q.0))) (merge_in_order w xs (y ∷ ys) p.1 b))

merge_within : (xs ys : List Trigger) → all_within xs ≡ true → all_within ys ≡ true → all_within (merge earlier xs ys) ≡ true
merge_within [] ys a b = b
merge_within (x ∷ xs) [] a b = let p = and_parts _ _ a in and_from _ _ p.0 (merge_within xs [] p.1 refl)
merge_within (x ∷ xs) (y ∷ ys) a b =
    let p = and_parts _ _ a in
    let q = and_parts _ _ b in
    cond_both (earlier y x) _ _ (λ l. all_within l ≡ true)
    (λ _. and_from _ _ q.0 (merge_within (x ∷ xs) ys a q.1))
    (λ _. and_from _ _ p.0 (merge_within xs (y ∷ ys) p.1 b))

pub merge_valid : (xs ys : List Trigger) → TriggerList xs → TriggerList ys → TriggerList (merge earlier xs ys)
merge_valid xs ys a b = record {
  ordered = merge_in_order earlier earlier_lawful xs ys a.ordered b.ordered;
  within = merge_within xs ys a.within b.within;
}
