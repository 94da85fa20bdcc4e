-- Obstacles one behind the other: each leaves the front part of what the one before has left.
use Rattle.std.proofs.Common.{◌≡◌, ℕ, zero, suc, ◌+◌, ◌<◌, ◌≤◌, max, ◌⊎◌, List, [], ◌∷◌, ◌++◌, length, Some, Option, Bor, refl, ◌∙◌, subst, inl, inr, arith}
use denote.Param.Members.{Mut}
use Rattle.std.specs.Fn.{Called}
use Rattle.std.specs.Iterator.{Drains}
use Rattle.std.specs.List.{slice_get, AllByRecursion, FoldsTo}
use Rattle.std.proofs.lemmas.Bool.{cases_lt}
use Rattle.std.proofs.lemmas.Fn.{fold_over}
use Rattle.std.proofs.lemmas.Iterator.{YieldsList}
use Rattle.strides.specs.declared.stretch.Stretch.{Stretch}
use Rattle.strides.specs.Reach.{Reaches, FreePart}

module _ (from : ℕ) where
  -- nothing in the way
  pub reaches_all : (P : ℕ → Type 0) (reach : ℕ) → from ≤ reach → ((t : ℕ) → from < t → t ≤ reach → P t) → Reaches P from reach reach
  reaches_all P reach h free = record { ahead = h; within = omega arith; free_to = free; stops = λ l f. omega arith }

  -- the same obstacle in other words
  pub reaches_same : (P Q : ℕ → Type 0) (reach r : ℕ) → ((t : ℕ) → from < t → t ≤ reach → P t → Q t) → ((t : ℕ) → from < t → t ≤ reach → Q t → P t) → Reaches P from reach r → Reaches Q from reach r
  reaches_same P Q reach r to back h = record {
    ahead = h.ahead;
    within = h.within;
    free_to = λ t l m. to t l (omega (arith, h.within)) (h.free_to t l m);
    stops = λ l f. h.stops l (back (r + 1) (omega (arith, h.ahead)) (omega arith) f);
  }

  -- two obstacles
  pub reaches_both : (P Q : ℕ → Type 0) (reach m r : ℕ) → Reaches P from reach m → Reaches Q from m r → Reaches (λ t. P t × Q t) from reach r
  reaches_both P Q reach m r p q = record {
    ahead = q.ahead;
    within = omega (arith, p.within, q.within);
    free_to = λ t l h. (p.free_to t l (omega (arith, q.within)), q.free_to t l h);
    stops = λ l f. by l f (cases_lt r m);
  }
    where
      by : r < reach → P (r + 1) × Q (r + 1) → (r < m) ⊎ (m ≤ r) → ⊥
      by l f (inl h) = q.stops h f.1
      by l f (inr h) = let e : r ≡ m = omega (arith, q.within) in p.stops (omega arith) (subst (λ k. P (k + 1)) e f.0)

-- a stretch of two ticks, the first not behind the second
pub between : (P : ℕ → Type 0) (from reach : ℕ) (s r : Stretch) → s.from ≡ from → s.to ≡ max reach from → from ≤ reach → FreePart P s r → Reaches P from reach r.to
between P from reach s r e f h p =
    let g : s.to ≡ reach = omega (arith, f, h) in
    subst (λ k. Reaches P k reach r.to) e (subst (λ k. Reaches P s.from k r.to) g p.reaches)

-- nothing in the way
pub part_whole : (P : ℕ → Type 0) (s : Stretch) → ((t : ℕ) → s.from < t → t ≤ s.to → P t) → FreePart P s s
part_whole P s free = record { same_start = refl; reaches = reaches_all s.from P s.to s.forward free }

-- the same obstacle in other words
pub part_same : (P Q : ℕ → Type 0) (s r : Stretch) → ((t : ℕ) → s.from < t → t ≤ s.to → P t → Q t) → ((t : ℕ) → s.from < t → t ≤ s.to → Q t → P t) → FreePart P s r → FreePart Q s r
part_same P Q s r to back h = record { same_start = h.same_start; reaches = reaches_same s.from P Q s.to r.to to back h.reaches }

-- two obstacles
pub part_both : (P Q : ℕ → Type 0) (s m r : Stretch) → FreePart P s m → FreePart Q m r → FreePart (λ t. P t × Q t) s r
part_both P Q s m r p q = record { same_start = q.same_start ∙ p.same_start; reaches = reaches_both s.from P Q s.to m.to r.to p.reaches (subst (λ f. Reaches Q f m.to r.to) p.same_start q.reaches) }

-- all of a list, by place
pub all_from_nth : {X : Type 0} (P : X → Type 0) (xs : List X) → ((k : ℕ) → k < length xs → (x : X) → slice_get xs k ≡ Some x → P x) → AllByRecursion P xs
all_from_nth P [] h = tt
all_from_nth P (x ∷ xs) h = (h 0 (omega arith) x refl, all_from_nth P xs (λ k l y e. h (suc k) (omega arith) y e))

pub nth_from_all : {X : Type 0} (P : X → Type 0) (xs : List X) → AllByRecursion P xs → (k : ℕ) (x : X) → slice_get xs k ≡ Some x → P x
nth_from_all P [] h k x e = let z : ◌≡◌ {A = ℕ} 0 1 = cc in absurd (omega arith)
nth_from_all P (y ∷ ys) h zero x e = let q : y ≡ x = cc in subst P q h.0
nth_from_all P (y ∷ ys) h (suc k) x e = nth_from_all P ys h.1 k x e

-- all of a list and one more
all_push : {X : Type 0} (P : X → Type 0) (xs : List X) (x : X) → AllByRecursion P xs → P x → AllByRecursion P (xs ++ (x ∷ []))
all_push P [] x a p = (p, tt)
all_push P (y ∷ ys) x a p = (a.0, all_push P ys x a.1 p)

all_pop : {X : Type 0} (P : X → Type 0) (xs : List X) (x : X) → AllByRecursion P (xs ++ (x ∷ [])) → AllByRecursion P xs × P x
all_pop P [] x a = (tt, a.0)
all_pop P (y ∷ ys) x a = let r = all_pop P ys x a.1 in ((a.0, r.0), r.1)

-- a row, each of whose items may be an obstacle
module _ {X : Type 0} (P : X → ℕ → Type 0) where
  abbrev pub AllFree : List X → ℕ → Type 0
  AllFree xs t = AllByRecursion (λ x. P x t) xs

  pub row_none : (s : Stretch) → FreePart (AllFree []) s s
  row_none s = part_whole (AllFree []) s (λ t l h. tt)

  pub row_more : (xs : List X) (x : X) (s m r : Stretch) → FreePart (AllFree xs) s m → FreePart (P x) m r → FreePart (AllFree (xs ++ (x ∷ []))) s r
  row_more xs x s m r p q =
      part_same (λ t. AllFree xs t × P x t) (AllFree (xs ++ (x ∷ []))) s r
      (λ t l h f. all_push (λ y. P y t) xs x f.0 f.1) (λ t l h f. all_pop (λ y. P y t) xs x f)
      (part_both (AllFree xs) (P x) s m r p q)

-- a chain that lowers a stretch by each item
module _ {X F : Type 0} (P : X → ℕ → Type 0) (g : Mut F (Stretch × (Bor X × Unit {0})) Stretch) (f : F) (s : Stretch) where
  abbrev pub Folds : {I : Type 0} → (I → Option (Bor X) → I → Type 0) → I → Stretch → Type 0
  Folds steps it r = (ys : List (Bor X)) × (q : F) × Drains steps it ys × FoldsTo {P = F × Stretch} (λ a x b. Called g a.0 (a.1, (x, tt)) b.1 b.0) (f, s) ys (q, r)

  pub row_folded : {I : Type 0} (steps : I → Option (Bor X) → I → Type 0) (it : I) (xs : List X) (r : Stretch) → ((m : Stretch) (x : Bor X) (n : Stretch) (q : F) → m.from ≡ s.from → m.to ≤ s.to → Called g f (m, (x, tt)) n q → FreePart (P x.now) m n × (q ≡ f)) → YieldsList steps (λ x. x.now) it xs → Folds steps it r → FreePart (AllFree P xs) s r
  row_folded steps it xs r step gives ran =
      fold_over steps (λ x. x.now) g (λ ys m. FreePart (AllFree P ys) s m) f
      (λ ys m x n q so_far k. let next = step m x n q so_far.same_start so_far.reaches.within k in (row_more P ys x.now s m n so_far next.0, next.1))
      it xs s r gives.runs (row_none P s) ran
