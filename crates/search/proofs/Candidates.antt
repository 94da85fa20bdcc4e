-- A search over candidates finds what a search over all edges finds.
use Rattle.std.proofs.Common.{◌≡◌, ℕ, ◌+◌, ◌<◌, ◌≤◌, true, not, ◌&&◌, eqb, ◌⊎◌, List, length, Some, None, Option, Bor, refl, subst, inl, inr, arith}
use Rattle.std.specs.List.{slice_get}
use Rattle.std.specs.Slice.{IsItemAt}
use Rattle.std.proofs.lemmas.Option.{slice_get_read}
use Rattle.std.proofs.lemmas.Bool.{cases_lt, cases_eq, and_parts}
use Rattle.parts.specs.declared.part.Edge.{Edge}
use Rattle.runs.specs.State.{State, automaton}
use Rattle.runs.specs.Edges.{Open, Shut, NoneOpen, Finds, leaves_current, ready, goes_alone, opposite, fits}
use Rattle.runs.specs.Guards.{guard_holds}
use Rattle.runs.proofs.Searching.{nth_in, below_more}
use Rattle.search.specs.Views.{Covers, Rises}

abbrev pub ShutBefore : State → List ℕ → ℕ → Type 0
ShutBefore s cs i = (k : ℕ) → k < i → (e : ℕ) → slice_get cs k ≡ Some e → Shut s e

abbrev pub UnfitBefore : State → List ℕ → ℕ → ℕ → Type 0
UnfitBefore s cs e j = (k : ℕ) → k < j → (p : ℕ) → slice_get cs k ≡ Some p → (d : Edge) (c : Option Edge) → Open s e (Some p) d c → ⊥

-- a ready edge leaves a current location
ready_leaves : (s : State) (d : Edge) → ready s d ≡ true → leaves_current s.plan s.places d ≡ true
ready_leaves s d h = (and_parts (leaves_current s.plan s.places d) (guard_holds s.zeroed s.values s.now d.guard) h).0

fits_ready : (s : State) (d c : Edge) → fits s d c ≡ true → ready s c ≡ true
fits_ready s d c h =
    let p = and_parts (not (eqb (automaton s.plan d.from) (automaton s.plan c.from))) (ready s c && opposite d.label c.label) h in
    (and_parts (ready s c) (opposite d.label c.label) p.1).0

-- what `get` lends is what stands at a place
pub item_at : {X : Type 0} (xs : List X) (i : ℕ) (x : Bor X) → IsItemAt xs i (Some x) → slice_get xs i ≡ Some x.now
item_at xs i x h = slice_get_read xs _ i x.now refl h.3.0 h.1

module _ (s : State) (cs : List ℕ) where
  -- one more candidate
  pub shut_more : (i e : ℕ) → slice_get cs i ≡ Some e → Shut s e → ShutBefore s cs i → ShutBefore s cs (i + 1)
  shut_more i e at_i h below = below_more (λ k. (f : ℕ) → slice_get cs k ≡ Some f → Shut s f) i below (λ f at_f. let q : e ≡ f = cc in subst (Shut s) q h)

  pub unfit_more : (e j p : ℕ) → slice_get cs j ≡ Some p → ((d : Edge) (c : Option Edge) → Open s e (Some p) d c → ⊥) → UnfitBefore s cs e j → UnfitBefore s cs e (j + 1)
  unfit_more e j p at_j h below = below_more (λ k. (q : ℕ) → slice_get cs k ≡ Some q → (d : Edge) (c : Option Edge) → Open s e (Some q) d c → ⊥) j below (λ q at_q. let r : p ≡ q = cc in subst (λ n. (d : Edge) (c : Option Edge) → Open s e (Some n) d c → ⊥) r h)

  -- a number that is no edge
  pub shut_absent : (e : ℕ) → slice_get s.plan.edges e ≡ None → Shut s e
  shut_absent e h p d c o = let f = o.found in let z : ◌≡◌ {A = ℕ} 0 1 = cc in omega arith

  pub unfit_absent : (e p : ℕ) → slice_get s.plan.edges p ≡ None → (d : Edge) (c : Option Edge) → Open s e (Some p) d c → ⊥
  unfit_absent e p h d None o = o.joins
  unfit_absent e p h d (Some c) o = let f = o.joins.0 in let z : ◌≡◌ {A = ℕ} 0 1 = cc in omega arith

  module _ (rises : Rises cs) (covers : Covers s cs) where
    -- a lower number stands further in front
    in_front : (i j e f : ℕ) → slice_get cs i ≡ Some e → slice_get cs j ≡ Some f → f < e → j < i
    in_front i j e f at_i at_j l = by (cases_lt j i) (cases_eq i j)
      where
        by : (j < i) ⊎ (i ≤ j) → (i ≡ j) ⊎ (i ≡ j → ⊥) → j < i
        by (inl h) q = h
        by (inr h) (inl q) = let r : e ≡ f = (let x = at_i in let y = at_j in cc) in absurd (omega arith)
        by (inr h) (inr q) = absurd (omega (arith, rises i j e f (omega (arith, q)) at_i at_j))

    -- no partner among the candidates: none at all
    pub no_partner : (e n : ℕ) → length cs ≤ n → UnfitBefore s cs e n → (p : ℕ) (d : Edge) (c : Option Edge) → Open s e (Some p) d c → ⊥
    no_partner e n all un p d None o = o.joins
    no_partner e n all un p d (Some c) o =
        let at_p = covers p c o.joins.0 (ready_leaves s c (fits_ready s d c o.joins.1)) in
        un at_p.0 (omega (arith, nth_in cs at_p.0 p at_p.1)) p at_p.1 d (Some c) o

    shut_lower : (i e : ℕ) → slice_get cs i ≡ Some e → ShutBefore s cs i → (k : ℕ) → k < e → Shut s k
    shut_lower i e at_i below k l p d c o =
        let at_k = covers k d o.found (ready_leaves s d o.is_ready) in
        below at_k.0 (in_front i at_k.0 e k at_i at_k.1 l) k at_k.1 p d c o

    pub none_open : (n : ℕ) → length cs ≤ n → ShutBefore s cs n → NoneOpen s
    none_open n all below k p d c o =
        let at_k = covers k d o.found (ready_leaves s d o.is_ready) in
        below at_k.0 (omega (arith, nth_in cs at_k.0 k at_k.1)) k at_k.1 p d c o

    module _ (i e : ℕ) (d : Edge) (at_i : slice_get cs i ≡ Some e) (found : slice_get s.plan.edges e ≡ Some d) (r : ready s d ≡ true) (below : ShutBefore s cs i) where
      pub found_alone : goes_alone s.present d.label ≡ true → Finds s (Some (e, None))
      found_alone a = record { edge = d; mate = None; opens = record { found = found; is_ready = r; joins = a }; foremost = record { lowest = shut_lower i e at_i below; partner = tt } }

      pub found_pair : (j p : ℕ) (c : Edge) → slice_get cs j ≡ Some p → slice_get s.plan.edges p ≡ Some c → fits s d c ≡ true → UnfitBefore s cs e j → Finds s (Some (e, Some p))
      found_pair j p c at_j at_p f un = record { edge = d; mate = Some c; opens = record { found = found; is_ready = r; joins = (at_p, f) }; foremost = record { lowest = shut_lower i e at_i below; partner = lower } }
        where
          lower : (k : ℕ) (x : Edge) (y : Option Edge) → k < p → Open s e (Some k) x y → ⊥
          lower k x None l o = o.joins
          lower k x (Some y) l o =
              let at_k = covers k y o.joins.0 (ready_leaves s y (fits_ready s x y o.joins.1)) in
              un at_k.0 (in_front j at_k.0 p k at_j at_k.1 l) k at_k.1 x (Some y) o
