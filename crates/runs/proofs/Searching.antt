-- The foremost open edge and its partner, found by going through the edges.
use Rattle.std.proofs.Common.{◌≡◌, ℕ, zero, suc, ◌+◌, ◌<◌, ◌≤◌, true, false, cond, ◌⊎◌, List, [], ◌∷◌, length, Some, None, Option, sym, ap, ◌∙◌, subst, inl, inr, add-zero, zero-add, arith}
use Rattle.std.specs.List.{slice_get}
use Rattle.std.proofs.lemmas.Option.{slice_get_past}
use Rattle.std.proofs.lemmas.Bool.{cases_lt, cond_both, both_ways}
use Rattle.parts.specs.declared.part.Edge.{Edge}
use Rattle.runs.specs.State.{State}
use Rattle.runs.specs.Edges.{Open, Shut, Found, Finds, goes_alone, ready, fits}

pub nth_in : {X : Type 0} (xs : List X) (i : ℕ) (x : X) → slice_get xs i ≡ Some x → i < length xs
nth_in xs i x e = by (cases_lt i (length xs))
  where
    by : (i < length xs) ⊎ (length xs ≤ i) → i < length xs
    by (inl h) = h
    by (inr h) = let p = slice_get_past xs i h in let z : ◌≡◌ {A = ℕ} 0 1 = cc in omega arith

-- no edge below n is open; no partner below n fits the edge e
abbrev pub ShutBelow : State → ℕ → Type 0
ShutBelow s n = (k : ℕ) → k < n → Shut s k

abbrev pub UnfitBelow : State → ℕ → ℕ → Type 0
UnfitBelow s e n = (k : ℕ) → k < n → (d : Edge) (c : Option Edge) → Open s e (Some k) d c → ⊥

module _ (s : State) (e : ℕ) (d : Edge) (found : slice_get s.plan.edges e ≡ Some d) where
  same_edge : (x : Edge) → slice_get s.plan.edges e ≡ Some x → x ≡ d
  same_edge x f = cc

  pub shut_unready : ready s d ≡ false → Shut s e
  shut_unready u p x c o = both_ways _ u (subst (λ y. ready s y ≡ true) (same_edge x o.found) o.is_ready)

  pub shut_unfit : goes_alone s.present d.label ≡ false → (n : ℕ) → length s.plan.edges ≤ n → UnfitBelow s e n → Shut s e
  shut_unfit u n all un None x None o = both_ways _ u (subst (λ y. goes_alone s.present y.label ≡ true) (same_edge x o.found) o.joins)
  shut_unfit u n all un None x (Some c) o = o.joins
  shut_unfit u n all un (Some p) x None o = o.joins
  shut_unfit u n all un (Some p) x (Some c) o = un p (omega (arith, nth_in s.plan.edges p c o.joins.0)) x (Some c) o

  pub shut_unfit_by : goes_alone s.present d.label ≡ false → ((p : ℕ) (x : Edge) (c : Option Edge) → Open s e (Some p) x c → ⊥) → Shut s e
  shut_unfit_by u un None x None o = both_ways _ u (subst (λ y. goes_alone s.present y.label ≡ true) (same_edge x o.found) o.joins)
  shut_unfit_by u un None x (Some c) o = o.joins
  shut_unfit_by u un (Some p) x c o = un p x c o

  pub unfit : (p : ℕ) (c : Edge) → slice_get s.plan.edges p ≡ Some c → fits s d c ≡ false → (x : Edge) (y : Option Edge) → Open s e (Some p) x y → ⊥
  unfit p c f u x None o = o.joins
  unfit p c f u x (Some y) o =
      let q : y ≡ c = (let h = o.joins.0 in cc) in
      let r = same_edge x o.found in
      both_ways _ u (subst (λ z. fits s d z ≡ true) q (subst (λ z. fits s z y ≡ true) r o.joins.1))

  pub found_alone : ready s d ≡ true → goes_alone s.present d.label ≡ true → ShutBelow s e → Found s e None
  found_alone r one below = record { edge = d; mate = None; opens = record { found = found; is_ready = r; joins = one }; foremost = record { lowest = below; partner = tt } }

  pub found_pair : ready s d ≡ true → (p : ℕ) (c : Edge) → slice_get s.plan.edges p ≡ Some c → fits s d c ≡ true → ShutBelow s e → UnfitBelow s e p → Found s e (Some p)
  found_pair r p c f fit below un = record { edge = d; mate = Some c; opens = record { found = found; is_ready = r; joins = (f, fit) }; foremost = record { lowest = below; partner = λ k x y h o. un k h x y o } }

pub below_more : (P : ℕ → Type 0) (n : ℕ) → ((k : ℕ) → k < n → P k) → P n → (k : ℕ) → k < n + 1 → P k
below_more P n below here k h = by (cases_lt k n)
  where
    by : (k < n) ⊎ (n ≤ k) → P k
    by (inl l) = below k l
    by (inr l) = let e : n ≡ k = omega arith in subst P e here

-- ---- the search, over what is left of the edges from number k on

abbrev pub LeftFrom : {X : Type 0} → List X → ℕ → List X → Type 0
LeftFrom {X} all k rest = (i : ℕ) → slice_get all (k + i) ≡ slice_get rest i

left_head : {X : Type 0} (all : List X) (k : ℕ) (x : X) (xs : List X) → LeftFrom all k (x ∷ xs) → slice_get all k ≡ Some x
left_head all k x xs h = ap (slice_get all) (sym (add-zero k)) ∙ h 0

left_tail : {X : Type 0} (all : List X) (k : ℕ) (x : X) (xs : List X) → LeftFrom all k (x ∷ xs) → LeftFrom all (k + 1) xs
left_tail all k x xs h i = let e : (k + 1) + i ≡ k + suc i = omega arith in ap (slice_get all) e ∙ h (suc i)

nth_there : {X : Type 0} (zs : List X) (i : ℕ) → i < length zs → slice_get zs i ≡ None → ⊥
nth_there [] i l e = omega arith
nth_there (z ∷ zs) zero l e = let q : ◌≡◌ {A = ℕ} 0 1 = cc in omega arith
nth_there (z ∷ zs) (suc i) l e = nth_there zs i (omega arith) e

left_none : {X : Type 0} (all : List X) (k : ℕ) → LeftFrom all k [] → length all ≤ k
left_none all k h = by (cases_lt k (length all))
  where
    by : (k < length all) ⊎ (length all ≤ k) → length all ≤ k
    by (inl l) = absurd (nth_there all k l (ap (slice_get all) (sym (add-zero k)) ∙ h 0))
    by (inr l) = l

-- ---- the search itself

-- the lowest fitting partner among edges numbered from k on
abbrev pub find_partner : State → Edge → ℕ → List Edge → Option ℕ
find_partner s d k [] = None
find_partner s d k (c ∷ cs) = cond (fits s d c) (Some k) (find_partner s d (k + 1) cs)

-- the edge k with the partner that was found, or what comes behind it
abbrev pub with_partner : ℕ → Option ℕ → Option (ℕ × Option ℕ) → Option (ℕ × Option ℕ)
with_partner k None more = more
with_partner k (Some p) more = Some (k, Some p)

-- the foremost open edge among those numbered from k on, with its partner
abbrev pub find_edge : State → ℕ → List Edge → Option (ℕ × Option ℕ)
find_edge s k [] = None
find_edge s k (d ∷ ds) =
    cond (ready s d)
    (cond (goes_alone s.present d.label) (Some (k, None)) (with_partner k (find_partner s d 0 s.plan.edges) (find_edge s (k + 1) ds)))
    (find_edge s (k + 1) ds)

abbrev pub foremost : State → Option (ℕ × Option ℕ)
foremost s = find_edge s 0 s.plan.edges

-- what the answers mean
abbrev FindsPartner : State → ℕ → Edge → Option ℕ → Type 0
FindsPartner s e d None = (n : ℕ) × (length s.plan.edges ≤ n) × UnfitBelow s e n
FindsPartner s e d (Some p) = (c : Edge) × (slice_get s.plan.edges p ≡ Some c) × (fits s d c ≡ true) × UnfitBelow s e p

module _ (s : State) (e : ℕ) (d : Edge) (found : slice_get s.plan.edges e ≡ Some d) where
  finds_partner : (k : ℕ) (rest : List Edge) → LeftFrom s.plan.edges k rest → UnfitBelow s e k → FindsPartner s e d (find_partner s d k rest)
  finds_partner k [] left un = (k, left_none s.plan.edges k left, un)
  finds_partner k (c ∷ cs) left un =
      let at_k = left_head s.plan.edges k c cs left in
      cond_both (fits s d c) _ _ (FindsPartner s e d)
      (λ t. (c, at_k, t, un))
      (λ f. finds_partner (k + 1) cs (left_tail s.plan.edges k c cs left) (below_more (λ j. (x : Edge) (y : Option Edge) → Open s e (Some j) x y → ⊥) k un (unfit s e d found k c at_k f)))

module _ (s : State) (k : ℕ) (d : Edge) (at_k : slice_get s.plan.edges k ≡ Some d) (below : ShutBelow s k) (r : ready s d ≡ true) (a : goes_alone s.present d.label ≡ false) where
  finds_with : (q : Option ℕ) (more : Option (ℕ × Option ℕ)) → FindsPartner s k d q → (Shut s k → Finds s more) → Finds s (with_partner k q more)
  finds_with None more h go = go (shut_unfit s k d at_k a h.0 h.1 h.2)
  finds_with (Some p) more h go = found_pair s k d at_k r p h.0 h.1 h.2 below h.3

finds_edge : (s : State) (k : ℕ) (rest : List Edge) → LeftFrom s.plan.edges k rest → ShutBelow s k → Finds s (find_edge s k rest)
finds_edge s k [] left below = λ j p d c o. below j (omega (arith, nth_in s.plan.edges j d o.found, left_none s.plan.edges k left)) p d c o
finds_edge s k (d ∷ ds) left below =
    let at_k = left_head s.plan.edges k d ds left in
    let go : Shut s k → Finds s (find_edge s (k + 1) ds) = λ h. finds_edge s (k + 1) ds (left_tail s.plan.edges k d ds left) (below_more (Shut s) k below h) in
    cond_both (ready s d) _ _ (Finds s)
    (λ r. cond_both (goes_alone s.present d.label) _ _ (Finds s)
    (λ a. found_alone s k d at_k r a below)
    (λ a. finds_with s k d at_k below r a (find_partner s d 0 s.plan.edges) (find_edge s (k + 1) ds)
    (finds_partner s k d at_k 0 s.plan.edges (λ i. ap (slice_get s.plan.edges) (zero-add i)) (λ j h. absurd (omega arith))) go))
    (λ r. go (shut_unready s k d at_k r))

pub finds : (s : State) → Finds s (foremost s)
finds s = finds_edge s 0 s.plan.edges (λ i. ap (slice_get s.plan.edges) (zero-add i)) (λ j h. absurd (omega arith))
