-- The walks over a group and to the last of a list, and what a draft accepts for its last part.
use Rattle.std.proofs.Common.{◌≡◌, ℕ, suc, ◌+◌, ◌-◌, ◌<◌, ◌≤◌, Bool, true, false, List, [], ◌∷◌, cond, length, get_or, set, is_some, is_none, Some, None, Ok, Err, Option, Result, sym, refl, ap, ◌∙◌, subst, arith}
use Rattle.std.specs.List.{slice_get, count_by, position, position_or_len}
use Rattle.std.proofs.lemmas.List.Recursion.{is_count_by}
use Rattle.std.proofs.lemmas.Grind.{common_steps}
use Rattle.std.proofs.lemmas.Bool.{and_from, cond-true, cond-false, lt-ltb, eq-eqb}
use Rattle.std.proofs.lemmas.List.{set-get_or}
use Rattle.std.proofs.lemmas.Option.{slice_get-get_or}
use Rattle.parts.specs.declared.part.Assignment.{Assignment}
use Rattle.parts.specs.declared.part.Reset.{Reset}
use Rattle.parts.specs.declared.part.Condition.{Condition}
use Rattle.parts.specs.declared.part.Invariant.{Invariant}
use Rattle.parts.specs.declared.part.Task.{Task}
use Rattle.parts.specs.declared.part.Location.{Location}
use Rattle.parts.specs.declared.part.Edge.{Edge}
use Rattle.parts.specs.declared.part.Rule.{Rule}
use Rattle.parts.specs.declared.part.Rule.TheVariants.{TooMany, BadTask, BadLocation, BadEdge}
use Rattle.parts.specs.Limits.{assignment_fits, reset_fits, invariant_fits, condition_fits}
use Rattle.sequence.specs.Plan.{Plan, scope, reached, sound}
use Rattle.sequence.specs.Building.{none}
use Rattle.sequence.specs.Model.{Adds}
use Rattle.sequence.specs.Growing.{used, fill, last_of, change_last, has_room, assigning_task, limited, guarded, resetting, assigning_edge, with_last_task, with_last_location, with_last_edge, grown, last_grown, Becomes, add_task_assignment, add_invariant, add_condition, add_reset, add_edge_assignment}
use Rattle.sequence.proofs.Sound.{reached_push}
use Rattle.sequence.proofs.Growing.{ends_in}

-- ---- the places of a group

module _ {X : Type 0} where
  pub used_count : (xs : List (Option X)) → length (used xs) ≡ count_by is_some xs
  used_count = is_count_by (λ ys. length (used ys)) is_some refl (λ o ys.
      elim o as (λ v. length (used (v ∷ ys)) ≡ cond (is_some v) (1 + length (used ys)) (length (used ys))) [ None ↦ refl | Some y ↦ omega arith ])

module _ {X : Type 0} (x : X) where
  fill_first : (xs : List (Option X)) → position_or_len is_none xs < length xs → set xs (position_or_len is_none xs) (Some x) ≡ fill x xs
  fill_first [] l = absurd (omega arith)
  fill_first (None ∷ xs) l = refl
  fill_first (Some y ∷ xs) l =
      let n : 1 + position_or_len is_none xs ≡ suc (position_or_len is_none xs) = omega arith in
      ap (λ i. set (Some y ∷ xs) i (Some x)) n ∙ ap (λ ys. Some y ∷ ys) (fill_first xs (omega (arith, l)))

  fill_full : (xs : List (Option X)) → length xs ≤ position_or_len is_none xs → xs ≡ fill x xs
  fill_full [] l = refl
  fill_full (None ∷ xs) l = absurd (omega (arith, l))
  fill_full (Some y ∷ xs) l = ap (λ ys. Some y ∷ ys) (fill_full xs (omega (arith, l)))

  pub fill_at : (xs : List (Option X)) (i : ℕ) → position is_none xs ≡ Some i → set xs i (Some x) ≡ fill x xs
  fill_at xs i e =
      let at : position_or_len is_none xs ≡ i = grind (arith, common_steps) in
      let inside : position_or_len is_none xs < length xs = grind (arith, common_steps) in
      ap (λ n. set xs n (Some x)) (sym at) ∙ fill_first xs inside

  pub fill_none : (xs : List (Option X)) → position is_none xs ≡ None → xs ≡ fill x xs
  fill_none xs e = let full : length xs ≤ position_or_len is_none xs = grind (arith, common_steps) in fill_full xs full

-- ---- the last of a list

module _ {X : Type 0} where
  last_at : (x : X) (xs : List X) → slice_get (x ∷ xs) (length xs) ≡ last_of (x ∷ xs)
  last_at x [] = refl
  last_at x (y ∷ ys) = last_at y ys

  set_at : (y x : X) (xs : List X) → set (x ∷ xs) (length xs) y ≡ change_last (λ _. y) (x ∷ xs)
  set_at y x [] = refl
  set_at y x (z ∷ zs) = ap (λ ys. x ∷ ys) (set_at y z zs)

  pub set_last : (xs : List X) (y : X) → set xs (length xs - 1) y ≡ change_last (λ _. y) xs
  set_last [] y = refl
  set_last (x ∷ xs) y = let e : length (x ∷ xs) - 1 ≡ length xs = omega arith in ap (λ n. set (x ∷ xs) n y) e ∙ set_at y x xs

  pub nth_last : (xs : List X) → slice_get xs (length xs - 1) ≡ last_of xs
  nth_last [] = refl
  nth_last (x ∷ xs) = let e : length (x ∷ xs) - 1 ≡ length xs = omega arith in ap (slice_get (x ∷ xs)) e ∙ last_at x xs

module _ {X : Type 0} (f : X → X) where
  -- the last put there as it is
  pub change_is : (xs : List X) (x : X) → last_of xs ≡ Some x → change_last (λ _. f x) xs ≡ change_last f xs
  change_is [] x e = refl
  change_is (y ∷ []) x e = let d : y ≡ x = cc in ap (λ v. f v ∷ []) (sym d)
  change_is (y ∷ z ∷ zs) x e = ap (λ ys. y ∷ ys) (change_is (z ∷ zs) x e)

  -- one larger, put in the place of the last
  pub put_is : (xs zs : List X) (x y : X) → last_of xs ≡ Some x → y ≡ f x → zs ≡ change_last (λ _. y) xs → zs ≡ change_last f xs
  put_is xs zs x y l e z = z ∙ (ap (λ v. change_last (λ _. v) xs) e ∙ change_is xs x l)

-- the last, read by its place
module _ {X : Type 0} (xs : List X) (n : ℕ) (x : X) (len : n ≡ length xs) (there : 0 < length xs) (read : x ≡ get_or xs (n - 1) x) where
  at_last : x ≡ get_or xs (length xs - 1) x
  at_last = read ∙ ap (λ k. get_or xs (k - 1) x) len

  pub last_read : last_of xs ≡ Some x
  last_read = sym (nth_last xs) ∙ (slice_get-get_or xs (length xs - 1) x (omega (arith, there)) ∙ ap Some (sym at_last))

  pub last_kept : set xs (n - 1) x ≡ xs
  last_kept = ap (set xs (n - 1)) read ∙ set-get_or xs (n - 1) x

  pub last_changed : (f : X → X) (y : X) → y ≡ f x → set xs (n - 1) y ≡ change_last f xs
  last_changed f y e = put_is f xs (set xs (n - 1) y) x y last_read e (ap (λ k. set xs (k - 1) y) len ∙ set_last xs y)

-- the last location tells how many automata are reached
no_last : (l : Location) (ls : List Location) → None ≡ last_of (l ∷ ls) → ⊥
no_last l [] e = let w : ◌≡◌ {A = ℕ} 0 1 = cc in omega arith
no_last l (k ∷ ks) e = no_last k ks e

reached_empty : (ls : List Location) → None ≡ last_of ls → 0 ≡ reached 0 ls
reached_empty [] e = refl
reached_empty (l ∷ ls) e = absurd (no_last l ls e)

abbrev pub reached_by : Option Location → ℕ
reached_by None = 0
reached_by (Some l) = l.automaton + 1

pub reached_last : (ls : List Location) (o : Option Location) → o ≡ last_of ls → reached_by o ≡ reached 0 ls
reached_last ls None e = reached_empty ls e
reached_last ls (Some l) e = let x = ends_in ls l (sym e) in sym (ap (reached 0) x.whole ∙ reached_push 0 x.front l)

-- ---- what is accepted

module _ {X Y : Type 0} (o : Option X) (x : X) (room : X → Bool) (fits : Bool) (p : Y) (rule : Rule) where
  pub grown_ok : o ≡ Some x → room x ≡ true → fits ≡ true → grown o room fits p rule ≡ Ok p
  grown_ok e r f = ap (λ v. grown v room fits p rule) e ∙ (cond-true _ _ _ r ∙ cond-true _ _ _ f)

  pub grown_full : o ≡ Some x → room x ≡ false → grown o room fits p rule ≡ Err TooMany
  grown_full e r = ap (λ v. grown v room fits p rule) e ∙ cond-false _ _ _ r

  pub grown_unfit : o ≡ Some x → room x ≡ true → fits ≡ false → grown o room fits p rule ≡ Err rule
  grown_unfit e r f = ap (λ v. grown v room fits p rule) e ∙ (cond-true _ _ _ r ∙ cond-false _ _ _ f)

-- an outcome of a part of a plan, as one of the plan
module _ {Y Z : Type 0} (put : Y → Z) where
  abbrev pub placed : Result Y Rule → Result Z Rule
  placed (Ok y) = Ok (put y)
  placed (Err rule) = Err rule

  cond_placed : (b : Bool) (s t : Result Y Rule) → cond b (placed s) (placed t) ≡ placed (cond b s t)
  cond_placed true s t = refl
  cond_placed false s t = refl

  grown_placed : {X : Type 0} (o : Option X) (room : X → Bool) (fits : Bool) (y : Y) (rule : Rule) → grown o room fits (put y) rule ≡ placed (grown o room fits y rule)
  grown_placed None room fits y rule = refl
  grown_placed (Some x) room fits y rule =
      ap (λ (s : Result Z Rule). cond (room x) s (Err TooMany)) (cond_placed fits (Ok y) (Err rule))
      ∙ cond_placed (room x) (cond fits (Ok y) (Err rule)) (Err TooMany)

module _ {Y : Type 0} (rule : Rule) (y z : Y) where
  fits_if : (fits : Bool) → cond fits (Ok y) (Err rule) ≡ Ok z → (fits ≡ true) × (y ≡ z)
  fits_if true e = (refl, cc)
  fits_if false e = absurd (let w : ◌≡◌ {A = ℕ} 0 1 = cc in omega arith)

  room_if : (room fits : Bool) → cond room (cond fits (Ok y) (Err rule)) (Err TooMany) ≡ Ok z → (fits ≡ true) × (y ≡ z)
  room_if true fits e = fits_if fits e
  room_if false fits e = absurd (let w : ◌≡◌ {A = ℕ} 0 1 = cc in omega arith)

  -- what grew, grew because it fitted
  grown_fits : {X : Type 0} (o : Option X) (room : X → Bool) (fits : Bool) → grown o room fits y rule ≡ Ok z → (fits ≡ true) × (y ≡ z)
  grown_fits None room fits e = absurd (let w : ◌≡◌ {A = ℕ} 0 1 = cc in omega arith)
  grown_fits (Some x) room fits e = room_if (room x) fits e

-- a plan with other tasks, locations or edges
abbrev pub at_tasks : Plan → List Task → Plan
at_tasks p xs = record { counts = p.counts; variables = p.variables; tasks = xs; locations = p.locations; edges = p.edges }

abbrev pub at_locations : Plan → List Location → Plan
at_locations p xs = record { counts = p.counts; variables = p.variables; tasks = p.tasks; locations = xs; edges = p.edges }

abbrev pub at_edges : Plan → List Edge → Plan
at_edges p xs = record { counts = p.counts; variables = p.variables; tasks = p.tasks; locations = p.locations; edges = xs }

-- the last of a list in a plan grew
module _ {X : Type 0} (put : List X → Plan) (xs zs : List X) (room : X → Bool) (more : X → X) (rule : Rule) (fits fits' : Bool) (same : fits ≡ fits') where
  pub plan_grows : (r : Result Unit Rule) → Becomes (last_grown room fits more rule xs) xs zs r → Adds (grown (last_of xs) room fits' (put (change_last more xs)) rule) (put xs) (put zs) r
  plan_grows (Ok u) g =
      ap (λ b. grown (last_of xs) room b (put (change_last more xs)) rule) (sym same)
      ∙ (grown_placed put (last_of xs) room fits (change_last more xs) rule ∙ ap (placed put) g)
  plan_grows (Err broken) g = (
    ap (λ b. grown (last_of xs) room b (put (change_last more xs)) rule) (sym same)
        ∙ (grown_placed put (last_of xs) room fits (change_last more xs) rule ∙ ap (placed put) g.0),
    ap put g.1,
  )

  pub grows_sound : (r : Result Unit Rule) → Becomes (last_grown room fits more rule xs) xs zs r → sound (put xs) ≡ true → (fits' ≡ true → sound (put (change_last more xs)) ≡ true) → sound (put zs) ≡ true
  grows_sound (Ok u) g s keeps =
      let m = grown_fits rule (change_last more xs) zs (last_of xs) room fits g in
      subst (λ (l : List X). sound (put l) ≡ true) m.1 (keeps (sym same ∙ m.0))
  grows_sound (Err broken) g s keeps = subst (λ (l : List X). sound (put l) ≡ true) (sym g.1) s

pub adds_is : (a b : Result Plan Rule) (p q : Plan) (r : Result Unit Rule) → a ≡ b → Adds b p q r → Adds a p q r
adds_is a b p q r e h = subst (λ (o : Result Plan Rule). Adds o p q r) (sym e) h

module _ {X : Type 0} where
  pub none_there : (xs : List X) → length xs ≡ 0 → none xs ≡ true
  none_there xs h = eq-eqb (length xs) 0 h

module _ (p : Plan) where
  pub task_grown : (a : Assignment) (t : Task) → length p.locations ≡ 0 → length p.edges ≡ 0 → last_of p.tasks ≡ Some t → length (used t.assignments) < 4 → assignment_fits (scope p) a ≡ true → add_task_assignment p a ≡ Ok (with_last_task (assigning_task a) p)
  task_grown a t l e o r f =
      cond-true _ _ _ (and_from _ _ (none_there p.locations l) (none_there p.edges e))
      ∙ grown_ok (last_of p.tasks) t (λ (u : Task). has_room 4 u.assignments) (assignment_fits (scope p) a) (with_last_task (assigning_task a) p) BadTask o (lt-ltb _ _ r) f

  pub location_grown : (i : Invariant) (l : Location) → length p.edges ≡ 0 → last_of p.locations ≡ Some l → length (used l.invariants) < 2 → invariant_fits (scope p) i ≡ true → add_invariant p i ≡ Ok (with_last_location (limited i) p)
  location_grown i l e o r f =
      cond-true _ _ _ (none_there p.edges e)
      ∙ grown_ok (last_of p.locations) l (λ (u : Location). has_room 2 u.invariants) (invariant_fits (scope p) i) (with_last_location (limited i) p) BadLocation o (lt-ltb _ _ r) f

  pub guard_grown : (c : Condition) (e : Edge) → last_of p.edges ≡ Some e → length (used e.guard) < 4 → condition_fits (scope p) c ≡ true → add_condition p c ≡ Ok (with_last_edge (guarded c) p)
  guard_grown c e o r f = grown_ok (last_of p.edges) e (λ (u : Edge). has_room 4 u.guard) (condition_fits (scope p) c) (with_last_edge (guarded c) p) BadEdge o (lt-ltb _ _ r) f

  pub resets_grown : (x : Reset) (e : Edge) → last_of p.edges ≡ Some e → length (used e.resets) < 4 → reset_fits (scope p) x ≡ true → add_reset p x ≡ Ok (with_last_edge (resetting x) p)
  resets_grown x e o r f = grown_ok (last_of p.edges) e (λ (u : Edge). has_room 4 u.resets) (reset_fits (scope p) x) (with_last_edge (resetting x) p) BadEdge o (lt-ltb _ _ r) f

  pub edge_grown : (a : Assignment) (e : Edge) → last_of p.edges ≡ Some e → length (used e.assignments) < 4 → assignment_fits (scope p) a ≡ true → add_edge_assignment p a ≡ Ok (with_last_edge (assigning_edge a) p)
  edge_grown a e o r f = grown_ok (last_of p.edges) e (λ (u : Edge). has_room 4 u.assignments) (assignment_fits (scope p) a) (with_last_edge (assigning_edge a) p) BadEdge o (lt-ltb _ _ r) f
