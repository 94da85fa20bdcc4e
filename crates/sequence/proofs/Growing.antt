-- A part put into a group, and the last part of a kind changed: what that keeps.
use Rattle.std.proofs.Common.{◌≡◌, ℕ, zero, suc, ◌+◌, ◌<◌, Bool, true, ◌&&◌, leb, List, [], ◌∷◌, ◌++◌, length, Some, None, Option, sym, refl, ap, ◌∙◌, subst, arith}
use Rattle.std.specs.List.{slice_get}
use Rattle.std.proofs.lemmas.Bool.{and_parts, and_from, ltb-true}
use Rattle.parts.specs.declared.part.Assignment.{Assignment}
use Rattle.parts.specs.declared.part.Reset.{Reset}
use Rattle.parts.specs.declared.part.Condition.{Condition}
use Rattle.parts.specs.declared.part.Invariant.{Invariant}
use Rattle.parts.specs.declared.part.Task.{Task}
use Rattle.parts.specs.declared.part.Location.{Location}
use Rattle.parts.specs.declared.part.Edge.{Edge}
use Rattle.parts.specs.declared.part.Scope.{Scope}
use Rattle.parts.specs.Limits.{longest, none_left, group_fits, present_or_none, label_fits, assignment_fits, reset_fits, invariant_fits, condition_fits, task_fits, location_fits, edge_fits}
use Rattle.sequence.specs.Plan.{Plan, scope, each, automaton_of, same_there, ends_fit, reached, next_of, in_turn, sound}
use Rattle.sequence.specs.Growing.{used, fill, last_of, change_last, has_room, assigning_task, limited, guarded, resetting, assigning_edge, with_last_task, with_last_location, with_last_edge}
use Rattle.sequence.proofs.Sound.{Sound, sound_from}

-- ---- groups

pub used_none : {X : Type 0} (xs : List (Option X)) → none_left xs ≡ true → used xs ≡ []
used_none [] h = refl
used_none (None ∷ xs) h = used_none xs h
used_none (Some x ∷ xs) h = absurd (let z : ◌≡◌ {A = ℕ} 0 1 = cc in omega arith)

pub length_fill : {X : Type 0} (x : X) (xs : List (Option X)) → length (fill x xs) ≡ length xs
length_fill x [] = refl
length_fill x (None ∷ xs) = refl
length_fill x (Some y ∷ xs) = ap suc (length_fill x xs)

module _ {X : Type 0} (fits : X → Bool) where
  pub none_fits : (xs : List (Option X)) → none_left xs ≡ true → group_fits fits xs ≡ true
  none_fits [] h = refl
  none_fits (None ∷ xs) h = h
  none_fits (Some x ∷ xs) h = absurd (let z : ◌≡◌ {A = ℕ} 0 1 = cc in omega arith)

  pub fits_fill : (x : X) (xs : List (Option X)) → group_fits fits xs ≡ true → fits x ≡ true → group_fits fits (fill x xs) ≡ true
  fits_fill x [] h k = refl
  fits_fill x (None ∷ xs) h k = and_from _ _ k (none_fits xs h)
  fits_fill x (Some y ∷ xs) h k = let p = and_parts _ _ h in and_from _ _ p.0 (fits_fill x xs p.1 k)

  pub used_fill : (x : X) (xs : List (Option X)) → group_fits fits xs ≡ true → length (used xs) < length xs → used (fill x xs) ≡ used xs ++ x ∷ []
  used_fill x [] h l = absurd (omega arith)
  used_fill x (None ∷ xs) h l = let e = used_none xs h in ap (λ us. x ∷ us) e ∙ sym (ap (λ us. us ++ x ∷ []) e)
  used_fill x (Some y ∷ xs) h l = ap (λ us. y ∷ us) (used_fill x xs (and_parts _ _ h).1 (omega arith))

  -- with room, the part stands behind those in use
  pub used_more : (n : ℕ) (x : X) (xs : List (Option X)) → length xs ≡ n → group_fits fits xs ≡ true → has_room n xs ≡ true → used (fill x xs) ≡ used xs ++ x ∷ []
  used_more n x xs places h r = used_fill x xs h (omega (arith, ltb-true (length (used xs)) n r))

-- ---- the last of a list

module _ {X : Type 0} where
  pub length_change : (f : X → X) (xs : List X) → length (change_last f xs) ≡ length xs
  length_change f [] = refl
  length_change f (x ∷ []) = refl
  length_change f (x ∷ y ∷ ys) = ap suc (length_change f (y ∷ ys))

  pub each_change : (fits : X → Bool) (f : X → X) → ((x : X) → fits x ≡ true → fits (f x) ≡ true) → (xs : List X) → each fits xs ≡ true → each fits (change_last f xs) ≡ true
  each_change fits f keeps [] h = refl
  each_change fits f keeps (x ∷ []) h = and_from _ _ (keeps x (and_parts _ _ h).0) refl
  each_change fits f keeps (x ∷ y ∷ ys) h = let p = and_parts _ _ h in and_from _ _ p.0 (each_change fits f keeps (y ∷ ys) p.1)

  pub each_last : (fits : X → Bool) (xs : List X) (x : X) → each fits xs ≡ true → last_of xs ≡ Some x → fits x ≡ true
  each_last fits [] x h e = absurd (let z : ◌≡◌ {A = ℕ} 0 1 = cc in omega arith)
  each_last fits (y ∷ []) x h e = let s : y ≡ x = cc in subst (λ z. fits z ≡ true) s (and_parts _ _ h).0
  each_last fits (y ∷ z ∷ zs) x h e = each_last fits (z ∷ zs) x (and_parts _ _ h).1 e

  -- a list that has a last one, and how it changes
  pub record EndsIn (xs : List X) (x : X) : Type 0 where
    pub front : List X
    pub whole : xs ≡ front ++ x ∷ []
    pub changed : (f : X → X) → change_last f xs ≡ front ++ f x ∷ []

  pub ends_in : (xs : List X) (x : X) → last_of xs ≡ Some x → EndsIn xs x
  ends_in [] x e = absurd (let z : ◌≡◌ {A = ℕ} 0 1 = cc in omega arith)
  ends_in (y ∷ []) x e = let s : y ≡ x = cc in record { front = []; whole = ap (λ z. z ∷ []) s; changed = λ f. ap (λ z. f z ∷ []) s }
  ends_in (y ∷ z ∷ zs) x e =
      let r = ends_in (z ∷ zs) x e in
      record { front = y ∷ r.front; whole = ap (λ l. y ∷ l) r.whole; changed = λ f. ap (λ l. y ∷ l) (r.changed f) }

  pub last_push : (xs : List X) (x : X) → last_of (xs ++ x ∷ []) ≡ Some x
  last_push [] x = refl
  last_push (y ∷ []) x = refl
  last_push (y ∷ z ∷ zs) x = last_push (z ∷ zs) x

-- ---- parts that fit, fact by fact

pub record TaskFacts (s : Scope) (t : Task) : Type 0 where
  pub some : leb 1 t.cost ≡ true
  pub within : leb t.cost t.deadline ≡ true
  pub short : leb t.deadline longest ≡ true
  pub assignments : group_fits (assignment_fits s) t.assignments ≡ true

pub task_facts : (s : Scope) (t : Task) → task_fits s t ≡ true → TaskFacts s t
task_facts s t h =
    let x = and_parts (leb 1 t.cost) _ h in
    let y = and_parts (leb t.cost t.deadline) _ x.1 in
    let z = and_parts (leb t.deadline longest) _ y.1 in
    record { some = x.0; within = y.0; short = z.0; assignments = z.1 }

pub task_from : (s : Scope) (t : Task) → TaskFacts s t → task_fits s t ≡ true
task_from s t f = and_from _ _ f.some (and_from _ _ f.within (and_from _ _ f.short f.assignments))

pub location_facts : (s : Scope) (l : Location) → location_fits s l ≡ true → (present_or_none l.task s.tasks ≡ true) × (group_fits (invariant_fits s) l.invariants ≡ true)
location_facts s l h = and_parts _ _ h

pub record EdgeFacts (s : Scope) (e : Edge) : Type 0 where
  pub label : label_fits s e.label ≡ true
  pub guard : group_fits (condition_fits s) e.guard ≡ true
  pub resets : group_fits (reset_fits s) e.resets ≡ true
  pub assignments : group_fits (assignment_fits s) e.assignments ≡ true

pub edge_facts : (s : Scope) (e : Edge) → edge_fits s e ≡ true → EdgeFacts s e
edge_facts s e h =
    let x = and_parts (label_fits s e.label) _ h in
    let y = and_parts (group_fits (condition_fits s) e.guard) _ x.1 in
    let z = and_parts (group_fits (reset_fits s) e.resets) _ y.1 in
    record { label = x.0; guard = y.0; resets = z.0; assignments = z.1 }

pub edge_from : (s : Scope) (e : Edge) → EdgeFacts s e → edge_fits s e ≡ true
edge_from s e f = and_from _ _ f.label (and_from _ _ f.guard (and_from _ _ f.resets f.assignments))

-- ---- locations whose automata stay

module _ (f : Location → Location) (stays : (l : Location) → (f l).automaton ≡ l.automaton) where
  reached_change : (n : ℕ) (ls : List Location) → reached n (change_last f ls) ≡ reached n ls
  reached_change n [] = refl
  reached_change n (l ∷ []) = ap (λ a. a + 1) (stays l)
  reached_change n (l ∷ m ∷ ms) = reached_change (l.automaton + 1) (m ∷ ms)

  turn_change : (n : ℕ) (ls : List Location) → in_turn n (change_last f ls) ≡ in_turn n ls
  turn_change n [] = refl
  turn_change n (l ∷ []) = ap (λ a. next_of n a && true) (stays l)
  turn_change n (l ∷ m ∷ ms) = ap (λ b. next_of n l.automaton && b) (turn_change (l.automaton + 1) (m ∷ ms))

  automaton_change : (ls : List Location) (i : ℕ) → automaton_of (slice_get (change_last f ls) i) ≡ automaton_of (slice_get ls i)
  automaton_change [] i = refl
  automaton_change (l ∷ []) zero = ap Some (stays l)
  automaton_change (l ∷ []) (suc i) = refl
  automaton_change (l ∷ m ∷ ms) zero = refl
  automaton_change (l ∷ m ∷ ms) (suc i) = automaton_change (m ∷ ms) i

  ends_change : (ls : List Location) (es : List Edge) → each (ends_fit (change_last f ls)) es ≡ each (ends_fit ls) es
  ends_change ls [] = refl
  ends_change ls (e ∷ es) =
      ap (λ o. same_there o (automaton_of (slice_get (change_last f ls) e.to)) && each (ends_fit (change_last f ls)) es) (automaton_change ls e.from)
      ∙ (ap (λ o. same_there (automaton_of (slice_get ls e.from)) o && each (ends_fit (change_last f ls)) es) (automaton_change ls e.to)
      ∙ ap (λ b. ends_fit ls e && b) (ends_change ls es))

-- ---- a sound plan whose last part changes

module _ (p : Plan) (s : Sound p) where
  pub task_changed : (f : Task → Task) → ((t : Task) → task_fits (scope p) t ≡ true → task_fits (scope p) (f t) ≡ true) → sound (with_last_task f p) ≡ true
  task_changed f keeps =
      let n = length_change f p.tasks in
      let same_scope : scope p ≡ scope (with_last_task f p) = ap (λ k. record { counts = p.counts; variables = length p.variables; tasks = k }) (sym n) in
      sound_from (with_last_task f p) (record {
        counts = s.counts;
        few_variables = s.few_variables;
        variables = s.variables;
        few_tasks = omega (arith, s.few_tasks);
        tasks = subst (λ (c : Scope). each (task_fits c) (change_last f p.tasks) ≡ true) same_scope (each_change (task_fits (scope p)) f keeps p.tasks s.tasks);
        few_locations = s.few_locations;
        locations = subst (λ (c : Scope). each (location_fits c) p.locations ≡ true) same_scope s.locations;
        turn = s.turn;
        automata = s.automata;
        few_edges = s.few_edges;
        edges = subst (λ (c : Scope). each (edge_fits c) p.edges ≡ true) same_scope s.edges;
        ends = s.ends;
      })

  pub location_changed : (f : Location → Location) → ((l : Location) → (f l).automaton ≡ l.automaton) → ((l : Location) → location_fits (scope p) l ≡ true → location_fits (scope p) (f l) ≡ true) → sound (with_last_location f p) ≡ true
  location_changed f stays keeps =
      sound_from (with_last_location f p) (record {
        counts = s.counts;
        few_variables = s.few_variables;
        variables = s.variables;
        few_tasks = s.few_tasks;
        tasks = s.tasks;
        few_locations = omega (arith, s.few_locations, length_change f p.locations);
        locations = each_change (location_fits (scope p)) f keeps p.locations s.locations;
        turn = turn_change f stays 0 p.locations ∙ s.turn;
        automata = omega (arith, s.automata, reached_change f stays 0 p.locations);
        few_edges = s.few_edges;
        edges = s.edges;
        ends = ends_change f stays p.locations p.edges ∙ s.ends;
      })

  pub edge_changed : (f : Edge → Edge) → ((e : Edge) → ends_fit p.locations e ≡ true → ends_fit p.locations (f e) ≡ true) → ((e : Edge) → edge_fits (scope p) e ≡ true → edge_fits (scope p) (f e) ≡ true) → sound (with_last_edge f p) ≡ true
  edge_changed f stays keeps =
      sound_from (with_last_edge f p) (record {
        counts = s.counts;
        few_variables = s.few_variables;
        variables = s.variables;
        few_tasks = s.few_tasks;
        tasks = s.tasks;
        few_locations = s.few_locations;
        locations = s.locations;
        turn = s.turn;
        automata = s.automata;
        few_edges = omega (arith, s.few_edges, length_change f p.edges);
        edges = each_change (edge_fits (scope p)) f keeps p.edges s.edges;
        ends = each_change (ends_fit p.locations) f stays p.edges s.ends;
      })

  -- ---- the last part grows

  pub task_assigns : (a : Assignment) → assignment_fits (scope p) a ≡ true → sound (with_last_task (assigning_task a) p) ≡ true
  task_assigns a fits = task_changed (assigning_task a) (λ t h.
      let f = task_facts (scope p) t h in
      task_from (scope p) (assigning_task a t) (record { some = f.some; within = f.within; short = f.short; assignments = fits_fill (assignment_fits (scope p)) a t.assignments f.assignments fits }))

  pub location_limited : (i : Invariant) → invariant_fits (scope p) i ≡ true → sound (with_last_location (limited i) p) ≡ true
  location_limited i fits = location_changed (limited i) (λ l. refl) (λ l h.
      let f = location_facts (scope p) l h in
      and_from _ _ f.0 (fits_fill (invariant_fits (scope p)) i l.invariants f.1 fits))

  pub edge_guarded : (c : Condition) → condition_fits (scope p) c ≡ true → sound (with_last_edge (guarded c) p) ≡ true
  edge_guarded c fits = edge_changed (guarded c) (λ e h. h) (λ e h.
      let f = edge_facts (scope p) e h in
      edge_from (scope p) (guarded c e) (record { label = f.label; guard = fits_fill (condition_fits (scope p)) c e.guard f.guard fits; resets = f.resets; assignments = f.assignments }))

  pub edge_resets : (r : Reset) → reset_fits (scope p) r ≡ true → sound (with_last_edge (resetting r) p) ≡ true
  edge_resets r fits = edge_changed (resetting r) (λ e h. h) (λ e h.
      let f = edge_facts (scope p) e h in
      edge_from (scope p) (resetting r e) (record { label = f.label; guard = f.guard; resets = fits_fill (reset_fits (scope p)) r e.resets f.resets fits; assignments = f.assignments }))

  pub edge_assigns : (a : Assignment) → assignment_fits (scope p) a ≡ true → sound (with_last_edge (assigning_edge a) p) ≡ true
  edge_assigns a fits = edge_changed (assigning_edge a) (λ e h. h) (λ e h.
      let f = edge_facts (scope p) e h in
      edge_from (scope p) (assigning_edge a e) (record { label = f.label; guard = f.guard; resets = f.resets; assignments = fits_fill (assignment_fits (scope p)) a e.assignments f.assignments fits }))
