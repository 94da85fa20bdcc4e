-- The parts of a sound plan are all accepted again.
use Rattle.std.proofs.Common.{◌≡◌, ℕ, ◌+◌, ◌<◌, ◌≤◌, Bool, true, eqb, List, [], ◌∷◌, ◌++◌, length, Ok, Result, sym, ap, ◌∙◌, subst, ⊎_elim, arith}
use Rattle.std.proofs.lemmas.List.{append_assoc, append-nil, length-append}
use Rattle.std.proofs.lemmas.Bool.{and_parts, and_from, cond-true, lt-ltb, eqb-true, or_cases}
use Rattle.parts.specs.declared.part.Variable.{Variable}
use Rattle.parts.specs.declared.part.Task.{Task}
use Rattle.parts.specs.declared.part.Location.{Location}
use Rattle.parts.specs.declared.part.Edge.{Edge}
use Rattle.parts.specs.declared.part.Rule.{Rule}
use Rattle.parts.specs.Limits.{variable_fits, task_fits, location_fits, edge_fits}
use Rattle.sequence.specs.Plan.{Plan, scope, each, ends_fit, reached, in_turn}
use Rattle.sequence.specs.Building.{begin, add_variable, add_task, add_location, add_edge}
use Rattle.sequence.specs.Rebuilding.{and_then, add_all, rebuilt}
use Rattle.sequence.proofs.Sound.{Sound, reached_push}

-- parts that are accepted one by one, over any way to hold those that are in
module _ {X : Type 0} (add : Plan → X → Result Plan Rule) (holding : List X → Plan) (fine : List X → List X → Type 0) where
  module _ (one : (done : List X) (x : X) (xs : List X) → fine done (x ∷ xs) → (add (holding done) x ≡ Ok (holding (done ++ x ∷ []))) × fine (done ++ x ∷ []) xs) where
    pub all_added : (xs done : List X) → fine done xs → add_all add xs (holding done) ≡ Ok (holding (done ++ xs))
    all_added [] done h = ap (λ l. Ok (holding l)) (sym (append-nil done))
    all_added (x ∷ xs) done h =
        let s = one done x xs h in
        ap (λ r. and_then r (add_all add xs)) s.0 ∙ (all_added xs (done ++ x ∷ []) s.1 ∙ ap (λ l. Ok (holding l)) (append_assoc done (x ∷ []) xs))

module _ {X : Type 0} (k : ℕ) (fits : X → Bool) where
  -- there is room for those to come, and they fit
  abbrev pub Fine : List X → List X → Type 0
  Fine done xs = (length done + length xs ≤ k) × (each fits xs ≡ true)

  pub fine_one : (done : List X) (x : X) (xs : List X) → Fine done (x ∷ xs) → (length done < k) × (fits x ≡ true) × Fine (done ++ x ∷ []) xs
  fine_one done x xs h =
      let p = and_parts _ _ h.1 in
      (omega (arith, h.0), p.0, (omega (arith, h.0, length-append done (x ∷ [])), p.1))

-- locations in turn go up
turn_up : (n : ℕ) (ls : List Location) → in_turn n ls ≡ true → n ≤ reached n ls
turn_up n [] h = omega arith
turn_up n (l ∷ ls) h =
    let p = and_parts _ _ h in
    let u = turn_up (l.automaton + 1) ls p.1 in
    let up : n ≤ l.automaton + 1 = ⊎_elim (λ (e : eqb (l.automaton + 1) n ≡ true). omega (arith, eqb-true _ _ e)) (λ (e : eqb l.automaton n ≡ true). omega (arith, eqb-true _ _ e)) (or_cases _ _ p.0) in
    omega arith

module _ (p : Plan) (s : Sound p) where
  abbrev with_variables : List Variable → Plan
  with_variables vs = record { counts = p.counts; variables = vs; tasks = []; locations = []; edges = [] }

  variable_one : (done : List Variable) (x : Variable) (xs : List Variable) → Fine 16 variable_fits done (x ∷ xs) → (add_variable (with_variables done) x ≡ Ok (with_variables (done ++ x ∷ []))) × Fine 16 variable_fits (done ++ x ∷ []) xs
  variable_one done x xs h =
      let f = fine_one 16 variable_fits done x xs h in
      (cond-true _ _ _ (lt-ltb _ _ f.0) ∙ cond-true _ _ _ f.1, f.2)

  abbrev with_tasks : List Task → Plan
  with_tasks ts = record { counts = p.counts; variables = p.variables; tasks = ts; locations = []; edges = [] }

  task_one : (done : List Task) (x : Task) (xs : List Task) → Fine 16 (task_fits (scope p)) done (x ∷ xs) → (add_task (with_tasks done) x ≡ Ok (with_tasks (done ++ x ∷ []))) × Fine 16 (task_fits (scope p)) (done ++ x ∷ []) xs
  task_one done x xs h =
      let f = fine_one 16 (task_fits (scope p)) done x xs h in
      (cond-true _ _ _ (lt-ltb _ _ f.0) ∙ cond-true _ _ _ f.1, f.2)

  abbrev with_locations : List Location → Plan
  with_locations ls = record { counts = p.counts; variables = p.variables; tasks = p.tasks; locations = ls; edges = [] }

  abbrev FineTurn : List Location → List Location → Type 0
  FineTurn done xs = Fine 64 (location_fits (scope p)) done xs × (in_turn (reached 0 done) xs ≡ true) × (reached (reached 0 done) xs ≤ p.counts.automata)

  location_one : (done : List Location) (x : Location) (xs : List Location) → FineTurn done (x ∷ xs) → (add_location (with_locations done) x ≡ Ok (with_locations (done ++ x ∷ []))) × FineTurn (done ++ x ∷ []) xs
  location_one done x xs h =
      let f = fine_one 64 (location_fits (scope p)) done x xs h.0 in
      let t = and_parts _ _ h.1 in
      let up = turn_up (x.automaton + 1) xs t.1 in
      let below : x.automaton < p.counts.automata = omega (arith, h.2) in
      let r : reached 0 (done ++ x ∷ []) ≡ x.automaton + 1 = reached_push 0 done x in (
        cond-true _ _ _ (lt-ltb _ _ f.0) ∙ (cond-true _ _ _ f.1 ∙ cond-true _ _ _ (and_from _ _ t.0 (lt-ltb _ _ below))),
        (f.2, ap (λ n. in_turn n xs) r ∙ t.1, subst (λ (n : ℕ). reached n xs ≤ p.counts.automata) (sym r) h.2),
      )

  abbrev with_edges : List Edge → Plan
  with_edges es = record { counts = p.counts; variables = p.variables; tasks = p.tasks; locations = p.locations; edges = es }

  abbrev FineEnds : List Edge → List Edge → Type 0
  FineEnds done xs = Fine 128 (edge_fits (scope p)) done xs × (each (ends_fit p.locations) xs ≡ true)

  edge_one : (done : List Edge) (x : Edge) (xs : List Edge) → FineEnds done (x ∷ xs) → (add_edge (with_edges done) x ≡ Ok (with_edges (done ++ x ∷ []))) × FineEnds (done ++ x ∷ []) xs
  edge_one done x xs h =
      let f = fine_one 128 (edge_fits (scope p)) done x xs h.0 in
      let e = and_parts _ _ h.1 in
      (cond-true _ _ _ (lt-ltb _ _ f.0) ∙ (cond-true _ _ _ f.1 ∙ cond-true _ _ _ e.0), (f.2, e.1))

  pub sound_rebuilt : rebuilt p ≡ Ok p
  sound_rebuilt =
      let a : begin p.counts ≡ Ok (with_variables []) = cond-true _ _ _ s.counts in
      let b : add_all add_variable p.variables (with_variables []) ≡ Ok (with_variables p.variables) = all_added add_variable with_variables (Fine 16 variable_fits) variable_one p.variables [] (omega (arith, s.few_variables), s.variables) in
      let c : add_all add_task p.tasks (with_tasks []) ≡ Ok (with_tasks p.tasks) = all_added add_task with_tasks (Fine 16 (task_fits (scope p))) task_one p.tasks [] (omega (arith, s.few_tasks), s.tasks) in
      let d : add_all add_location p.locations (with_locations []) ≡ Ok (with_locations p.locations) = all_added add_location with_locations FineTurn location_one p.locations [] ((omega (arith, s.few_locations), s.locations), s.turn, s.automata) in
      let e : add_all add_edge p.edges (with_edges []) ≡ Ok (with_edges p.edges) = all_added add_edge with_edges FineEnds edge_one p.edges [] ((omega (arith, s.few_edges), s.edges), s.ends) in
      simp (a, b, c, d, e)
