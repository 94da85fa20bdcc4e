-- A draft accepts the part of every line that is allowed, has room and has good fields, but for its automaton.
use Rattle.std.proofs.Common.{◌≡◌, ℕ, Bool, true, false, cond, eqb, leb, length, Ok, Err, sym, refl, ◌∙◌, ⊎_elim, arith}
use Rattle.std.proofs.lemmas.Bool.{and_parts, and_from, cond-true, eqb-true, leb-true, ltb-true, or_cases}
use Rattle.parts.specs.declared.part.Assignment.{Assignment}
use Rattle.parts.specs.declared.part.Condition.{Condition}
use Rattle.parts.specs.declared.part.Task.{Task as TaskPart}
use Rattle.parts.specs.declared.part.Location.{Location}
use Rattle.parts.specs.declared.part.Edge.{Edge as EdgePart}
use Rattle.parts.specs.declared.part.Rule.TheVariants.{BadAutomaton, BadEnds}
use Rattle.parts.specs.Limits.{last_tick, assignment_fits, invariant_fits, condition_fits, location_fits, edge_fits}
use Rattle.sequence.specs.Plan.{Plan, scope, ends_fit}
use Rattle.sequence.specs.Building.{none, next_automaton, with_variable, with_task, with_location, with_edge, add_variable, add_task, add_location, add_edge}
use Rattle.sequence.specs.Growing.{last_of, has_room, assigning_task, limited, guarded, resetting, assigning_edge, with_last_task, with_last_location, with_last_edge, add_task_assignment, add_invariant, add_condition, add_reset, add_edge_assignment}
use Rattle.sequence.proofs.Filling.{none_there, task_grown, location_grown, guard_grown, resets_grown, edge_grown}
use Rattle.sequence.proofs.Sound.{Sound}
use Rattle.lexical.specs.declared.key.Key.TheVariants.{Var, Task, Set, Loc, Inv, Edge, Clk, Zero}
use Rattle.lexical.specs.Fields.{count, reference, optional, label}
use Rattle.grammar.specs.Lines.{Fields, row, there}
use Rattle.grammar.specs.Reading.{stage_of, stage_rank, allowed, room_of, room, variable_of, task_of, assignment_of, location_of, invariant_of, edge_of, with_assignment}
use Rattle.reader.specs.Taking.{add_assignment}
use Rattle.grammar.proofs.Parsing.{never}
use Rattle.grammar.proofs.Accepting.{no_edges, no_locations, no_tasks, in_edge, room_back}
use Rattle.grammar.proofs.Appending.{present, label_good, three_parts, there_is, new_variable_fits, new_task_fits, set_fits}

module _ (p : Plan) where
  pub variable_accepted : (f : Fields Var) → allowed Var p ≡ true → room Var p ≡ true → (row (there p) Var).good f ≡ true → add_variable p (variable_of f) ≡ Ok (with_variable p (variable_of f))
  variable_accepted f h r g =
      let k = eqb-true (stage_rank (stage_of p)) 0 h in
      let t = none_there p.tasks (no_tasks p (omega arith)) in
      let l = none_there p.locations (no_locations p (omega arith)) in
      let e = none_there p.edges (no_edges p (omega arith)) in
      cond-true _ _ _ (and_from _ _ t (and_from _ _ l e)) ∙ (cond-true _ _ _ r ∙ cond-true _ _ _ (new_variable_fits p f g))

  pub task_accepted : (f : Fields Task) → allowed Task p ≡ true → room Task p ≡ true → (row (there p) Task).good f ≡ true → add_task p (task_of f) ≡ Ok (with_task p (task_of f))
  task_accepted f h r g =
      let k = leb-true (stage_rank (stage_of p)) 1 h in
      let l = none_there p.locations (no_locations p (omega arith)) in
      let e = none_there p.edges (no_edges p (omega arith)) in
      cond-true _ _ _ (and_from _ _ l e) ∙ (cond-true _ _ _ r ∙ cond-true _ _ _ (new_task_fits p f g))

  pub location_accepted : (f : Fields Loc) → allowed Loc p ≡ true → room Loc p ≡ true → (row (there p) Loc).good f ≡ true → add_location p (location_of f) ≡ cond (next_automaton p f.0) (Ok (with_location p (location_of f))) (Err BadAutomaton)
  location_accepted f h r g =
      let k = leb-true (stage_rank (stage_of p)) 2 h in
      let e = none_there p.edges (no_edges p (omega arith)) in
      let w = and_parts ((reference p.counts.automata).good f.0) ((optional (reference (length p.tasks))).good f.1) g in
      let fits : location_fits (scope p) (location_of f) ≡ true = and_from _ _ (present (length p.tasks) f.1 w.1) refl in
      cond-true _ _ _ e ∙ (cond-true _ _ _ r ∙ cond-true _ _ _ fits)

  pub edge_accepted : (f : Fields Edge) → room Edge p ≡ true → (row (there p) Edge).good f ≡ true → add_edge p (edge_of f) ≡ cond (ends_fit p.locations (edge_of f)) (Ok (with_edge p (edge_of f))) (Err BadEnds)
  edge_accepted f r g =
      let w = three_parts ((reference (length p.locations)).good f.0) ((reference (length p.locations)).good f.1) ((label p.counts.triggers p.counts.channels).good f.2) g in
      let fits : edge_fits (scope p) (edge_of f) ≡ true = and_from _ _ (label_good p f.2 w.2) refl in
      cond-true _ _ _ r ∙ cond-true _ _ _ fits

  pub invariant_accepted : (f : Fields Inv) → allowed Inv p ≡ true → room Inv p ≡ true → (row (there p) Inv).good f ≡ true → add_invariant p (invariant_of f) ≡ Ok (with_last_location (limited (invariant_of f)) p)
  invariant_accepted f h r g =
      let k = eqb-true (stage_rank (stage_of p)) 2 h in
      let w = three_parts ((reference p.counts.clocks).good f.0) true ((count 0 last_tick).good f.2) g in
      let l = room_back (λ (x : Location). has_room 2 x.invariants) (last_of p.locations) r in
      let fits : invariant_fits (scope p) (invariant_of f) ≡ true = and_from _ _ (there_is f.0 p.counts.clocks w.0) (and_parts (leb 0 f.2) (leb f.2 last_tick) w.2).1 in
      location_grown p (invariant_of f) l.0 (no_edges p (omega arith)) l.1 (ltb-true _ _ l.2) fits

  pub condition_accepted : (c : Condition) → room Clk p ≡ true → condition_fits (scope p) c ≡ true → add_condition p c ≡ Ok (with_last_edge (guarded c) p)
  condition_accepted c r fits =
      let l = room_back (λ (x : EdgePart). has_room 4 x.guard) (last_of p.edges) r in
      guard_grown p c l.0 l.1 (ltb-true _ _ l.2) fits

  pub reset_accepted : (f : ℕ) → room Zero p ≡ true → (row (there p) Zero).good f ≡ true → add_reset p (record { clock = f }) ≡ Ok (with_last_edge (resetting (record { clock = f })) p)
  reset_accepted f r g =
      let l = room_back (λ (x : EdgePart). has_room 4 x.resets) (last_of p.edges) r in
      resets_grown p (record { clock = f }) l.0 l.1 (ltb-true _ _ l.2) (there_is f p.counts.clocks g)

  pub set_accepted : Sound p → (f : Fields Set) → allowed Set p ≡ true → room Set p ≡ true → (row (there p) Set).good f ≡ true → add_assignment p (assignment_of f) ≡ Ok (with_assignment (assignment_of f) p)
  set_accepted s f h r g = go (none p.edges) refl r
    where
      a : Assignment
      a = assignment_of f

      fits : assignment_fits (scope p) a ≡ true
      fits = set_fits p s f g

      early : none p.edges ≡ true → stage_rank (stage_of p) ≡ 1
      early n = ⊎_elim (λ e. eqb-true (stage_rank (stage_of p)) 1 e) (λ e. never (sym n ∙ (in_edge p (leb-true 3 (stage_rank (stage_of p)) e)).0)) (or_cases (eqb (stage_rank (stage_of p)) 1) (leb 3 (stage_rank (stage_of p))) h)

      go : (c : Bool) → none p.edges ≡ c → cond c (room_of (λ (t : TaskPart). has_room 4 t.assignments) (last_of p.tasks)) (room_of (λ (e : EdgePart). has_room 4 e.assignments) (last_of p.edges)) ≡ true → cond c (add_task_assignment p a) (add_edge_assignment p a) ≡ Ok (cond c (with_last_task (assigning_task a) p) (with_last_edge (assigning_edge a) p))
      go true n r =
          let k = early n in
          let l = room_back (λ (t : TaskPart). has_room 4 t.assignments) (last_of p.tasks) r in
          task_grown p a l.0 (no_locations p (omega arith)) (no_edges p (omega arith)) l.1 (ltb-true _ _ l.2) fits
      go false n r =
          let l = room_back (λ (e : EdgePart). has_room 4 e.assignments) (last_of p.edges) r in
          edge_grown p a l.0 l.1 (ltb-true _ _ l.2) fits
