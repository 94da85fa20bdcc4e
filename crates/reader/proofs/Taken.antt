-- What a draft answered, as what the line did.
use Rattle.std.proofs.Common.{◌≡◌, ℕ, Bool, true, false, cond, List, IsErrAnd, Ok, Err, Result, sym, refl, ap, ◌∙◌, subst}
use Rattle.parts.specs.declared.part.Rule.{Rule}
use Rattle.parts.specs.declared.part.Rule.TheVariants.{BadAutomaton, BadEnds}
use Rattle.sequence.specs.Plan.{Plan, ends_fit}
use Rattle.sequence.specs.Building.{next_automaton, with_variable, with_task, with_location, with_edge, add_variable, add_task, add_location, add_edge}
use Rattle.sequence.specs.Growing.{limited, guarded, resetting, with_last_location, with_last_edge, add_invariant, add_condition, add_reset}
use Rattle.sequence.specs.Model.{Adds}
use Rattle.sequence.proofs.Sound.{Sound}
use Rattle.lexical.specs.declared.fault.Place.{Place}
use Rattle.lexical.specs.declared.fault.SequenceFault.{SequenceFault}
use Rattle.lexical.specs.declared.fault.SequenceFault.TheVariants.{WrongAutomaton}
use Rattle.lexical.specs.declared.key.Key.{Key}
use Rattle.lexical.specs.declared.key.Key.TheVariants.{Var, Task, Set, Loc, Inv, Edge, Clk, Dif, Val, Zero}
use Rattle.lexical.specs.Bytes.{pieces, comma}
use Rattle.lexical.specs.Fields.{on}
use Rattle.grammar.specs.Lines.{There, Fields, row, there}
use Rattle.grammar.specs.Reading.{Step, more, allowed, room, variable_of, task_of, assignment_of, location_of, invariant_of, edge_of, clock_condition, difference_condition, variable_condition, with_assignment, take_fields, take_value}
use Rattle.grammar.proofs.Parsing.{on_ok, row_back}
use Rattle.grammar.proofs.Appending.{clock_fits, difference_fits, value_fits}
use Rattle.lines.specs.Values.{part_of, reset_of}
use Rattle.reader.specs.declared.take.Taken.{Taken}
use Rattle.reader.specs.Taking.{Takes, placed, add_assignment, TakesValue}
use Rattle.reader.proofs.Accepted.{variable_accepted, task_accepted, set_accepted, location_accepted, invariant_accepted, edge_accepted, condition_accepted, reset_accepted}

module _ (at : Place) (before after q : Plan) (rule : Rule) where
  -- the draft accepts the part if and only if the line is accepted
  pub by_answer : (b : Bool) (outcome : Result Plan Rule) (s : Result Step SequenceFault) → outcome ≡ cond b (Ok q) (Err rule) → s ≡ cond b (Ok (more q)) (Err (WrongAutomaton at)) → (r : Result Unit Rule) → Adds outcome before after r → Takes s before after (placed at r)
  by_answer true outcome s o e (Ok u) h = let d : q ≡ after = cc in e ∙ ap (λ x. Ok (more x)) d
  by_answer true outcome s o e (Err k) h = let i = h.0 in absurd cc
  by_answer false outcome s o e (Ok u) h = absurd cc
  by_answer false outcome s o e (Err k) h = (e, h.1)

-- a fault that is passed on
pub passed_on : (p : Plan) (s : Result Step SequenceFault) (fault : SequenceFault) (r : Result Taken SequenceFault) → IsErrAnd r (λ e. e ≡ fault) → s ≡ Err fault → Takes s p p r
passed_on p s fault (Ok t) h e = absurd h
passed_on p s fault (Err d) h e = (e ∙ ap Err (sym h), refl)

-- ---- a value that was read into a part

module _ {X : Type 0} (p : Plan) (k : Key) (part : Fields k → X) (at : Place) (value : List ℕ) where
  abbrev read : Result X SequenceFault
  read = on ((row (there p) k).parse at (pieces comma value)) (λ f. Ok (part f))

  pub record ReadInto (x : X) : Type 0 where
    pub fields : Fields k
    pub is : part fields ≡ x
    pub good : (row (there p) k).good fields ≡ true
    pub does : take_value k p at value ≡ take_fields k p at fields

  pub read_into : (x : X) → Ok x ≡ read → ReadInto x
  read_into x e =
      let a = on_ok ((row (there p) k).parse at (pieces comma value)) (λ f. Ok (part f)) x (sym e) in
      let b = a.2 in
      let same : part a.0 ≡ x = cc in
      record {
        fields = a.0;
        is = same;
        good = (row_back (there p) k at (pieces comma value) a.0 a.1).1;
        does = ap (λ r. on r (take_fields k p at)) a.1;
      }

  -- over the same counts
  pub at_there : (n : There) → n ≡ there p → (r : Result X SequenceFault) → r ≡ on ((row n k).parse at (pieces comma value)) (λ f. Ok (part f)) → r ≡ read
  at_there n e r h = h ∙ ap (λ (m : There). on ((row m k).parse at (pieces comma value)) (λ f. Ok (part f))) e

  -- a fault of the value is the line's, and nothing has changed
  pub faulty : (e : SequenceFault) (r : Result (Fields k) SequenceFault) → on r (λ f. Ok (part f)) ≡ Err e → on r (take_fields k p at) ≡ Err e
  faulty e (Err d) h = let i : d ≡ e = cc in ap Err i
  faulty e (Ok f) h = absurd cc

  pub faulted : (e : SequenceFault) → Err e ≡ read → take_value k p at value ≡ Err e
  faulted e h = faulty e ((row (there p) k).parse at (pieces comma value)) (sym h)

module _ (p : Plan) (at : Place) (value : List ℕ) (after : Plan) (r : Result Taken SequenceFault) where
  pub by_kind : (k d : Key) → k ≡ d → TakesValue d p at value after r → TakesValue k p at value after r
  by_kind k d e h = subst (λ (x : Key). TakesValue x p at value after r) (sym e) h

-- ---- a draft accepts the part of a line if and only if the line is accepted

pub record AcceptsAt {X : Type 0} (p : Plan) (at : Place) (k : Key) (part : Fields k → X) (add : Plan → X → Result Plan Rule) (f : Fields k) : Type 0 where
  pub fits : Bool
  pub after : Plan
  pub rule : Rule
  pub adds : add p (part f) ≡ cond fits (Ok after) (Err rule)
  pub takes : take_fields k p at f ≡ cond fits (Ok (more after)) (Err (WrongAutomaton at))

pub record Accepts {X : Type 0} (p : Plan) (at : Place) (k : Key) (part : Fields k → X) (add : Plan → X → Result Plan Rule) : Type 0 where
  pub fields : (f : Fields k) → allowed k p ≡ true → room k p ≡ true → (row (there p) k).good f ≡ true → AcceptsAt p at k part add f

-- no rule can be broken
surely : {X : Type 0} (p : Plan) (at : Place) (k : Key) (part : Fields k → X) (add : Plan → X → Result Plan Rule) (f : Fields k) (after : Plan) → add p (part f) ≡ Ok after → take_fields k p at f ≡ Ok (more after) → AcceptsAt p at k part add f
surely p at k part add f after a t = record { fits = true; after = after; rule = BadAutomaton; adds = a; takes = t }

module _ (p : Plan) (at : Place) where
  pub variable : Accepts p at Var variable_of add_variable
  variable = record { fields = λ f h r g. surely _ _ _ _ _ f (with_variable p (variable_of f)) (variable_accepted p f h r g) refl }

  pub task : Accepts p at Task task_of add_task
  task = record { fields = λ f h r g. surely _ _ _ _ _ f (with_task p (task_of f)) (task_accepted p f h r g) refl }

  pub location : Accepts p at Loc location_of add_location
  location = record { fields = λ f h r g. record { fits = next_automaton p f.0; after = with_location p (location_of f); rule = BadAutomaton; adds = location_accepted p f h r g; takes = refl } }

  pub invariant : Accepts p at Inv invariant_of add_invariant
  invariant = record { fields = λ f h r g. surely _ _ _ _ _ f (with_last_location (limited (invariant_of f)) p) (invariant_accepted p f h r g) refl }

  pub edge : Accepts p at Edge edge_of add_edge
  edge = record { fields = λ f h r g. record { fits = ends_fit p.locations (edge_of f); after = with_edge p (edge_of f); rule = BadEnds; adds = edge_accepted p f r g; takes = refl } }

  pub reset : Accepts p at Zero reset_of add_reset
  reset = record { fields = λ f h r g. surely _ _ _ _ _ f (with_last_edge (resetting (reset_of f)) p) (reset_accepted p f r g) refl }

  pub assignment : Sound p → Accepts p at Set assignment_of add_assignment
  assignment s = record { fields = λ f h r g. surely _ _ _ _ _ f (with_assignment (assignment_of f) p) (set_accepted p s f h r g) refl }

  pub clock : Sound p → Accepts p at Clk clock_condition add_condition
  clock s = record { fields = λ f h r g. surely _ _ _ _ _ f (with_last_edge (guarded (clock_condition f)) p) (condition_accepted p (clock_condition f) r (clock_fits p s f g)) refl }

  pub difference : Sound p → Accepts p at Dif difference_condition add_condition
  difference s = record { fields = λ f h r g. surely _ _ _ _ _ f (with_last_edge (guarded (difference_condition f)) p) (condition_accepted p (difference_condition f) r (difference_fits p s f g)) refl }

  pub value : Sound p → Accepts p at Val variable_condition add_condition
  value s = record { fields = λ f h r g. surely _ _ _ _ _ f (with_last_edge (guarded (variable_condition f)) p) (condition_accepted p (variable_condition f) r (value_fits p s f g)) refl }

-- ---- what a line of a kind did

module _ {X : Type 0} {p : Plan} {at : Place} {k : Key} {part : Fields k → X} {add : Plan → X → Result Plan Rule} (accepts : Accepts p at k part add) (value : List ℕ) {n : There} (same : n ≡ there p) {d : Key} (is : d ≡ k) where
  -- its part was read, and the draft answered
  pub taken : {x : X} → Ok x ≡ part_of n k part at value → {q : Plan} {a : Result Unit Rule} → Adds (add p x) p q a → {after : Plan} → after ≡ q → {b : Result Unit Rule} → b ≡ a → (r : Result Taken SequenceFault) → r ≡ placed at b → TakesValue d p at value after r
  taken {x} h {q} {a} added {after} t {b} u r s =
      by_kind p at value after r d k is (λ l m.
      let i = read_into p k part at value x (at_there p k part at value n same (Ok x) h) in
      let f = accepts.fields i.fields l m i.good in
      let e : r ≡ placed at a = s ∙ ap (placed at) u in
      let g : Takes (take_value k p at value) p q (placed at a) =
      by_answer at p q f.after f.rule f.fits (add p (part i.fields)) (take_value k p at value) f.adds (i.does ∙ f.takes) a
      (subst (λ (y : X). Adds (add p y) p q a) (sym i.is) added) in
      subst (λ (y : Plan). Takes (take_value k p at value) p y r) (sym t) (subst (λ (y : Result Taken SequenceFault). Takes (take_value k p at value) p q y) (sym e) g))

  -- its value has a fault
  pub refused : {e : SequenceFault} → Err e ≡ part_of n k part at value → (r : Result Taken SequenceFault) → IsErrAnd r (λ x. x ≡ e) → TakesValue d p at value p r
  refused {e} h r s =
      by_kind p at value p r d k is (λ l m. passed_on p (take_value k p at value) e r s (faulted p k part at value e (at_there p k part at value n same (Err e) h)))
