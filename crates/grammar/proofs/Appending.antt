-- An accepted line keeps the plan sound and in its widths, and puts its own item behind the items so far.
use Rattle.std.proofs.Common.{◌≡◌, ℕ, ◌≤◌, Bool, true, false, cond, ◌&&◌, ◌||◌, eqb, ltb, leb, List, [], ◌∷◌, ◌++◌, map, length, pos, negsuc, Some, None, Ok, Option, sym, refl, ap, ◌∙◌, subst, ⊎_elim, arith}
use lib.Signed.{le_z}
use Rattle.std.specs.List.{flat_map}
use Rattle.std.proofs.lemmas.List.{append_assoc, append-nil, map_push, nil_from_length}
use Rattle.std.proofs.lemmas.Bool.{and_parts, and_from, eqb-true, leb-true, ltb-true, or_cases}
use Rattle.parts.specs.declared.part.Scope.{Scope}
use Rattle.parts.specs.declared.part.Assignment.{Assignment}
use Rattle.parts.specs.declared.part.Reset.{Reset}
use Rattle.parts.specs.declared.part.Invariant.{Invariant}
use Rattle.parts.specs.declared.part.Condition.{Condition}
use Rattle.parts.specs.declared.part.Task.{Task as TaskPart}
use Rattle.parts.specs.declared.part.Location.{Location}
use Rattle.parts.specs.declared.part.Edge.{Edge as EdgePart}
use Rattle.parts.specs.declared.part.Label.{Label}
use Rattle.parts.specs.declared.part.Label.TheVariants.{Internal, Trigger, Send, Receive}
use Rattle.parts.specs.Limits.{last_tick, longest, present_or_none, variable_fits, assignment_fits, reset_fits, invariant_fits, condition_fits, label_fits, task_fits, location_fits, edge_fits}
use Rattle.sequence.specs.Plan.{Plan, scope, complete, ends_fit, sound}
use Rattle.sequence.specs.Building.{none, next_automaton, with_variable, with_task, with_location, with_edge}
use Rattle.sequence.specs.Growing.{used, last_of, change_last, has_room, assigning_task, limited, guarded, resetting, assigning_edge, with_last_task, with_last_location, with_last_edge}
use Rattle.sequence.proofs.Sound.{Sound, variable_added, task_added, location_added, edge_added}
use Rattle.sequence.proofs.Growing.{used_more, each_last, ends_in, TaskFacts, task_facts, location_facts, EdgeFacts, edge_facts, task_assigns, location_limited, edge_guarded, edge_resets, edge_assigns}
use Rattle.lexical.specs.declared.fault.Place.{Place}
use Rattle.lexical.specs.declared.fault.SequenceFault.TheVariants.{WrongAutomaton, WrongEdgeCount}
use Rattle.lexical.specs.declared.key.Key.{Key}
use Rattle.lexical.specs.declared.key.Key.TheVariants.{Form, Autos, Clocks, Triggers, Chans, Var, Task, Set, Loc, Inv, Edge, Clk, Dif, Val, Zero, Edges}
use Rattle.lexical.specs.Fields.{integer, count, reference, good_or_none, optional, good_label, label}
use Rattle.grammar.specs.Lines.{Fields, lowest, highest, row, there, Item}
use Rattle.grammar.specs.Writing.{variable_item, assignment_item, invariant_item, condition_item, reset_item, task_items, location_items, edge_items, part_items, last_item}
use Rattle.grammar.specs.Reading.{Step, more, done, stage_of, stage_rank, allowed, room_of, room, variable_of, task_of, assignment_of, location_of, invariant_of, edge_of, clock_condition, difference_condition, variable_condition, with_assignment, take_fields}
use Rattle.grammar.specs.Widths.{for_variables, variable_in_widths, assignment_in_widths, condition_in_widths, group_in_widths, task_in_widths, location_in_widths, edge_in_widths, in_widths}
use Rattle.grammar.proofs.Parsing.{never, cond_ok}
use Rattle.grammar.proofs.Goodness.{leZ_through}
use Rattle.grammar.proofs.Narrow.{InWidths, EdgeWidths, edge_widths, group_places, variable_widths, task_widths, location_widths, new_edge_widths, task_assigns_widths, location_limited_widths, edge_guarded_widths, edge_resets_widths, edge_assigns_widths}
use Rattle.grammar.proofs.Accepting.{no_edges, no_locations, no_tasks, in_edge, no_assignments, no_resets, room_back}

-- ---- items put behind one of the four lists of lines, with nothing behind it

module _ {X : Type 0} where
  behind_last : (v r x : List X) → r ≡ [] → (v ++ x) ++ r ≡ (v ++ r) ++ x
  behind_last v r x h =
      ap (λ y. (v ++ x) ++ y) h ∙ (append-nil (v ++ x) ∙ (ap (λ y. y ++ x) (sym (append-nil v)) ∙ ap (λ y. (v ++ y) ++ x) (sym h)))

  under : (v y z x : List X) → z ≡ y ++ x → v ++ z ≡ (v ++ y) ++ x
  under v y z x h = ap (λ u. v ++ u) h ∙ sym (append_assoc v y x)

  grown_first : (v w r x : List X) → w ≡ v ++ x → r ≡ [] → w ++ r ≡ (v ++ r) ++ x
  grown_first v w r x h n = ap (λ y. y ++ r) h ∙ behind_last v r x n

  none_joined : {Y : Type 0} (f : Y → List X) (ys : List Y) → length ys ≡ 0 → flat_map f ys ≡ []
  none_joined f ys h = ap (flat_map f) (nil_from_length ys h)

  none_two : (a b : List X) → a ≡ [] → b ≡ [] → a ++ b ≡ []
  none_two a b h k = ap (λ y. y ++ b) h ∙ k

  joined_push : {Y : Type 0} (f : Y → List X) (ys : List Y) (y : Y) → flat_map f (ys ++ y ∷ []) ≡ flat_map f ys ++ f y
  joined_push f [] y = append-nil (f y)
  joined_push f (z ∷ ys) y = ap (λ l. f z ++ l) (joined_push f ys y) ∙ sym (append_assoc (f z) (flat_map f ys) (f y))

  -- the last one has more
  joined_change : {Y : Type 0} (f : Y → List X) (g : Y → Y) (ys : List Y) (y : Y) (x : List X) → last_of ys ≡ Some y → f (g y) ≡ f y ++ x → flat_map f (change_last g ys) ≡ flat_map f ys ++ x
  joined_change f g ys y x l h =
      let r = ends_in ys y l in
      ap (flat_map f) (r.changed g)
      ∙ (joined_push f r.front (g y)
      ∙ (under (flat_map f r.front) (f y) (f (g y)) x h
      ∙ ap (λ z. z ++ x) (sym (ap (flat_map f) r.whole ∙ joined_push f r.front y))))

-- a plan goes on to another by an item
pub record GoesOn (p : Plan) (i : Item) (q : Plan) : Type 0 where
  pub counts : q.counts ≡ p.counts
  pub items : part_items q ≡ part_items p ++ i ∷ []
  pub sound : sound q ≡ true
  pub widths : in_widths q ≡ true

-- ---- values of a codec, as the limits say it

pub present : (many : ℕ) (o : Option ℕ) → good_or_none (reference many).good o ≡ true → present_or_none o many ≡ true
present many None h = refl
present many (Some n) h = (and_parts (leb n 255) (ltb n many) h).1

pub label_good : (p : Plan) (l : Label) → good_label p.counts.triggers p.counts.channels l ≡ true → label_fits (scope p) l ≡ true
label_good p Internal h = refl
label_good p (Trigger n) h = (and_parts (leb n 255) (ltb n p.counts.triggers) h).1
label_good p (Send n) h = (and_parts (leb n 255) (ltb n p.counts.channels) h).1
label_good p (Receive n) h = (and_parts (leb n 255) (ltb n p.counts.channels) h).1

-- ---- the parts of rows

pub three_parts : (a b c : Bool) → (a && (b && c)) ≡ true → (a ≡ true) × (b ≡ true) × (c ≡ true)
three_parts a b c h = let x = and_parts a (b && c) h in let y = and_parts b c x.1 in (x.0, y.0, y.1)

pub four_parts : (a b c d : Bool) → (a && (b && (c && d))) ≡ true → (a ≡ true) × (b ≡ true) × (c ≡ true) × (d ≡ true)
four_parts a b c d h = let x = and_parts a (b && (c && d)) h in let y = three_parts b c d x.1 in (x.0, y.0, y.1, y.2)

pub there_is : (n many : ℕ) → (reference many).good n ≡ true → ltb n many ≡ true
there_is n many h = (and_parts (leb n 255) (ltb n many) h).1

-- ---- the items of a part that grows

task_more : (s : Scope) (t : TaskPart) (a : Assignment) → TaskFacts s t → task_in_widths t ≡ true → has_room 4 t.assignments ≡ true → task_items (assigning_task a t) ≡ task_items t ++ assignment_item a ∷ []
task_more s t a f w r =
    let places = group_places 4 assignment_in_widths t.assignments (and_parts (leb t.priority 255) (group_in_widths 4 assignment_in_widths t.assignments) w).1 in
    ap (λ l. (Task, (t.cost, t.deadline, t.priority)) ∷ l)
    (ap (map assignment_item) (used_more (assignment_fits s) 4 a t.assignments places f.assignments r) ∙ map_push assignment_item (used t.assignments) a)

location_more : (s : Scope) (l : Location) (i : Invariant) → location_fits s l ≡ true → location_in_widths l ≡ true → has_room 2 l.invariants ≡ true → location_items (limited i l) ≡ location_items l ++ invariant_item i ∷ []
location_more s l i f w r =
    ap (λ x. (Loc, (l.automaton, l.task)) ∷ x)
    (ap (map invariant_item) (used_more (invariant_fits s) 2 i l.invariants (eqb-true (length l.invariants) 2 w) (location_facts s l f).1 r) ∙ map_push invariant_item (used l.invariants) i)

map_none : {X Y : Type 0} (f : X → Y) (xs : List X) → length xs ≡ 0 → map f xs ≡ []
map_none f xs h = ap (map f) (nil_from_length xs h)

guard_more : (s : Scope) (e : EdgePart) (c : Condition) → EdgeFacts s e → EdgeWidths e → has_room 4 e.guard ≡ true → length (used e.resets) ≡ 0 → length (used e.assignments) ≡ 0 → edge_items (guarded c e) ≡ edge_items e ++ condition_item c ∷ []
guard_more s e c f w r z a =
    ap (λ l. (Edge, (e.from, e.to, e.label)) ∷ l)
    (grown_first _ _ _ _ (ap (map condition_item) (used_more (condition_fits s) 4 c e.guard (group_places 4 condition_in_widths e.guard w.guard) f.guard r) ∙ map_push condition_item (used e.guard) c)
    (none_two _ _ (map_none reset_item (used e.resets) z) (map_none assignment_item (used e.assignments) a)))

resets_more : (s : Scope) (e : EdgePart) (x : Reset) → EdgeFacts s e → EdgeWidths e → has_room 4 e.resets ≡ true → length (used e.assignments) ≡ 0 → edge_items (resetting x e) ≡ edge_items e ++ reset_item x ∷ []
resets_more s e x f w r a =
    ap (λ l. (Edge, (e.from, e.to, e.label)) ∷ l)
    (under (map condition_item (used e.guard)) _ _ _
    (grown_first _ _ _ _ (ap (map reset_item) (used_more (reset_fits s) 4 x e.resets (eqb-true (length e.resets) 4 w.resets) f.resets r) ∙ map_push reset_item (used e.resets) x)
    (map_none assignment_item (used e.assignments) a)))

assigns_more : (s : Scope) (e : EdgePart) (a : Assignment) → EdgeFacts s e → EdgeWidths e → has_room 4 e.assignments ≡ true → edge_items (assigning_edge a e) ≡ edge_items e ++ assignment_item a ∷ []
assigns_more s e a f w r =
    ap (λ l. (Edge, (e.from, e.to, e.label)) ∷ l)
    (under (map condition_item (used e.guard)) _ _ _ (under (map reset_item (used e.resets)) _ _ _
    (ap (map assignment_item) (used_more (assignment_fits s) 4 a e.assignments (group_places 4 assignment_in_widths e.assignments w.assignments) f.assignments r) ∙ map_push assignment_item (used e.assignments) a)))

-- ---- what was read of a new part fits, and is in its widths

pub new_variable_fits : (p : Plan) (f : Fields Var) → (row (there p) Var).good f ≡ true → variable_fits (variable_of f) ≡ true
new_variable_fits p f g =
    let w = three_parts ((integer lowest highest).good f.0) ((integer f.0 highest).good f.1) ((integer f.0 f.1).good f.2) g in
    w.2

new_variable_widths : (p : Plan) (f : Fields Var) → (row (there p) Var).good f ≡ true → variable_in_widths (variable_of f) ≡ true
new_variable_widths p f g =
    let w = three_parts ((integer lowest highest).good f.0) ((integer f.0 highest).good f.1) ((integer f.0 f.1).good f.2) g in
    let low = and_parts (le_z lowest f.0) (le_z f.0 highest) w.0 in
    let high = and_parts (le_z f.0 f.1) (le_z f.1 highest) w.1 in
    let start = and_parts (le_z f.0 f.2) (le_z f.2 f.1) w.2 in
    and_from (for_variables f.0) (for_variables f.2 && for_variables f.1) w.0
    (and_from (for_variables f.2) (for_variables f.1)
    (and_from (le_z lowest f.2) (le_z f.2 highest) (leZ_through lowest f.0 f.2 low.0 start.0) (leZ_through f.2 f.1 highest start.1 high.1))
    (and_from (le_z lowest f.1) (le_z f.1 highest) (leZ_through lowest f.0 f.1 low.0 high.0) high.1))

pub new_task_fits : (p : Plan) (f : Fields Task) → (row (there p) Task).good f ≡ true → task_fits (scope p) (task_of f) ≡ true
new_task_fits p f g =
    let w = three_parts ((count 1 longest).good f.0) ((count f.0 longest).good f.1) ((count 0 255).good f.2) g in
    let c = and_parts (leb 1 f.0) (leb f.0 longest) w.0 in
    let d = and_parts (leb f.0 f.1) (leb f.1 longest) w.1 in
    and_from _ _ c.0 (and_from _ _ d.0 (and_from _ _ d.1 refl))

new_task_widths : (p : Plan) (f : Fields Task) → (row (there p) Task).good f ≡ true → task_in_widths (task_of f) ≡ true
new_task_widths p f g =
    let w = three_parts ((count 1 longest).good f.0) ((count f.0 longest).good f.1) ((count 0 255).good f.2) g in
    and_from (leb f.2 255) (group_in_widths 4 assignment_in_widths (task_of f).assignments) (and_parts (leb 0 f.2) (leb f.2 255) w.2).1 refl

module _ (p : Plan) (s : Sound p) where
  pub set_fits : (f : Fields Set) → (row (there p) Set).good f ≡ true → assignment_fits (scope p) (assignment_of f) ≡ true
  set_fits f g =
      let n = length p.variables in
      let w = three_parts ((reference n).good f.0) ((optional (reference n)).good f.1) ((integer lowest highest).good f.2) g in
      and_from _ _ (there_is f.0 n w.0) (present n f.1 w.1)

  set_widths : (f : Fields Set) → (row (there p) Set).good f ≡ true → assignment_in_widths (assignment_of f) ≡ true
  set_widths f g = (three_parts ((reference (length p.variables)).good f.0) ((optional (reference (length p.variables))).good f.1) ((integer lowest highest).good f.2) g).2

  pub clock_fits : (f : Fields Clk) → (row (there p) Clk).good f ≡ true → condition_fits (scope p) (clock_condition f) ≡ true
  clock_fits f g =
      let w = three_parts ((reference p.counts.clocks).good f.0) true ((count 0 last_tick).good f.2) g in
      and_from _ _ (there_is f.0 p.counts.clocks w.0) (and_parts (leb 0 f.2) (leb f.2 last_tick) w.2).1

  pub difference_fits : (f : Fields Dif) → (row (there p) Dif).good f ≡ true → condition_fits (scope p) (difference_condition f) ≡ true
  difference_fits f g =
      let n = p.counts.clocks in
      let w = four_parts ((reference n).good f.0) ((reference n).good f.1) true ((integer (negsuc 999999999) (pos last_tick)).good f.3) g in
      and_from _ _ (there_is f.0 n w.0) (and_from _ _ (there_is f.1 n w.1) w.3)

  pub value_fits : (f : Fields Val) → (row (there p) Val).good f ≡ true → condition_fits (scope p) (variable_condition f) ≡ true
  value_fits f g =
      let w = three_parts ((reference (length p.variables)).good f.0) true ((integer lowest highest).good f.2) g in
      there_is f.0 (length p.variables) w.0

  value_widths : (f : Fields Val) → (row (there p) Val).good f ≡ true → condition_in_widths (variable_condition f) ≡ true
  value_widths f g = (three_parts ((reference (length p.variables)).good f.0) true ((integer lowest highest).good f.2) g).2

-- ---- what each key does, to a sound plan in its widths

module _ (p : Plan) (s : Sound p) (n : InWidths p) where
  variable_on : (f : Fields Var) → allowed Var p ≡ true → room Var p ≡ true → (row (there p) Var).good f ≡ true → GoesOn p (Var, f) (with_variable p (variable_of f))
  variable_on f h r g =
      let k = eqb-true (stage_rank (stage_of p)) 0 h in
      let t = no_tasks p (omega arith) in
      let l = no_locations p (omega arith) in
      let e = no_edges p (omega arith) in
      record {
        counts = refl;
        items = grown_first _ _ _ _ (map_push variable_item p.variables (variable_of f)) (none_two _ _ (none_joined task_items p.tasks t) (none_two _ _ (none_joined location_items p.locations l) (none_joined edge_items p.edges e)));
        sound = variable_added p s (variable_of f) t l e (ltb-true _ _ r) (new_variable_fits p f g);
        widths = variable_widths p n (variable_of f) (new_variable_widths p f g);
      }

  task_on : (f : Fields Task) → allowed Task p ≡ true → room Task p ≡ true → (row (there p) Task).good f ≡ true → GoesOn p (Task, f) (with_task p (task_of f))
  task_on f h r g =
      let k = leb-true (stage_rank (stage_of p)) 1 h in
      let l = no_locations p (omega arith) in
      let e = no_edges p (omega arith) in
      record {
        counts = refl;
        items = under (map variable_item p.variables) _ _ _ (grown_first _ _ _ _ (joined_push task_items p.tasks (task_of f)) (none_two _ _ (none_joined location_items p.locations l) (none_joined edge_items p.edges e)));
        sound = task_added p s (task_of f) l e (ltb-true _ _ r) (new_task_fits p f g);
        widths = task_widths p n (task_of f) (new_task_widths p f g);
      }

  location_on : (f : Fields Loc) → allowed Loc p ≡ true → room Loc p ≡ true → (row (there p) Loc).good f ≡ true → next_automaton p f.0 ≡ true → GoesOn p (Loc, f) (with_location p (location_of f))
  location_on f h r g x =
      let k = leb-true (stage_rank (stage_of p)) 2 h in
      let e = no_edges p (omega arith) in
      let w = and_parts ((reference p.counts.automata).good f.0) ((optional (reference (length p.tasks))).good f.1) g in
      record {
        counts = refl;
        items = under (map variable_item p.variables) _ _ _ (under (flat_map task_items p.tasks) _ _ _ (grown_first _ _ _ _ (joined_push location_items p.locations (location_of f)) (none_joined edge_items p.edges e)));
        sound = location_added p s (location_of f) e (ltb-true _ _ r) (and_from _ _ (present (length p.tasks) f.1 w.1) refl) x;
        widths = location_widths p n (location_of f) refl;
      }

  edge_on : (f : Fields Edge) → room Edge p ≡ true → (row (there p) Edge).good f ≡ true → ends_fit p.locations (edge_of f) ≡ true → GoesOn p (Edge, f) (with_edge p (edge_of f))
  edge_on f r g x =
      let w = three_parts ((reference (length p.locations)).good f.0) ((reference (length p.locations)).good f.1) ((label p.counts.triggers p.counts.channels).good f.2) g in
      record {
        counts = refl;
        items = under (map variable_item p.variables) _ _ _ (under (flat_map task_items p.tasks) _ _ _ (under (flat_map location_items p.locations) _ _ _ (joined_push edge_items p.edges (edge_of f))));
        sound = edge_added p s (edge_of f) (ltb-true _ _ r) (and_from _ _ (label_good p f.2 w.2) refl) x;
        widths = new_edge_widths p n (edge_of f) refl;
      }

  invariant_on : (f : Fields Inv) → allowed Inv p ≡ true → room Inv p ≡ true → (row (there p) Inv).good f ≡ true → GoesOn p (Inv, f) (with_last_location (limited (invariant_of f)) p)
  invariant_on f h r g =
      let k = eqb-true (stage_rank (stage_of p)) 2 h in
      let e = no_edges p (omega arith) in
      let w = three_parts ((reference p.counts.clocks).good f.0) true ((count 0 last_tick).good f.2) g in
      let l = room_back (λ (x : Location). has_room 2 x.invariants) (last_of p.locations) r in
      let fits = each_last (location_fits (scope p)) p.locations l.0 s.locations l.1 in
      let widths = each_last location_in_widths p.locations l.0 n.locations l.1 in
      record {
        counts = refl;
        items = under (map variable_item p.variables) _ _ _ (under (flat_map task_items p.tasks) _ _ _ (grown_first _ _ _ _
            (joined_change location_items (limited (invariant_of f)) p.locations l.0 _ l.1 (location_more (scope p) l.0 (invariant_of f) fits widths l.2))
            (none_joined edge_items p.edges e)));
        sound = location_limited p s (invariant_of f) (and_from _ _ (there_is f.0 p.counts.clocks w.0) (and_parts (leb 0 f.2) (leb f.2 last_tick) w.2).1);
        widths = location_limited_widths p n (invariant_of f);
      }

  -- a line of the last edge
  edge_grown : (g : EdgePart → EdgePart) (e : EdgePart) (i : Item) → last_of p.edges ≡ Some e → edge_items (g e) ≡ edge_items e ++ i ∷ [] → sound (with_last_edge g p) ≡ true → in_widths (with_last_edge g p) ≡ true → GoesOn p i (with_last_edge g p)
  edge_grown g e i l m fits widths = record {
    counts = refl;
    items = under (map variable_item p.variables) _ _ _ (under (flat_map task_items p.tasks) _ _ _ (under (flat_map location_items p.locations) _ _ _ (joined_change edge_items g p.edges e _ l m)));
    sound = fits;
    widths = widths;
  }

  last_edge_facts : (e : EdgePart) → last_of p.edges ≡ Some e → EdgeFacts (scope p) e
  last_edge_facts e l = edge_facts (scope p) e (each_last (edge_fits (scope p)) p.edges e s.edges l)

  last_edge_widths : (e : EdgePart) → last_of p.edges ≡ Some e → EdgeWidths e
  last_edge_widths e l = edge_widths e (each_last edge_in_widths p.edges e n.edges l)

  condition_on : (c : Condition) → eqb (stage_rank (stage_of p)) 3 ≡ true → room Clk p ≡ true → condition_fits (scope p) c ≡ true → condition_in_widths c ≡ true → GoesOn p (condition_item c) (with_last_edge (guarded c) p)
  condition_on c h r fits widths =
      let k = eqb-true (stage_rank (stage_of p)) 3 h in
      let l = room_back (λ (x : EdgePart). has_room 4 x.guard) (last_of p.edges) r in
      edge_grown (guarded c) l.0 (condition_item c) l.1
      (guard_more (scope p) l.0 c (last_edge_facts l.0 l.1) (last_edge_widths l.0 l.1) l.2 (no_resets p l.0 l.1 (omega arith) (omega arith)) (no_assignments p l.0 l.1 (omega arith) (omega arith)))
      (edge_guarded p s c fits) (edge_guarded_widths p n c widths)

  by_four : (n : ℕ) → (eqb n 3 || eqb n 4) ≡ true → (3 ≤ n) × (n ≤ 4)
  by_four n h = ⊎_elim (λ e. let k = eqb-true n 3 e in (omega arith, omega arith)) (λ e. let k = eqb-true n 4 e in (omega arith, omega arith)) (or_cases (eqb n 3) (eqb n 4) h)

  reset_on : (f : ℕ) → allowed Zero p ≡ true → room Zero p ≡ true → (row (there p) Zero).good f ≡ true → GoesOn p (Zero, f) (with_last_edge (resetting (record { clock = f })) p)
  reset_on f h r g =
      let k = by_four (stage_rank (stage_of p)) h in
      let l = room_back (λ (x : EdgePart). has_room 4 x.resets) (last_of p.edges) r in
      let x : Reset = record { clock = f } in
      edge_grown (resetting x) l.0 (Zero, f) l.1
      (resets_more (scope p) l.0 x (last_edge_facts l.0 l.1) (last_edge_widths l.0 l.1) l.2 (no_assignments p l.0 l.1 k.0 k.1))
      (edge_resets p s x (there_is f p.counts.clocks g)) (edge_resets_widths p n x)

  set_on : (f : Fields Set) → allowed Set p ≡ true → room Set p ≡ true → (row (there p) Set).good f ≡ true → GoesOn p (Set, f) (with_assignment (assignment_of f) p)
  set_on f h r g = go (none p.edges) refl r
    where
      a : Assignment
      a = assignment_of f

      fits : assignment_fits (scope p) a ≡ true
      fits = set_fits p s f g

      widths : assignment_in_widths a ≡ true
      widths = set_widths p s f g

      early : none p.edges ≡ true → stage_rank (stage_of p) ≡ 1
      early c = ⊎_elim (λ e. eqb-true (stage_rank (stage_of p)) 1 e) (λ e. never (sym c ∙ (in_edge p (leb-true 3 (stage_rank (stage_of p)) e)).0)) (or_cases (eqb (stage_rank (stage_of p)) 1) (leb 3 (stage_rank (stage_of p))) h)

      go : (c : Bool) → none p.edges ≡ c → cond c (room_of (λ (t : TaskPart). has_room 4 t.assignments) (last_of p.tasks)) (room_of (λ (e : EdgePart). has_room 4 e.assignments) (last_of p.edges)) ≡ true → GoesOn p (Set, f) (cond c (with_last_task (assigning_task a) p) (with_last_edge (assigning_edge a) p))
      go true c r =
          let k = early c in
          let l = room_back (λ (t : TaskPart). has_room 4 t.assignments) (last_of p.tasks) r in
          let t = task_facts (scope p) l.0 (each_last (task_fits (scope p)) p.tasks l.0 s.tasks l.1) in
          let u = each_last task_in_widths p.tasks l.0 n.tasks l.1 in
          record {
            counts = refl;
            items = under (map variable_item p.variables) _ _ _ (grown_first _ _ _ _
                (joined_change task_items (assigning_task a) p.tasks l.0 _ l.1 (task_more (scope p) l.0 a t u l.2))
                (none_two _ _ (none_joined location_items p.locations (no_locations p (omega arith))) (none_joined edge_items p.edges (no_edges p (omega arith)))));
            sound = task_assigns p s a fits;
            widths = task_assigns_widths p n a widths;
          }
      go false c r =
          let l = room_back (λ (e : EdgePart). has_room 4 e.assignments) (last_of p.edges) r in
          edge_grown (assigning_edge a) l.0 (Set, f) l.1
          (assigns_more (scope p) l.0 a (last_edge_facts l.0 l.1) (last_edge_widths l.0 l.1) l.2)
          (edge_assigns p s a fits) (edge_assigns_widths p n a widths)

-- ---- all keys

-- what a line leads to: a plan with its item behind, or the end of a whole plan
abbrev pub Leads : Plan → Item → Step → Type 0
Leads p i (more q) = GoesOn p i q
Leads p i done = (complete p ≡ true) × (i ≡ last_item p)

pub leads : (p : Plan) → Sound p → InWidths p → (k : Key) (at : Place) (f : Fields k) (t : Step) → allowed k p ≡ true → room k p ≡ true → (row (there p) k).good f ≡ true → take_fields k p at f ≡ Ok t → Leads p (k, f) t
leads p s n Form at f t h r g e = never (sym h)
leads p s n Autos at f t h r g e = never (sym h)
leads p s n Clocks at f t h r g e = never (sym h)
leads p s n Triggers at f t h r g e = never (sym h)
leads p s n Chans at f t h r g e = never (sym h)
leads p s n Var at f t h r g e = let i : more (with_variable p (variable_of f)) ≡ t = cc in subst (Leads p (Var, f)) i (variable_on p s n f h r g)
leads p s n Task at f t h r g e = let i : more (with_task p (task_of f)) ≡ t = cc in subst (Leads p (Task, f)) i (task_on p s n f h r g)
leads p s n Set at f t h r g e = let i : more (with_assignment (assignment_of f) p) ≡ t = cc in subst (Leads p (Set, f)) i (set_on p s n f h r g)
leads p s n Loc at f t h r g e =
    let a = cond_ok (next_automaton p f.0) (Ok (more (with_location p (location_of f)))) (WrongAutomaton at) t e in
    let b = a.1 in
    let i : more (with_location p (location_of f)) ≡ t = cc in
    subst (Leads p (Loc, f)) i (location_on p s n f h r g a.0)
leads p s n Inv at f t h r g e = let i : more (with_last_location (limited (invariant_of f)) p) ≡ t = cc in subst (Leads p (Inv, f)) i (invariant_on p s n f h r g)
leads p s n Edge at f t h r g e =
    let a = cond_ok (ends_fit p.locations (edge_of f)) (Ok (more (with_edge p (edge_of f)))) (WrongAutomaton at) t e in
    let b = a.1 in
    let i : more (with_edge p (edge_of f)) ≡ t = cc in
    subst (Leads p (Edge, f)) i (edge_on p s n f r g a.0)
leads p s n Clk at f t h r g e = let i : more (with_last_edge (guarded (clock_condition f)) p) ≡ t = cc in subst (Leads p (Clk, f)) i (condition_on p s n (clock_condition f) h r (clock_fits p s f g) refl)
leads p s n Dif at f t h r g e = let i : more (with_last_edge (guarded (difference_condition f)) p) ≡ t = cc in subst (Leads p (Dif, f)) i (condition_on p s n (difference_condition f) h r (difference_fits p s f g) refl)
leads p s n Val at f t h r g e = let i : more (with_last_edge (guarded (variable_condition f)) p) ≡ t = cc in subst (Leads p (Val, f)) i (condition_on p s n (variable_condition f) h r (value_fits p s f g) (value_widths p s f g))
leads p s n Zero at f t h r g e = let i : more (with_last_edge (resetting (record { clock = f })) p) ≡ t = cc in subst (Leads p (Zero, f)) i (reset_on p s n f h r g)
leads p s n Edges at f t h r g e =
    let a = cond_ok (eqb f (length p.edges)) (Ok done) (WrongEdgeCount at) t e in
    let b = a.1 in
    let i : done ≡ t = cc in
    subst (Leads p (Edges, f)) i ((and_parts (leb 2 (stage_rank (stage_of p))) (complete p) h).1, ap (λ n. (Edges, n)) (eqb-true f (length p.edges) a.0))
