-- No sequence's text is too long: each kind of line has a width, and there are at most so many of each.
use Rattle.std.proofs.Common.{◌≡◌, ℕ, ◌+◌, ◌*◌, ◌≤◌, Bool, true, ◌&&◌, ltb, leb, List, [], ◌∷◌, ◌++◌, map, length, refl, ap, ◌∙◌, subst, suc-mul, arith}
use Rattle.std.specs.List.{flat_map}
use Rattle.std.proofs.lemmas.List.{length-append}
use Rattle.std.proofs.lemmas.Bool.{and_parts, and_from, lt-ltb, le-leb}
use Rattle.parts.specs.declared.part.Variable.{Variable}
use Rattle.parts.specs.declared.part.Assignment.{Assignment}
use Rattle.parts.specs.declared.part.Reset.{Reset}
use Rattle.parts.specs.declared.part.Invariant.{Invariant}
use Rattle.parts.specs.declared.part.Condition.{Condition}
use Rattle.parts.specs.declared.part.Condition.TheVariants as condition
use Rattle.parts.specs.declared.part.Task.{Task as TaskPart}
use Rattle.parts.specs.declared.part.Location.{Location}
use Rattle.parts.specs.declared.part.Edge.{Edge as EdgePart}
use Rattle.parts.specs.Limits.{reset_fits, invariant_fits}
use Rattle.sequence.specs.Plan.{Plan, scope, each, ends_fit, reached, next_of, in_turn}
use Rattle.sequence.specs.Growing.{used}
use Rattle.lexical.specs.declared.key.Key.TheVariants.{Form, Autos, Clocks, Triggers, Chans, Task, Loc, Edge}
use Rattle.lexical.specs.Bytes.{newline}
use Rattle.grammar.specs.Lines.{There, Item, line_of, text_of}
use Rattle.grammar.specs.Writing.{count_items, variable_item, assignment_item, invariant_item, condition_item, reset_item, task_items, location_items, edge_items, part_items, last_item}
use Rattle.grammar.specs.Laws.{EveryTextFits}
use Rattle.grammar.proofs.Narrow.{narrow_variable, narrow_assignment, narrow_condition, narrow_task, narrow_location, narrow_edge, each_both, Narrow, narrow_facts}
use Rattle.grammar.proofs.Groups.{task_group, location_group, edge_groups}
use Rattle.grammar.proofs.Lining.{line_width, line_wide}
use Rattle.grammar.proofs.Goodness.{good_item, Few, few_of, seen, good_variable, good_task, good_assignment, good_location, good_invariant, good_condition, good_reset, good_edge, ends_below}
use Rattle.grammar.proofs.Leading.{text_append, map_joined}
use Rattle.grammar.proofs.Partwise.{turn_up}

-- how long the text of lines is
abbrev size : List Item → ℕ
size is = length (text_of is)

size_append : (is js : List Item) → size (is ++ js) ≡ size is + size js
size_append is js = ap length (text_append is js) ∙ length-append (text_of is) (text_of js)

size_more : (n : There) (i : Item) (is : List Item) → good_item n i ≡ true → size (i ∷ is) ≤ line_width i.0 + size is
size_more n i is g = omega (arith, length-append (line_of i) (newline ∷ text_of is), line_wide n i.0 i.1 g)

module _ {X : Type 0} (items : X → List Item) (fits : X → Bool) (w : ℕ) (one : (x : X) → fits x ≡ true → size (items x) ≤ w) where
  size_joined : (xs : List X) → each fits xs ≡ true → size (flat_map items xs) ≤ length xs * w
  size_joined [] h = omega arith
  size_joined (x ∷ xs) h =
      let p = and_parts (fits x) (each fits xs) h in
      omega (arith, size_append (items x) (flat_map items xs), one x p.0, size_joined xs p.1, suc-mul (length xs) w)

module _ {X : Type 0} (item : X → Item) (fits : X → Bool) (w : ℕ) (one : (x : X) → fits x ≡ true → size (item x ∷ []) ≤ w) where
  size_map : (xs : List X) → each fits xs ≡ true → size (map item xs) ≤ length xs * w
  size_map xs h = subst (λ (is : List Item). size is ≤ length xs * w) (map_joined item xs) (size_joined (λ x. item x ∷ []) fits w one xs h)

-- the automata of locations in turn are there
turn_below : (n a : ℕ) (ls : List Location) → in_turn n ls ≡ true → reached n ls ≤ a → each (λ l. ltb l.automaton a) ls ≡ true
turn_below n a [] h k = refl
turn_below n a (l ∷ ls) h k =
    let p = and_parts (next_of n l.automaton) (in_turn (l.automaton + 1) ls) h in
    and_from _ _ (lt-ltb l.automaton a (omega (arith, turn_up (l.automaton + 1) ls p.1))) (turn_below (l.automaton + 1) a ls p.1 k)

module _ (p : Plan) (s : Narrow p) where
  few : Few (scope p)
  few = few_of (scope p) s.sound.counts s.sound.few_variables s.sound.few_tasks

  abbrev locs : ℕ
  locs = length p.locations

  abbrev n : There
  n = seen (scope p) locs

  size_variable : (v : Variable) → narrow_variable v ≡ true → size (variable_item v ∷ []) ≤ 25
  size_variable v h = size_more n (variable_item v) [] (good_variable n v h)

  size_assignment : (a : Assignment) → narrow_assignment (scope p) a ≡ true → size (assignment_item a ∷ []) ≤ 19
  size_assignment a h = size_more n (assignment_item a) [] (good_assignment (scope p) few locs a h)

  size_invariant : (i : Invariant) → invariant_fits (scope p) i ≡ true → size (invariant_item i ∷ []) ≤ 22
  size_invariant i h = size_more n (invariant_item i) [] (good_invariant (scope p) few locs i h)

  size_condition : (c : Condition) → narrow_condition (scope p) c ≡ true → size (condition_item c ∷ []) ≤ 27
  size_condition c h = by c (size_more n (condition_item c) [] (good_condition (scope p) few locs c h))
    where
      by : (c : Condition) → size (condition_item c ∷ []) ≤ line_width (condition_item c).0 + 0 → size (condition_item c ∷ []) ≤ 27
      by (condition.Clock c r k) h = omega arith
      by (condition.Difference c d r k) h = omega arith
      by (condition.Variable c r k) h = omega arith

  size_reset : (r : Reset) → reset_fits (scope p) r ≡ true → size (reset_item r ∷ []) ≤ 9
  size_reset r h = size_more n (reset_item r) [] (good_reset (scope p) few locs r h)

  size_task : (t : TaskPart) → narrow_task (scope p) t ≡ true → size (task_items t) ≤ 101
  size_task t h =
      let g = task_group (scope p) t h in
      let us = used t.assignments in
      let sets = size_map assignment_item (narrow_assignment (scope p)) 19 size_assignment us g.fit in
      omega (arith, size_more n (Task, (t.cost, t.deadline, t.priority)) (map assignment_item us) (good_task n (scope p) t h), g.few, sets)

  size_location : (l : Location) → (narrow_location (scope p) l && ltb l.automaton p.counts.automata) ≡ true → size (location_items l) ≤ 56
  size_location l h =
      let e = and_parts (narrow_location (scope p) l) (ltb l.automaton p.counts.automata) h in
      let g = location_group (scope p) l e.0 in
      let us = used l.invariants in
      let invs = size_map invariant_item (invariant_fits (scope p)) 22 size_invariant us g.fit in
      omega (arith, size_more n (Loc, (l.automaton, l.task)) (map invariant_item us) (good_location (scope p) few locs l e.1 e.0), g.few, invs)

  size_edge : (e : EdgePart) → (narrow_edge (scope p) e && ends_fit p.locations e) ≡ true → size (edge_items e) ≤ 238
  size_edge e h =
      let x = and_parts (narrow_edge (scope p) e) (ends_fit p.locations e) h in
      let groups = edge_groups (scope p) e x.0 in
      let gs = groups.0 in
      let rs = groups.1 in
      let ts = groups.2 in
      let ug = used e.guard in
      let ur = used e.resets in
      let ua = used e.assignments in
      let conds = size_map condition_item (narrow_condition (scope p)) 27 size_condition ug gs.fit in
      let resets = size_map reset_item (reset_fits (scope p)) 9 size_reset ur rs.fit in
      let sets = size_map assignment_item (narrow_assignment (scope p)) 19 size_assignment ua ts.fit in
      let ends = ends_below p.locations e x.1 in
      let items = map condition_item ug ++ (map reset_item ur ++ map assignment_item ua) in
      omega (
        arith,
        size_more n (Edge, (e.from, e.to, e.label)) items (good_edge (scope p) few locs e (omega (arith, s.sound.few_locations)) ends.0 ends.1 x.0),
        size_append (map condition_item ug) (map reset_item ur ++ map assignment_item ua),
        size_append (map reset_item ur) (map assignment_item ua),
        gs.few,
        rs.few,
        ts.few,
        conds,
        resets,
        sets,
      )

  size_counts : size (count_items p.counts) ≤ 47
  size_counts =
      let c = p.counts in
      let h = and_parts (leb 1 c.automata) (leb c.automata 8 && (leb c.clocks 16 && (leb c.triggers 16 && leb c.channels 8))) s.sound.counts in
      let q = and_parts (leb c.automata 8) (leb c.clocks 16 && (leb c.triggers 16 && leb c.channels 8)) h.1 in
      let t = and_parts (leb c.clocks 16) (leb c.triggers 16 && leb c.channels 8) q.1 in
      let u = and_parts (leb c.triggers 16) (leb c.channels 8) t.1 in
      let i5 : List Item = (Chans, c.channels) ∷ [] in
      let i4 : List Item = (Triggers, c.triggers) ∷ i5 in
      let i3 : List Item = (Clocks, c.clocks) ∷ i4 in
      let i2 : List Item = (Autos, c.automata) ∷ i3 in
      omega (
        arith,
        size_more n (Form, 1) i2 refl,
        size_more n (Autos, c.automata) i3 (and_from (leb 1 c.automata) (leb c.automata 8) h.0 q.0),
        size_more n (Clocks, c.clocks) i4 (and_from (leb 0 c.clocks) (leb c.clocks 16) (le-leb 0 c.clocks (omega arith)) t.0),
        size_more n (Triggers, c.triggers) i5 (and_from (leb 0 c.triggers) (leb c.triggers 16) (le-leb 0 c.triggers (omega arith)) u.0),
        size_more n (Chans, c.channels) [] (and_from (leb 0 c.channels) (leb c.channels 8) (le-leb 0 c.channels (omega arith)) u.1),
      )

  size_last : size (last_item p ∷ []) ≤ 10
  size_last = size_more n (last_item p) [] (and_from (leb 0 (length p.edges)) (leb (length p.edges) 128) (le-leb 0 (length p.edges) (omega arith)) (le-leb (length p.edges) 128 s.sound.few_edges))

pub every_text_fits : EveryTextFits
every_text_fits p v w =
    let s = narrow_facts p v.0 w in
    let vs = map variable_item p.variables in
    let ts = flat_map task_items p.tasks in
    let ls = flat_map location_items p.locations in
    let es = flat_map edge_items p.edges in
    let variables = size_map variable_item narrow_variable 25 (size_variable p s) p.variables s.variables in
    let tasks = size_joined task_items (narrow_task (scope p)) 101 (size_task p s) p.tasks s.tasks in
    let there = turn_below 0 p.counts.automata p.locations s.sound.turn s.sound.automata in
    let locations = size_joined location_items (λ l. narrow_location (scope p) l && ltb l.automaton p.counts.automata) 56 (size_location p s) p.locations (each_both (narrow_location (scope p)) (λ l. ltb l.automaton p.counts.automata) p.locations s.locations there) in
    let both = each_both (narrow_edge (scope p)) (ends_fit p.locations) p.edges s.edges s.sound.ends in
    let edges = size_joined edge_items (λ e. narrow_edge (scope p) e && ends_fit p.locations e) 238 (size_edge p s) p.edges both in
    omega (
      arith,
      size_append (count_items p.counts) (part_items p ++ (last_item p ∷ [])),
      size_append (part_items p) (last_item p ∷ []),
      size_append vs (ts ++ (ls ++ es)),
      size_append ts (ls ++ es),
      size_append ls es,
      size_counts p s,
      size_last p s,
      variables,
      tasks,
      locations,
      edges,
      s.sound.few_variables,
      s.sound.few_tasks,
      s.sound.few_locations,
      s.sound.few_edges,
    )
