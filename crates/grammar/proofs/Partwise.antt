-- The lines of a sequence lead from its counts to the sequence.
use Rattle.std.proofs.Common.{◌≡◌, ℕ, ◌+◌, ◌<◌, ◌≤◌, Bool, true, false, cond, ◌&&◌, eqb, ltb, leb, List, [], ◌∷◌, ◌++◌, map, length, Some, None, Ok, Option, sym, refl, ap, ◌∙◌, subst, ⊎_elim, arith}
use Rattle.std.specs.List.{flat_map}
use Rattle.std.proofs.lemmas.Bool.{and_parts, and_from, or_right, cond-true, lt-ltb, eqb-true, or_cases, leb-true, le-leb}
use Rattle.parts.specs.declared.part.Variable.{Variable}
use Rattle.parts.specs.declared.part.Assignment.{Assignment}
use Rattle.parts.specs.declared.part.Reset.{Reset}
use Rattle.parts.specs.declared.part.Invariant.{Invariant}
use Rattle.parts.specs.declared.part.Condition.{Condition}
use Rattle.parts.specs.declared.part.Condition.TheVariants as condition
use Rattle.parts.specs.declared.part.Task.{Task as TaskPart}
use Rattle.parts.specs.declared.part.Location.{Location}
use Rattle.parts.specs.declared.part.Edge.{Edge as EdgePart}
use Rattle.parts.specs.Limits.{reset_fits, invariant_fits}
use Rattle.sequence.specs.Plan.{Plan, scope, ends_fit, reached, next_of, in_turn, complete}
use Rattle.sequence.specs.Building.{none, next_automaton}
use Rattle.sequence.specs.Growing.{used, has_room, last_of, assigning_task, limited, guarded, resetting, assigning_edge, with_last_task, with_last_edge}
use Rattle.sequence.proofs.Sound.{reached_push}
use Rattle.sequence.proofs.Growing.{last_push}
use Rattle.lexical.specs.declared.key.Key.TheVariants.{Var, Task, Set, Loc, Inv, Edge, Clk, Dif, Val, Zero}
use Rattle.grammar.specs.declared.stage.Stage.{Stage}
use Rattle.grammar.specs.declared.stage.Stage.TheVariants.{Variables, Tasks, Locations, Guard, Resets, Assignments}
use Rattle.grammar.specs.Lines.{there}
use Rattle.grammar.specs.Writing.{variable_item, assignment_item, invariant_item, condition_item, reset_item, task_items, location_items, edge_items}
use Rattle.grammar.specs.Reading.{more, edge_stage, stage_of, stage_rank, allowed_at, room_of, wrong_automaton}
use Rattle.grammar.proofs.Groups.{padded, fill_padded, room_padded, task_group, location_group, edge_groups, change_push, none_push}
use Rattle.grammar.proofs.Narrow.{narrow_variable, narrow_assignment, narrow_condition, narrow_task, narrow_location, narrow_edge, each_both, Narrow}
use Rattle.grammar.proofs.Goodness.{Few, few_of, good_variable, good_task, good_assignment, good_location, good_invariant, good_condition, good_reset, good_edge, ends_below}
use Rattle.grammar.proofs.Leading.{Leads, leads_more, leads_one, leads_all, leads_each, Fine, fine_one}

-- an edge's stage is behind that of locations
edge_late : (o : Option EdgePart) → leb 3 (stage_rank (edge_stage o)) ≡ true
edge_late None = refl
edge_late (Some e) = by (none (used e.assignments)) (none (used e.resets))
  where
    by : (a b : Bool) → leb 3 (stage_rank (cond a (cond b Guard Resets) Assignments)) ≡ true
    by true true = refl
    by true false = refl
    by false b = refl

two_below : (n : ℕ) → leb 3 n ≡ true → leb 2 n ≡ true
two_below n h = le-leb 2 n (omega (arith, leb-true 3 n h))

-- locations in turn go up
pub turn_up : (n : ℕ) (ls : List Location) → in_turn n ls ≡ true → n ≤ reached n ls
turn_up n [] h = omega arith
turn_up n (l ∷ ls) h =
    let p = and_parts (next_of n l.automaton) (in_turn (l.automaton + 1) ls) h in
    let u = turn_up (l.automaton + 1) ls p.1 in
    let up : n ≤ l.automaton + 1 = ⊎_elim (λ (e : eqb (l.automaton + 1) n ≡ true). omega (arith, eqb-true _ _ e)) (λ (e : eqb l.automaton n ≡ true). omega (arith, eqb-true _ _ e)) (or_cases _ _ p.0) in
    omega arith

module _ (p : Plan) (s : Narrow p) where
  few : Few (scope p)
  few = few_of (scope p) s.sound.counts s.sound.few_variables s.sound.few_tasks

  -- ---- variables

  abbrev pub with_variables : List Variable → Plan
  with_variables vs = record { counts = p.counts; variables = vs; tasks = []; locations = []; edges = [] }

  leads_variable : (before : List Variable) (v : Variable) → length before < 16 → narrow_variable v ≡ true → Leads (with_variables before) (variable_item v ∷ []) (with_variables (before ++ v ∷ []))
  leads_variable before v h g =
      leads_one (with_variables before) (with_variables (before ++ v ∷ [])) Var (v.low, v.high, v.start) refl (lt-ltb (length before) 16 h)
      (good_variable (there (with_variables before)) v g) (λ at. refl)

  pub leads_variables : Leads (with_variables []) (map variable_item p.variables) (with_variables p.variables)
  leads_variables = leads_each variable_item with_variables 16 narrow_variable leads_variable p.variables s.sound.few_variables s.variables

  -- ---- tasks

  abbrev pub with_tasks : List TaskPart → Plan
  with_tasks ts = record { counts = p.counts; variables = p.variables; tasks = ts; locations = []; edges = [] }

  -- a task with so many of its assignments
  abbrev task_with : TaskPart → List (Option Assignment) → TaskPart
  task_with t g = record { cost = t.cost; deadline = t.deadline; priority = t.priority; assignments = g }

  before_tasks : (b : Bool) → leb (stage_rank (cond b Variables Tasks)) 1 ≡ true
  before_tasks true = refl
  before_tasks false = refl

  module _ (before : List TaskPart) (t : TaskPart) where
    abbrev task_at : List Assignment → Plan
    task_at xs = with_tasks (before ++ task_with t (padded 4 xs) ∷ [])

    leads_task_set : (xs : List Assignment) (a : Assignment) → length xs < 4 → narrow_assignment (scope p) a ≡ true → Leads (task_at xs) (assignment_item a ∷ []) (task_at (xs ++ a ∷ []))
    leads_task_set xs a h g =
        let x = task_with t (padded 4 xs) in
        leads_one (task_at xs) (task_at (xs ++ a ∷ [])) Set (a.target, a.source, a.constant)
        (ap (λ (c : Bool). allowed_at Set (stage_rank (cond c Variables Tasks)) true) (none_push before x))
        (ap (room_of (λ t. has_room 4 t.assignments)) (last_push before x) ∙ room_padded 4 xs h)
        (good_assignment (scope p) few 0 a g)
        (λ at. ap (λ (ts : List TaskPart). Ok (more (with_tasks ts))) (change_push (assigning_task a) before x ∙ ap (λ (g : List (Option Assignment)). before ++ task_with t g ∷ []) (fill_padded 4 xs a h)))

    leads_task : length before < 16 → narrow_task (scope p) t ≡ true → Leads (with_tasks before) (task_items t) (with_tasks (before ++ t ∷ []))
    leads_task h f =
        let g = task_group (scope p) t f in
        let us = used t.assignments in
        subst (λ (x : List (Option Assignment)). Leads (with_tasks before) (task_items t) (with_tasks (before ++ task_with t x ∷ []))) g.places
        (leads_more (with_tasks before) (task_at []) (task_at us) ((Task, (t.cost, t.deadline, t.priority)) ∷ []) (map assignment_item us)
        (leads_one (with_tasks before) (task_at []) Task (t.cost, t.deadline, t.priority) (before_tasks (none before)) (lt-ltb (length before) 16 h)
        (good_task (there (with_tasks before)) (scope p) t f) (λ at. refl))
        (leads_each assignment_item task_at 4 (narrow_assignment (scope p)) leads_task_set us g.few g.fit))

  pub leads_tasks : Leads (with_tasks []) (flat_map task_items p.tasks) (with_tasks p.tasks)
  leads_tasks =
      leads_all task_items with_tasks (Fine 16 (narrow_task (scope p)))
      (λ before t ts h. let f = fine_one 16 (narrow_task (scope p)) before t ts h in (leads_task before t f.0 f.1, f.2))
      p.tasks [] (omega (arith, s.sound.few_tasks), s.tasks)

  -- ---- locations

  abbrev pub with_locations : List Location → Plan
  with_locations ls = record { counts = p.counts; variables = p.variables; tasks = p.tasks; locations = ls; edges = [] }

  abbrev location_with : Location → List (Option Invariant) → Location
  location_with l g = record { automaton = l.automaton; task = l.task; invariants = g }

  before_locations : (a b : Bool) → leb (stage_rank (cond a (cond b Variables Tasks) Locations)) 2 ≡ true
  before_locations true true = refl
  before_locations true false = refl
  before_locations false b = refl

  module _ (before : List Location) (l : Location) where
    abbrev location_at : List Invariant → Plan
    location_at xs = with_locations (before ++ location_with l (padded 2 xs) ∷ [])

    leads_invariant : (xs : List Invariant) (i : Invariant) → length xs < 2 → invariant_fits (scope p) i ≡ true → Leads (location_at xs) (invariant_item i ∷ []) (location_at (xs ++ i ∷ []))
    leads_invariant xs i h g =
        let x = location_with l (padded 2 xs) in
        leads_one (location_at xs) (location_at (xs ++ i ∷ [])) Inv (i.clock, i.strict, i.bound)
        (ap (λ (c : Bool). allowed_at Inv (stage_rank (cond c (cond (none p.tasks) Variables Tasks) Locations)) true) (none_push before x))
        (ap (room_of (λ l. has_room 2 l.invariants)) (last_push before x) ∙ room_padded 2 xs h)
        (good_invariant (scope p) few 0 i g)
        (λ at. ap (λ (ls : List Location). Ok (more (with_locations ls))) (change_push (limited i) before x ∙ ap (λ (g : List (Option Invariant)). before ++ location_with l g ∷ []) (fill_padded 2 xs i h)))

    leads_location : length before < 64 → narrow_location (scope p) l ≡ true → next_automaton (with_locations before) l.automaton ≡ true → Leads (with_locations before) (location_items l) (with_locations (before ++ l ∷ []))
    leads_location h f n =
        let below = and_parts (next_of (reached 0 before) l.automaton) (ltb l.automaton p.counts.automata) n in
        let g = location_group (scope p) l f in
        let us = used l.invariants in
        subst (λ (x : List (Option Invariant)). Leads (with_locations before) (location_items l) (with_locations (before ++ location_with l x ∷ []))) g.places
        (leads_more (with_locations before) (location_at []) (location_at us) ((Loc, (l.automaton, l.task)) ∷ []) (map invariant_item us)
        (leads_one (with_locations before) (location_at []) Loc (l.automaton, l.task) (before_locations (none before) (none p.tasks)) (lt-ltb (length before) 64 h)
        (good_location (scope p) few 0 l below.1 f)
        (λ at. cond-true (next_automaton (with_locations before) l.automaton) (Ok (more (location_at []))) (wrong_automaton at) n))
        (leads_each invariant_item location_at 2 (invariant_fits (scope p)) leads_invariant us g.few g.fit))

  -- there is room, they fit, and go automaton by automaton
  abbrev FineTurn : List Location → List Location → Type 0
  FineTurn before ls = Fine 64 (narrow_location (scope p)) before ls × (in_turn (reached 0 before) ls ≡ true) × (reached (reached 0 before) ls ≤ p.counts.automata)

  leads_turn : (before : List Location) (l : Location) (ls : List Location) → FineTurn before (l ∷ ls) → Leads (with_locations before) (location_items l) (with_locations (before ++ l ∷ [])) × FineTurn (before ++ l ∷ []) ls
  leads_turn before l ls h =
      let f = fine_one 64 (narrow_location (scope p)) before l ls h.0 in
      let t = and_parts (next_of (reached 0 before) l.automaton) (in_turn (l.automaton + 1) ls) h.1 in
      let up = turn_up (l.automaton + 1) ls t.1 in
      let below : l.automaton < p.counts.automata = omega (arith, h.2) in
      let r : reached 0 (before ++ l ∷ []) ≡ l.automaton + 1 = reached_push 0 before l in (
        leads_location before l f.0 f.1 (and_from _ _ t.0 (lt-ltb l.automaton p.counts.automata below)),
        (f.2, ap (λ n. in_turn n ls) r ∙ t.1, subst (λ (n : ℕ). reached n ls ≤ p.counts.automata) (sym r) h.2),
      )

  pub leads_locations : Leads (with_locations []) (flat_map location_items p.locations) (with_locations p.locations)
  leads_locations = leads_all location_items with_locations FineTurn leads_turn p.locations [] ((omega (arith, s.sound.few_locations), s.locations), s.sound.turn, s.sound.automata)

  -- ---- edges

  abbrev pub with_edges : List EdgePart → Plan
  with_edges es = record { counts = p.counts; variables = p.variables; tasks = p.tasks; locations = p.locations; edges = es }

  -- behind the locations, and behind an edge
  late : (b : Bool) (o : Option EdgePart) → leb 2 (stage_rank (cond b Locations (edge_stage o))) ≡ true
  late true o = refl
  late false o = two_below (stage_rank (edge_stage o)) (edge_late o)

  module _ (filled : none p.locations ≡ false) (whole : complete p ≡ true) where
    -- an edge, or the last line, may follow
    pub edges_follow : (es : List EdgePart) → (leb 2 (stage_rank (stage_of (with_edges es))) && complete (with_edges es)) ≡ true
    edges_follow es =
        and_from (leb 2 (stage_rank (stage_of (with_edges es)))) (complete (with_edges es))
        (ap (λ (c : Bool). leb 2 (stage_rank (cond (none es) (cond c (cond (none p.tasks) Variables Tasks) Locations) (edge_stage (last_of es))))) filled ∙ late (none es) (last_of es)) whole

    module _ (before : List EdgePart) (e : EdgePart) where
      abbrev edge_with : List (Option Condition) → List (Option Reset) → List (Option Assignment) → EdgePart
      edge_with g r a = record { from = e.from; to = e.to; label = e.label; guard = g; resets = r; assignments = a }

      abbrev edges_at : EdgePart → Plan
      edges_at x = with_edges (before ++ x ∷ [])

      -- the stage is that of the last edge
      stage_last : (x : EdgePart) → stage_of (edges_at x) ≡ edge_stage (Some x)
      stage_last x =
          ap (λ (c : Bool). cond c (cond (none p.locations) (cond (none p.tasks) Variables Tasks) Locations) (edge_stage (last_of (before ++ x ∷ [])))) (none_push before x)
          ∙ ap edge_stage (last_push before x)

      abbrev guard_at : List Condition → Plan
      guard_at xs = edges_at (edge_with (padded 4 xs) (padded 4 []) (padded 4 []))

      in_guard : (xs : List Condition) → stage_rank (stage_of (guard_at xs)) ≡ 3
      in_guard xs = ap stage_rank (stage_last (edge_with (padded 4 xs) (padded 4 []) (padded 4 [])))

      guard_free : (xs : List Condition) → length xs < 4 → room_of (λ e. has_room 4 e.guard) (last_of (before ++ edge_with (padded 4 xs) (padded 4 []) (padded 4 []) ∷ [])) ≡ true
      guard_free xs h = ap (room_of (λ e. has_room 4 e.guard)) (last_push before (edge_with (padded 4 xs) (padded 4 []) (padded 4 []))) ∙ room_padded 4 xs h

      guard_more : (xs : List Condition) (c : Condition) → length xs < 4 → with_last_edge (guarded c) (guard_at xs) ≡ guard_at (xs ++ c ∷ [])
      guard_more xs c h =
          ap with_edges (change_push (guarded c) before (edge_with (padded 4 xs) (padded 4 []) (padded 4 []))
          ∙ ap (λ (g : List (Option Condition)). before ++ edge_with g (padded 4 []) (padded 4 []) ∷ []) (fill_padded 4 xs c h))

      leads_condition : (xs : List Condition) (c : Condition) → length xs < 4 → narrow_condition (scope p) c ≡ true → Leads (guard_at xs) (condition_item c ∷ []) (guard_at (xs ++ c ∷ []))
      leads_condition xs (condition.Clock c r k) h g =
          leads_one (guard_at xs) (guard_at (xs ++ condition.Clock c r k ∷ [])) Clk (c, r, k) (ap (λ (n : ℕ). eqb n 3) (in_guard xs)) (guard_free xs h)
          (good_condition (scope p) few (length p.locations) (condition.Clock c r k) g) (λ at. ap (λ (q : Plan). Ok (more q)) (guard_more xs (condition.Clock c r k) h))
      leads_condition xs (condition.Difference c d r k) h g =
          leads_one (guard_at xs) (guard_at (xs ++ condition.Difference c d r k ∷ [])) Dif (c, d, r, k) (ap (λ (n : ℕ). eqb n 3) (in_guard xs)) (guard_free xs h)
          (good_condition (scope p) few (length p.locations) (condition.Difference c d r k) g) (λ at. ap (λ (q : Plan). Ok (more q)) (guard_more xs (condition.Difference c d r k) h))
      leads_condition xs (condition.Variable c r k) h g =
          leads_one (guard_at xs) (guard_at (xs ++ condition.Variable c r k ∷ [])) Val (c, r, k) (ap (λ (n : ℕ). eqb n 3) (in_guard xs)) (guard_free xs h)
          (good_condition (scope p) few (length p.locations) (condition.Variable c r k) g) (λ at. ap (λ (q : Plan). Ok (more q)) (guard_more xs (condition.Variable c r k) h))

      zero_follows : (b : Bool) → allowed_at Zero (stage_rank (cond b Guard Resets)) true ≡ true
      zero_follows true = refl
      zero_follows false = refl

      abbrev resets_at : List Reset → Plan
      resets_at xs = edges_at (edge_with e.guard (padded 4 xs) (padded 4 []))

      leads_reset : (xs : List Reset) (r : Reset) → length xs < 4 → reset_fits (scope p) r ≡ true → Leads (resets_at xs) (reset_item r ∷ []) (resets_at (xs ++ r ∷ []))
      leads_reset xs r h g =
          let x = edge_with e.guard (padded 4 xs) (padded 4 []) in
          leads_one (resets_at xs) (resets_at (xs ++ r ∷ [])) Zero r.clock
          (ap (λ (n : Stage). allowed_at Zero (stage_rank n) true) (stage_last x) ∙ zero_follows (none (used (padded 4 xs))))
          (ap (room_of (λ e. has_room 4 e.resets)) (last_push before x) ∙ room_padded 4 xs h)
          (good_reset (scope p) few (length p.locations) r g)
          (λ at. ap (λ (es : List EdgePart). Ok (more (with_edges es))) (change_push (resetting r) before x ∙ ap (λ (g : List (Option Reset)). before ++ edge_with e.guard g (padded 4 []) ∷ []) (fill_padded 4 xs r h)))

      abbrev sets_at : List Assignment → Plan
      sets_at xs = edges_at (edge_with e.guard e.resets (padded 4 xs))

      leads_edge_set : (xs : List Assignment) (a : Assignment) → length xs < 4 → narrow_assignment (scope p) a ≡ true → Leads (sets_at xs) (assignment_item a ∷ []) (sets_at (xs ++ a ∷ []))
      leads_edge_set xs a h g =
          let x = edge_with e.guard e.resets (padded 4 xs) in
          let q = sets_at xs in
          leads_one (sets_at xs) (sets_at (xs ++ a ∷ [])) Set (a.target, a.source, a.constant)
          (ap (λ (n : Stage). allowed_at Set (stage_rank n) true) (stage_last x) ∙ or_right (eqb (stage_rank (edge_stage (Some x))) 1) (leb 3 (stage_rank (edge_stage (Some x)))) (edge_late (Some x)))
          (ap (λ (c : Bool). cond c (room_of (λ t. has_room 4 t.assignments) (last_of p.tasks)) (room_of (λ e. has_room 4 e.assignments) (last_of (before ++ x ∷ [])))) (none_push before x)
          ∙ (ap (room_of (λ e. has_room 4 e.assignments)) (last_push before x) ∙ room_padded 4 xs h))
          (good_assignment (scope p) few (length p.locations) a g)
          (λ at.
          ap (λ (c : Bool). Ok (more (cond c (with_last_task (assigning_task a) q) (with_last_edge (assigning_edge a) q)))) (none_push before x)
          ∙ ap (λ (es : List EdgePart). Ok (more (with_edges es))) (change_push (assigning_edge a) before x ∙ ap (λ (g : List (Option Assignment)). before ++ edge_with e.guard e.resets g ∷ []) (fill_padded 4 xs a h)))

      leads_edge : length before < 128 → narrow_edge (scope p) e ≡ true → ends_fit p.locations e ≡ true → Leads (with_edges before) (edge_items e) (with_edges (before ++ e ∷ []))
      leads_edge h f i =
          let groups = edge_groups (scope p) e f in
          let gs = groups.0 in
          let rs = groups.1 in
          let ts = groups.2 in
          let ends = ends_below p.locations e i in
          let ug = used e.guard in
          let ur = used e.resets in
          let ua = used e.assignments in
          let head = leads_one (with_edges before) (guard_at []) Edge (e.from, e.to, e.label) (edges_follow before) (lt-ltb (length before) 128 h)
          (good_edge (scope p) few (length p.locations) e (omega (arith, s.sound.few_locations)) ends.0 ends.1 f)
          (λ at. cond-true (ends_fit p.locations e) (Ok (more (guard_at []))) (wrong_automaton at) i) in
          let guard = leads_each condition_item guard_at 4 (narrow_condition (scope p)) leads_condition ug gs.few gs.fit in
          let guard_on = subst (λ (x : List (Option Condition)). Leads (guard_at []) (map condition_item ug) (edges_at (edge_with x (padded 4 []) (padded 4 [])))) gs.places guard in
          let resets = leads_each reset_item resets_at 4 (reset_fits (scope p)) leads_reset ur rs.few rs.fit in
          let resets_on = subst (λ (x : List (Option Reset)). Leads (resets_at []) (map reset_item ur) (edges_at (edge_with e.guard x (padded 4 [])))) rs.places resets in
          let sets = leads_each assignment_item sets_at 4 (narrow_assignment (scope p)) leads_edge_set ua ts.few ts.fit in
          let sets_on = subst (λ (x : List (Option Assignment)). Leads (sets_at []) (map assignment_item ua) (edges_at (edge_with e.guard e.resets x))) ts.places sets in
          let last_two = leads_more (resets_at []) (sets_at []) (edges_at e) (map reset_item ur) (map assignment_item ua) resets_on sets_on in
          let AllThree = leads_more (guard_at []) (resets_at []) (edges_at e) (map condition_item ug) (map reset_item ur ++ map assignment_item ua) guard_on last_two in
          leads_more (with_edges before) (guard_at []) (edges_at e) ((Edge, (e.from, e.to, e.label)) ∷ []) (map condition_item ug ++ (map reset_item ur ++ map assignment_item ua)) head AllThree

    abbrev edge_both : EdgePart → Bool
    edge_both e = narrow_edge (scope p) e && ends_fit p.locations e

    pub leads_edges : Leads (with_edges []) (flat_map edge_items p.edges) (with_edges p.edges)
    leads_edges =
        leads_all edge_items with_edges (Fine 128 edge_both)
        (λ before e es h.
        let f = fine_one 128 edge_both before e es h in
        let b = and_parts (narrow_edge (scope p) e) (ends_fit p.locations e) f.1 in
        (leads_edge before e f.0 b.0 b.1, f.2))
        p.edges [] (omega (arith, s.sound.few_edges), each_both (narrow_edge (scope p)) (ends_fit p.locations) p.edges s.edges s.sound.ends)
