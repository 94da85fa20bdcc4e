-- What a sound plan says, and that each part that is added keeps it sound.
use Rattle.std.proofs.Common.{◌≡◌, ℕ, ◌+◌, ◌<◌, ◌≤◌, Bool, true, List, [], ◌∷◌, ◌++◌, length, sym, refl, ap, arith}
use Rattle.std.proofs.lemmas.List.{nil_from_length, length_push}
use Rattle.std.proofs.lemmas.Bool.{and_parts, and_from, leb-true, le-leb, ltb-true}
use Rattle.parts.specs.declared.part.Counts.{Counts}
use Rattle.parts.specs.declared.part.Variable.{Variable}
use Rattle.parts.specs.declared.part.Task.{Task}
use Rattle.parts.specs.declared.part.Location.{Location}
use Rattle.parts.specs.declared.part.Edge.{Edge}
use Rattle.parts.specs.Limits.{counts_fit, variable_fits, task_fits, location_fits, edge_fits}
use Rattle.sequence.specs.declared.lists.Lists.{Lists}
use Rattle.sequence.specs.Listed.{Empty, plan_at}
use Rattle.sequence.specs.Plan.{Plan, scope, each, ends_fit, reached, next_of, in_turn, sound}
use Rattle.sequence.specs.Building.{begun, with_variable, with_task, with_location, with_edge, next_automaton}

-- a sound plan, fact by fact
pub record Sound (p : Plan) : Type 0 where
  pub counts : counts_fit p.counts ≡ true
  pub few_variables : length p.variables ≤ 16
  pub variables : each variable_fits p.variables ≡ true
  pub few_tasks : length p.tasks ≤ 16
  pub tasks : each (task_fits (scope p)) p.tasks ≡ true
  pub few_locations : length p.locations ≤ 64
  pub locations : each (location_fits (scope p)) p.locations ≡ true
  pub turn : in_turn 0 p.locations ≡ true
  pub automata : reached 0 p.locations ≤ p.counts.automata
  pub few_edges : length p.edges ≤ 128
  pub edges : each (edge_fits (scope p)) p.edges ≡ true
  pub ends : each (ends_fit p.locations) p.edges ≡ true

pub sound_facts : (p : Plan) → sound p ≡ true → Sound p
sound_facts p h =
    let a = and_parts _ _ h in
    let b = and_parts _ _ a.1 in
    let c = and_parts _ _ b.1 in
    let d = and_parts _ _ c.1 in
    let e = and_parts _ _ d.1 in
    let f = and_parts _ _ e.1 in
    let g = and_parts _ _ f.1 in
    let i = and_parts _ _ g.1 in
    let j = and_parts _ _ i.1 in
    let k = and_parts _ _ j.1 in
    let l = and_parts _ _ k.1 in
    record {
      counts = a.0;
      few_variables = leb-true _ _ b.0;
      variables = c.0;
      few_tasks = leb-true _ _ d.0;
      tasks = e.0;
      few_locations = leb-true _ _ f.0;
      locations = g.0;
      turn = i.0;
      automata = leb-true _ _ j.0;
      few_edges = leb-true _ _ k.0;
      edges = l.0;
      ends = l.1;
    }

pub sound_from : (p : Plan) → Sound p → sound p ≡ true
sound_from p s =
    and_from _ _ s.counts (and_from _ _ (le-leb _ _ s.few_variables) (and_from _ _ s.variables
    (and_from _ _ (le-leb _ _ s.few_tasks) (and_from _ _ s.tasks
    (and_from _ _ (le-leb _ _ s.few_locations) (and_from _ _ s.locations
    (and_from _ _ s.turn (and_from _ _ (le-leb _ _ s.automata)
    (and_from _ _ (le-leb _ _ s.few_edges) (and_from _ _ s.edges s.ends))))))))))

module _ {X : Type 0} (fits : X → Bool) where
  pub each_push : (xs : List X) (x : X) → each fits xs ≡ true → fits x ≡ true → each fits (xs ++ x ∷ []) ≡ true
  each_push [] x h k = and_from _ _ k refl
  each_push (y ∷ ys) x h k = let p = and_parts _ _ h in and_from _ _ p.0 (each_push ys x p.1 k)

  pub each_none : (xs : List X) → length xs ≡ 0 → each fits xs ≡ true
  each_none xs h = ap (each fits) (nil_from_length xs h)

pub reached_push : (n : ℕ) (ls : List Location) (l : Location) → reached n (ls ++ l ∷ []) ≡ l.automaton + 1
reached_push n [] l = refl
reached_push n (k ∷ ks) l = reached_push (k.automaton + 1) ks l

pub turn_push : (n : ℕ) (ls : List Location) (l : Location) → in_turn n ls ≡ true → next_of (reached n ls) l.automaton ≡ true → in_turn n (ls ++ l ∷ []) ≡ true
turn_push n [] l h k = and_from _ _ k refl
turn_push n (m ∷ ms) l h k = let p = and_parts _ _ h in and_from _ _ p.0 (turn_push (m.automaton + 1) ms l p.1 k)

module _ (p : Plan) (s : Sound p) where
  pub variable_added : (v : Variable) → length p.tasks ≡ 0 → length p.locations ≡ 0 → length p.edges ≡ 0 → length p.variables < 16 → variable_fits v ≡ true → sound (with_variable p v) ≡ true
  variable_added v t l e few fits = sound_from (with_variable p v) (record {
    counts = s.counts;
    few_variables = omega (arith, length_push p.variables v);
    variables = each_push variable_fits p.variables v s.variables fits;
    few_tasks = s.few_tasks;
    tasks = each_none _ p.tasks t;
    few_locations = s.few_locations;
    locations = each_none _ p.locations l;
    turn = s.turn;
    automata = s.automata;
    few_edges = s.few_edges;
    edges = each_none _ p.edges e;
    ends = s.ends;
  })

  pub task_added : (t : Task) → length p.locations ≡ 0 → length p.edges ≡ 0 → length p.tasks < 16 → task_fits (scope p) t ≡ true → sound (with_task p t) ≡ true
  task_added t l e few fits = sound_from (with_task p t) (record {
    counts = s.counts;
    few_variables = s.few_variables;
    variables = s.variables;
    few_tasks = omega (arith, length_push p.tasks t);
    tasks = each_push (task_fits (scope p)) p.tasks t s.tasks fits;
    few_locations = s.few_locations;
    locations = each_none _ p.locations l;
    turn = s.turn;
    automata = s.automata;
    few_edges = s.few_edges;
    edges = each_none _ p.edges e;
    ends = s.ends;
  })

  pub location_added : (l : Location) → length p.edges ≡ 0 → length p.locations < 64 → location_fits (scope p) l ≡ true → next_automaton p l.automaton ≡ true → sound (with_location p l) ≡ true
  location_added l e few fits next = let n = and_parts _ _ next in sound_from (with_location p l) (record {
    counts = s.counts;
    few_variables = s.few_variables;
    variables = s.variables;
    few_tasks = s.few_tasks;
    tasks = s.tasks;
    few_locations = omega (arith, length_push p.locations l);
    locations = each_push (location_fits (scope p)) p.locations l s.locations fits;
    turn = turn_push 0 p.locations l s.turn n.0;
    automata = omega (arith, reached_push 0 p.locations l, ltb-true _ _ n.1);
    few_edges = s.few_edges;
    edges = s.edges;
    ends = each_none _ p.edges e;
  })

  pub edge_added : (e : Edge) → length p.edges < 128 → edge_fits (scope p) e ≡ true → ends_fit p.locations e ≡ true → sound (with_edge p e) ≡ true
  edge_added e few fits ends = sound_from (with_edge p e) (record {
    counts = s.counts;
    few_variables = s.few_variables;
    variables = s.variables;
    few_tasks = s.few_tasks;
    tasks = s.tasks;
    few_locations = s.few_locations;
    locations = s.locations;
    turn = s.turn;
    automata = s.automata;
    few_edges = omega (arith, length_push p.edges e);
    edges = each_push (edge_fits (scope p)) p.edges e s.edges fits;
    ends = each_push (ends_fit p.locations) p.edges e s.ends ends;
  })

-- with no location none is reached
pub reached_none : (ls : List Location) → length ls ≡ 0 → 0 ≡ reached 0 ls
reached_none ls h = sym (ap (reached 0) (nil_from_length ls h))

-- nothing but counts
pub begun_at : (k : Counts) (l : Lists) → Empty l → begun k ≡ plan_at k l
begun_at k l e = simp (e.variables, e.tasks, e.locations, e.edges)

pub begun_sound : (k : Counts) → counts_fit k ≡ true → sound (begun k) ≡ true
begun_sound k h = sound_from (begun k) (record {
  counts = h;
  few_variables = omega arith;
  variables = refl;
  few_tasks = omega arith;
  tasks = refl;
  few_locations = omega arith;
  locations = refl;
  turn = refl;
  automata = omega arith;
  few_edges = omega arith;
  edges = refl;
  ends = refl;
})
