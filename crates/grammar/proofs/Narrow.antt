-- A sequence in its widths, fact by fact, and what keeps it so.
use Rattle.std.proofs.Common.{◌≡◌, ℕ, Bool, true, ◌&&◌, eqb, leb, List, [], ◌∷◌, length, Some, None, Option, refl, ap, ◌∙◌}
use Rattle.std.proofs.lemmas.Bool.{and_parts, and_from, eqb-true}
use Rattle.parts.specs.declared.part.Scope.{Scope}
use Rattle.parts.specs.declared.part.Counts.{Counts}
use Rattle.parts.specs.declared.part.Variable.{Variable}
use Rattle.parts.specs.declared.part.Assignment.{Assignment}
use Rattle.parts.specs.declared.part.Reset.{Reset}
use Rattle.parts.specs.declared.part.Invariant.{Invariant}
use Rattle.parts.specs.declared.part.Condition.{Condition}
use Rattle.parts.specs.declared.part.Task.{Task}
use Rattle.parts.specs.declared.part.Location.{Location}
use Rattle.parts.specs.declared.part.Edge.{Edge}
use Rattle.parts.specs.Limits.{variable_fits, assignment_fits, condition_fits, task_fits, location_fits, edge_fits}
use Rattle.sequence.specs.Plan.{Plan, scope, each, sound}
use Rattle.sequence.specs.Building.{begun, with_variable, with_task, with_location, with_edge}
use Rattle.sequence.specs.Growing.{used, fill, assigning_task, limited, guarded, resetting, assigning_edge, with_last_task, with_last_location, with_last_edge}
use Rattle.sequence.proofs.Sound.{Sound, sound_facts, each_push}
use Rattle.sequence.proofs.Growing.{length_fill, each_change}
use Rattle.grammar.specs.Widths.{variable_in_widths, assignment_in_widths, condition_in_widths, has_places, group_in_widths, task_in_widths, location_in_widths, edge_in_widths, in_widths}

-- ---- widths, fact by fact

pub record InWidths (p : Plan) : Type 0 where
  pub variables : each variable_in_widths p.variables ≡ true
  pub tasks : each task_in_widths p.tasks ≡ true
  pub locations : each location_in_widths p.locations ≡ true
  pub edges : each edge_in_widths p.edges ≡ true

pub widths_facts : (p : Plan) → in_widths p ≡ true → InWidths p
widths_facts p h =
    let a = and_parts (each variable_in_widths p.variables) (each task_in_widths p.tasks && (each location_in_widths p.locations && each edge_in_widths p.edges)) h in
    let b = and_parts (each task_in_widths p.tasks) (each location_in_widths p.locations && each edge_in_widths p.edges) a.1 in
    let c = and_parts (each location_in_widths p.locations) (each edge_in_widths p.edges) b.1 in
    record { variables = a.0; tasks = b.0; locations = c.0; edges = c.1 }

pub widths_from : (p : Plan) → InWidths p → in_widths p ≡ true
widths_from p w = and_from _ _ w.variables (and_from _ _ w.tasks (and_from _ _ w.locations w.edges))

pub record EdgeWidths (e : Edge) : Type 0 where
  pub guard : group_in_widths 4 condition_in_widths e.guard ≡ true
  pub resets : has_places 4 e.resets ≡ true
  pub assignments : group_in_widths 4 assignment_in_widths e.assignments ≡ true

pub edge_widths : (e : Edge) → edge_in_widths e ≡ true → EdgeWidths e
edge_widths e h =
    let a = and_parts (group_in_widths 4 condition_in_widths e.guard) (has_places 4 e.resets && group_in_widths 4 assignment_in_widths e.assignments) h in
    let b = and_parts (has_places 4 e.resets) (group_in_widths 4 assignment_in_widths e.assignments) a.1 in
    record { guard = a.0; resets = b.0; assignments = b.1 }

pub edge_widths_from : (e : Edge) → EdgeWidths e → edge_in_widths e ≡ true
edge_widths_from e w = and_from _ _ w.guard (and_from _ _ w.resets w.assignments)

-- ---- parts that fit and are in their widths

abbrev pub narrow_variable : Variable → Bool
narrow_variable v = variable_fits v && variable_in_widths v

abbrev pub narrow_assignment : Scope → Assignment → Bool
narrow_assignment s a = assignment_fits s a && assignment_in_widths a

abbrev pub narrow_condition : Scope → Condition → Bool
narrow_condition s c = condition_fits s c && condition_in_widths c

abbrev pub narrow_task : Scope → Task → Bool
narrow_task s t = task_fits s t && task_in_widths t

abbrev pub narrow_location : Scope → Location → Bool
narrow_location s l = location_fits s l && location_in_widths l

abbrev pub narrow_edge : Scope → Edge → Bool
narrow_edge s e = edge_fits s e && edge_in_widths e

-- two tests over one list
pub each_both : {X : Type 0} (f g : X → Bool) (xs : List X) → each f xs ≡ true → each g xs ≡ true → each (λ x. f x && g x) xs ≡ true
each_both f g [] h k = refl
each_both f g (x ∷ xs) h k =
    let p = and_parts (f x) (each f xs) h in
    let q = and_parts (g x) (each g xs) k in
    and_from (f x && g x) (each (λ x. f x && g x) xs) (and_from (f x) (g x) p.0 q.0) (each_both f g xs p.1 q.1)

-- a sequence that is sound and in its widths
pub record Narrow (p : Plan) : Type 0 where
  pub sound : Sound p
  pub variables : each narrow_variable p.variables ≡ true
  pub tasks : each (narrow_task (scope p)) p.tasks ≡ true
  pub locations : each (narrow_location (scope p)) p.locations ≡ true
  pub edges : each (narrow_edge (scope p)) p.edges ≡ true

pub narrow_facts : (p : Plan) → sound p ≡ true → in_widths p ≡ true → Narrow p
narrow_facts p h k =
    let s = sound_facts p h in
    let w = widths_facts p k in
    record {
      sound = s;
      variables = each_both variable_fits variable_in_widths p.variables s.variables w.variables;
      tasks = each_both (task_fits (scope p)) task_in_widths p.tasks s.tasks w.tasks;
      locations = each_both (location_fits (scope p)) location_in_widths p.locations s.locations w.locations;
      edges = each_both (edge_fits (scope p)) edge_in_widths p.edges s.edges w.edges;
    }

-- ---- groups

module _ {X : Type 0} where
  pub group_places : (n : ℕ) (widths : X → Bool) (xs : List (Option X)) → group_in_widths n widths xs ≡ true → length xs ≡ n
  group_places n widths xs h = eqb-true (length xs) n (and_parts (eqb (length xs) n) (each widths (used xs)) h).0

  places_fill : (n : ℕ) (x : X) (xs : List (Option X)) → has_places n xs ≡ true → has_places n (fill x xs) ≡ true
  places_fill n x xs h = ap (λ (k : ℕ). eqb k n) (length_fill x xs) ∙ h

  each_fill : (widths : X → Bool) (x : X) (xs : List (Option X)) → each widths (used xs) ≡ true → widths x ≡ true → each widths (used (fill x xs)) ≡ true
  each_fill widths x [] h k = refl
  each_fill widths x (None ∷ xs) h k = and_from (widths x) (each widths (used xs)) k h
  each_fill widths x (Some y ∷ xs) h k =
      let p = and_parts (widths y) (each widths (used xs)) h in
      and_from (widths y) (each widths (used (fill x xs))) p.0 (each_fill widths x xs p.1 k)

  group_fill : (n : ℕ) (widths : X → Bool) (x : X) (xs : List (Option X)) → group_in_widths n widths xs ≡ true → widths x ≡ true → group_in_widths n widths (fill x xs) ≡ true
  group_fill n widths x xs h k =
      let p = and_parts (has_places n xs) (each widths (used xs)) h in
      and_from (has_places n (fill x xs)) (each widths (used (fill x xs))) (places_fill n x xs p.0) (each_fill widths x xs p.1 k)

-- ---- what keeps the widths

pub begun_widths : (c : Counts) → InWidths (begun c)
begun_widths c = record { variables = refl; tasks = refl; locations = refl; edges = refl }

module _ (p : Plan) (w : InWidths p) where
  pub variable_widths : (v : Variable) → variable_in_widths v ≡ true → in_widths (with_variable p v) ≡ true
  variable_widths v h = widths_from (with_variable p v) (record { variables = each_push variable_in_widths p.variables v w.variables h; tasks = w.tasks; locations = w.locations; edges = w.edges })

  pub task_widths : (t : Task) → task_in_widths t ≡ true → in_widths (with_task p t) ≡ true
  task_widths t h = widths_from (with_task p t) (record { variables = w.variables; tasks = each_push task_in_widths p.tasks t w.tasks h; locations = w.locations; edges = w.edges })

  pub location_widths : (l : Location) → location_in_widths l ≡ true → in_widths (with_location p l) ≡ true
  location_widths l h = widths_from (with_location p l) (record { variables = w.variables; tasks = w.tasks; locations = each_push location_in_widths p.locations l w.locations h; edges = w.edges })

  pub new_edge_widths : (e : Edge) → edge_in_widths e ≡ true → in_widths (with_edge p e) ≡ true
  new_edge_widths e h = widths_from (with_edge p e) (record { variables = w.variables; tasks = w.tasks; locations = w.locations; edges = each_push edge_in_widths p.edges e w.edges h })

  pub task_assigns_widths : (a : Assignment) → assignment_in_widths a ≡ true → in_widths (with_last_task (assigning_task a) p) ≡ true
  task_assigns_widths a h = widths_from (with_last_task (assigning_task a) p) (record {
    variables = w.variables;
    tasks = each_change task_in_widths (assigning_task a) (λ t k.
        let q = and_parts (leb t.priority 255) (group_in_widths 4 assignment_in_widths t.assignments) k in
        and_from (leb t.priority 255) (group_in_widths 4 assignment_in_widths (fill a t.assignments)) q.0 (group_fill 4 assignment_in_widths a t.assignments q.1 h)) p.tasks w.tasks;
    locations = w.locations;
    edges = w.edges;
  })

  pub location_limited_widths : (i : Invariant) → in_widths (with_last_location (limited i) p) ≡ true
  location_limited_widths i = widths_from (with_last_location (limited i) p) (record {
    variables = w.variables;
    tasks = w.tasks;
    locations = each_change location_in_widths (limited i) (λ l k. places_fill 2 i l.invariants k) p.locations w.locations;
    edges = w.edges;
  })

  edge_changed_widths : (f : Edge → Edge) → ((e : Edge) → EdgeWidths e → EdgeWidths (f e)) → in_widths (with_last_edge f p) ≡ true
  edge_changed_widths f keeps = widths_from (with_last_edge f p) (record {
    variables = w.variables;
    tasks = w.tasks;
    locations = w.locations;
    edges = each_change edge_in_widths f (λ e k. edge_widths_from (f e) (keeps e (edge_widths e k))) p.edges w.edges;
  })

  pub edge_guarded_widths : (c : Condition) → condition_in_widths c ≡ true → in_widths (with_last_edge (guarded c) p) ≡ true
  edge_guarded_widths c h = edge_changed_widths (guarded c) (λ e k. record { guard = group_fill 4 condition_in_widths c e.guard k.guard h; resets = k.resets; assignments = k.assignments })

  pub edge_resets_widths : (r : Reset) → in_widths (with_last_edge (resetting r) p) ≡ true
  edge_resets_widths r = edge_changed_widths (resetting r) (λ e k. record { guard = k.guard; resets = places_fill 4 r e.resets k.resets; assignments = k.assignments })

  pub edge_assigns_widths : (a : Assignment) → assignment_in_widths a ≡ true → in_widths (with_last_edge (assigning_edge a) p) ≡ true
  edge_assigns_widths a h = edge_changed_widths (assigning_edge a) (λ e k. record { guard = k.guard; resets = k.resets; assignments = group_fill 4 assignment_in_widths a e.assignments k.assignments h })
