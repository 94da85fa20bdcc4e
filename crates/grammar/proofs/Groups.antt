-- A group of n places as the parts in its first places, the groups of what fits and is in its widths, and lists that end in a part.
use Rattle.std.proofs.Common.{◌≡◌, ℕ, zero, suc, ◌<◌, ◌≤◌, Bool, true, false, ◌&&◌, ltb, leb, List, [], ◌∷◌, ◌++◌, length, Some, None, Option, refl, ap, ◌∙◌, subst, arith}
use Rattle.std.proofs.lemmas.List.{length_push}
use Rattle.std.proofs.lemmas.Bool.{and_parts, and_from, eqb-true, ne_eqb, lt-ltb}
use Rattle.parts.specs.declared.part.Scope.{Scope}
use Rattle.parts.specs.declared.part.Task.{Task}
use Rattle.parts.specs.declared.part.Location.{Location}
use Rattle.parts.specs.declared.part.Edge.{Edge}
use Rattle.parts.specs.Limits.{none_left, group_fits, assignment_fits, reset_fits, invariant_fits, condition_fits, task_fits, location_fits, edge_fits}
use Rattle.sequence.specs.Plan.{each}
use Rattle.sequence.specs.Building.{none}
use Rattle.sequence.specs.Growing.{used, fill, change_last, has_room}
use Rattle.sequence.proofs.Growing.{used_none, task_facts, location_facts, edge_facts}
use Rattle.grammar.specs.Widths.{assignment_in_widths, condition_in_widths, has_places, group_in_widths, task_in_widths, location_in_widths, edge_in_widths}
use Rattle.grammar.proofs.Narrow.{edge_widths, narrow_assignment, narrow_condition, narrow_task, narrow_location, narrow_edge, each_both}

module _ {X : Type 0} where
  -- n places, the first of them with these parts
  abbrev pub padded : ℕ → List X → List (Option X)
  padded zero xs = []
  padded (suc n) [] = None ∷ padded n []
  padded (suc n) (x ∷ xs) = Some x ∷ padded n xs

  used_padded : (n : ℕ) (xs : List X) → length xs ≤ n → used (padded n xs) ≡ xs
  used_padded zero [] h = refl
  used_padded zero (x ∷ xs) h = absurd (omega arith)
  used_padded (suc n) [] h = used_padded n [] (omega arith)
  used_padded (suc n) (x ∷ xs) h = ap (λ (l : List X). x ∷ l) (used_padded n xs (omega arith))

  pub fill_padded : (n : ℕ) (xs : List X) (x : X) → length xs < n → fill x (padded n xs) ≡ padded n (xs ++ x ∷ [])
  fill_padded zero xs x h = absurd (omega arith)
  fill_padded (suc n) [] x h = refl
  fill_padded (suc n) (y ∷ xs) x h = ap (λ (l : List (Option X)). Some y ∷ l) (fill_padded n xs x (omega arith))

  pub room_padded : (n : ℕ) (xs : List X) → length xs < n → has_room n (padded n xs) ≡ true
  room_padded n xs h = ap (λ (l : List X). ltb (length l) n) (used_padded n xs (omega arith)) ∙ lt-ltb (length xs) n h

  left_padded : (xs : List (Option X)) → none_left xs ≡ true → padded (length xs) [] ≡ xs
  left_padded [] h = refl
  left_padded (None ∷ xs) h = ap (λ (l : List (Option X)). None ∷ l) (left_padded xs h)
  left_padded (Some x ∷ xs) h = absurd (let z : ◌≡◌ {A = ℕ} 0 1 = cc in omega arith)

  -- the parts of a group that fits
  pub record Group (n : ℕ) (fits : X → Bool) (g : List (Option X)) : Type 0 where
    pub places : padded n (used g) ≡ g
    pub few : length (used g) ≤ n
    pub fit : each fits (used g) ≡ true

  group_parts : (fits : X → Bool) (g : List (Option X)) → group_fits fits g ≡ true → Group (length g) fits g
  group_parts fits [] h = record { places = refl; few = omega arith; fit = refl }
  group_parts fits (None ∷ xs) h =
      let e = used_none xs h in
      record {
        places = ap (padded (suc (length xs))) e ∙ ap (λ (l : List (Option X)). None ∷ l) (left_padded xs h);
        few = omega (arith, ap length e);
        fit = ap (each fits) e;
      }
  group_parts fits (Some x ∷ xs) h =
      let p = and_parts (fits x) (group_fits fits xs) h in
      let r = group_parts fits xs p.1 in
      record {
        places = ap (λ (l : List (Option X)). Some x ∷ l) r.places;
        few = omega (arith, r.few);
        fit = and_from (fits x) (each fits (used xs)) p.0 r.fit;
      }

  group_facts : (n : ℕ) (fits : X → Bool) (g : List (Option X)) → group_fits fits g ≡ true → has_places n g ≡ true → Group n fits g
  group_facts n fits g h w = subst (λ (k : ℕ). Group k fits g) (eqb-true (length g) n w) (group_parts fits g h)

  -- and of one whose parts are in their widths too
  narrow_group : (n : ℕ) (fits widths : X → Bool) (g : List (Option X)) → group_fits fits g ≡ true → group_in_widths n widths g ≡ true → Group n (λ x. fits x && widths x) g
  narrow_group n fits widths g h w =
      let p = and_parts (has_places n g) (each widths (used g)) w in
      let r = group_facts n fits g h p.0 in
      record { places = r.places; few = r.few; fit = each_both fits widths (used g) r.fit p.1 }

-- ---- the groups of what fits and is in its widths

module _ (s : Scope) where
  pub task_group : (t : Task) → narrow_task s t ≡ true → Group 4 (narrow_assignment s) t.assignments
  task_group t h =
      let x = and_parts (task_fits s t) (task_in_widths t) h in
      let w = and_parts (leb t.priority 255) (group_in_widths 4 assignment_in_widths t.assignments) x.1 in
      narrow_group 4 (assignment_fits s) assignment_in_widths t.assignments (task_facts s t x.0).assignments w.1

  pub location_group : (l : Location) → narrow_location s l ≡ true → Group 2 (invariant_fits s) l.invariants
  location_group l h =
      let x = and_parts (location_fits s l) (location_in_widths l) h in
      group_facts 2 (invariant_fits s) l.invariants (location_facts s l x.0).1 x.1

  pub edge_groups : (e : Edge) → narrow_edge s e ≡ true → Group 4 (narrow_condition s) e.guard × Group 4 (reset_fits s) e.resets × Group 4 (narrow_assignment s) e.assignments
  edge_groups e h =
      let x = and_parts (edge_fits s e) (edge_in_widths e) h in
      let f = edge_facts s e x.0 in
      let w = edge_widths e x.1 in (
        narrow_group 4 (condition_fits s) condition_in_widths e.guard f.guard w.guard,
        group_facts 4 (reset_fits s) e.resets f.resets w.resets,
        narrow_group 4 (assignment_fits s) assignment_in_widths e.assignments f.assignments w.assignments,
      )

-- ---- the last of a list

module _ {X : Type 0} where
  pub change_push : (f : X → X) (xs : List X) (x : X) → change_last f (xs ++ x ∷ []) ≡ xs ++ f x ∷ []
  change_push f [] x = refl
  change_push f (y ∷ []) x = refl
  change_push f (y ∷ z ∷ xs) x = ap (λ (l : List X). y ∷ l) (change_push f (z ∷ xs) x)

  pub none_push : (xs : List X) (x : X) → none (xs ++ x ∷ []) ≡ false
  none_push xs x = ne_eqb (length (xs ++ x ∷ [])) 0 (λ e. omega (arith, length_push xs x))
