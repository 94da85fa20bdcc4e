-- One assignment, and a group of assignments or resets, one after the other.
use Rattle.std.proofs.Common.{◌≡◌, ℕ, ◌+◌, ◌<◌, ◌≤◌, Bool, true, false, cond, ◌&&◌, List, length, get_or, drop, set, ℤ, Some, None, Option, sym, ap, ◌∙◌, arith}
use Rattle.std.proofs.lemmas.List.{at_drop_more, at_drop_all}
use Rattle.std.proofs.lemmas.Bool.{lt-ltb}
use Rattle.parts.specs.declared.part.Assignment.{Assignment}
use Rattle.parts.specs.declared.part.Reset.{Reset}
use Rattle.parts.specs.declared.part.Variable.{Variable}
use Rattle.runs.specs.Values.{no_variable, in_range, assigned_value, assign, and_then, assign_all}
use Rattle.runs.specs.Edges.{reset_one, reset_all}

written : (values : List ℤ) (v : ℕ) (t : Bool) (x y : ℤ) → Some y ≡ cond t (Some x) None → cond t (Some (set values v x)) None ≡ Some (set values v y)
written values v true x y e = let q : x ≡ y = cc in ap (λ (z : ℤ). Some (set values v z)) q
written values v false x y e = let z : ◌≡◌ {A = ℕ} 0 1 = cc in absurd (omega arith)

-- a value in range is written at the target
pub assigned : (vars : List Variable) (values : List ℤ) (o : Option Assignment) (a : Assignment) (y z : ℤ) → o ≡ Some a → a.target < length values → Some y ≡ cond (in_range (get_or vars a.target no_variable) (assigned_value values a)) (Some (assigned_value values a)) None → z ≡ y → assign vars o values ≡ Some (set values a.target z)
assigned vars values o a y z is l e q =
    let ok = in_range (get_or vars a.target no_variable) (assigned_value values a) in
    ap (λ (p : Option Assignment). assign vars p values) is
    ∙ (ap (λ (t : Bool). cond (t && ok) (Some (set values a.target (assigned_value values a))) None) (lt-ltb a.target (length values) l)
    ∙ (written values a.target ok (assigned_value values a) y e ∙ ap (λ (x : ℤ). Some (set values a.target x)) (sym q)))

module _ (vars : List Variable) (as' : List (Option Assignment)) (values : List ℤ) (end : Option (List ℤ)) where
  -- what is left of the group at i gives the end
  abbrev Gives : ℕ → List ℤ → Type 0
  Gives i row = assign_all vars (drop i as') row ≡ end

  split : (i : ℕ) (a : Option Assignment) → i < length as' → Gives i values → and_then (assign vars (get_or as' i a) values) (assign_all vars (drop (i + 1) as')) ≡ end
  split i a l e = sym (at_drop_more (λ (rest : List (Option Assignment)). assign_all vars rest values) as' i a l) ∙ e

  pub group_step : (row : List ℤ) (i : ℕ) (a : Option Assignment) → i < length as' → assign vars (get_or as' i a) values ≡ Some row → Gives i values → Gives (i + 1) row
  group_step row i a l f e = sym (ap (λ (o : Option (List ℤ)). and_then o (assign_all vars (drop (i + 1) as'))) f) ∙ split i a l e

  pub group_fails : (i : ℕ) (a : Option Assignment) → i < length as' → assign vars (get_or as' i a) values ≡ None → Gives i values → end ≡ None
  group_fails i a l f e = sym (split i a l e) ∙ ap (λ (o : Option (List ℤ)). and_then o (assign_all vars (drop (i + 1) as'))) f

  pub group_all : (i : ℕ) → length as' ≤ i → Gives i values → end ≡ Some values
  group_all i l e = sym e ∙ at_drop_all (λ (rest : List (Option Assignment)). assign_all vars rest values) as' i l

module _ (tick : ℕ) (rs : List (Option Reset)) (zeroed end : List ℕ) where
  pub resets_step : (row : List ℕ) (i : ℕ) (r : Option Reset) → i < length rs → row ≡ reset_one tick (get_or rs i r) zeroed → reset_all tick (drop i rs) zeroed ≡ end → reset_all tick (drop (i + 1) rs) row ≡ end
  resets_step row i r l f e =
      ap (reset_all tick (drop (i + 1) rs)) f ∙ (sym (at_drop_more (λ (rest : List (Option Reset)). reset_all tick rest zeroed) rs i r l) ∙ e)

  pub resets_all : (i : ℕ) → length rs ≤ i → reset_all tick (drop i rs) zeroed ≡ end → zeroed ≡ end
  resets_all i l e = sym (at_drop_all (λ (rest : List (Option Reset)). reset_all tick rest zeroed) rs i l) ∙ e
