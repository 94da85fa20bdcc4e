-- The assignments of a step's edges are those of one side, or of two.
use Rattle.std.proofs.Common.{◌≡◌, true, false, List, [], ◌∷◌, ℤ, is_some, Some, None, Option, refl, ap, ◌∙◌}
use Rattle.std.proofs.lemmas.Bool.{both_ways, cond-true, cond-false}
use Rattle.parts.specs.declared.part.Edge.{Edge}
use Rattle.parts.specs.declared.part.Variable.{Variable}
use Rattle.runs.specs.Values.{and_then, assign_all, assign_edges}
use Rattle.runs.specs.Edges.{receives, sides}
use Rattle.rows.specs.Rows.{assign_both}

-- the values after a step that only lacks room
pub values_after : (o : Option (List ℤ)) → is_some o ≡ true → (values : List ℤ) × (o ≡ Some values)
values_after None e = absurd (both_ways false refl e)
values_after (Some values) e = (values, refl)

pub sides_sent : (d c : Edge) → receives d.label ≡ false → sides d (Some c) ≡ d ∷ c ∷ []
sides_sent d c e = cond-false _ _ _ e

pub sides_received : (d c : Edge) → receives d.label ≡ true → sides d (Some c) ≡ c ∷ d ∷ []
sides_received d c e = cond-true _ _ _ e

-- what follows one group matters only by what it makes of each row
then_same : (o : Option (List ℤ)) (f g : List ℤ → Option (List ℤ)) → ((row : List ℤ) → f row ≡ g row) → and_then o f ≡ and_then o g
then_same None f g e = refl
then_same (Some row) f g e = e row

then_nothing : (o : Option (List ℤ)) → and_then o Some ≡ o
then_nothing None = refl
then_nothing (Some row) = refl

module _ (vars : List Variable) where
  pub one_side : (d : Edge) (values : List ℤ) → assign_edges vars (sides d None) values ≡ assign_both vars d.assignments [] values
  one_side d values = then_same (assign_all vars d.assignments values) (assign_edges vars []) (assign_all vars []) (λ row. refl)

  pub two_sides : (d c : Edge) (values : List ℤ) → assign_edges vars (d ∷ c ∷ []) values ≡ assign_both vars d.assignments c.assignments values
  two_sides d c values =
      then_same (assign_all vars d.assignments values) (assign_edges vars (c ∷ [])) (assign_all vars c.assignments)
      (λ row. then_same (assign_all vars c.assignments row) (assign_edges vars []) Some (λ last. refl) ∙ then_nothing (assign_all vars c.assignments row))

  -- an edge that sends goes before its partner, and one that receives behind it
  pub sender_first : (d c : Edge) (values : List ℤ) → receives d.label ≡ false → assign_edges vars (sides d (Some c)) values ≡ assign_both vars d.assignments c.assignments values
  sender_first d c values e = ap (λ (ds : List Edge). assign_edges vars ds values) (sides_sent d c e) ∙ two_sides d c values

  pub receiver_last : (d c : Edge) (values : List ℤ) → receives d.label ≡ true → assign_edges vars (sides d (Some c)) values ≡ assign_both vars c.assignments d.assignments values
  receiver_last d c values e = ap (λ (ds : List Edge). assign_edges vars ds values) (sides_received d c e) ∙ two_sides c d values
