-- What was tried place by place holds of a group.
use Rattle.std.proofs.Common.{◌≡◌, ℕ, Bool, true, List, [], ◌∷◌, length, Some, None, Option, refl}
use Rattle.std.proofs.lemmas.Bool.{and_parts, and_from, eq-eqb}
use Rattle.sequence.specs.Plan.{each}
use Rattle.sequence.specs.Growing.{used}
use Rattle.lexical.specs.Fields.{good_or_none}
use Rattle.grammar.specs.Widths.{has_places, group_in_widths}

module _ {X : Type 0} (widths : X → Bool) where
  each_used : (xs : List (Option X)) → each (good_or_none widths) xs ≡ true → each widths (used xs) ≡ true
  each_used [] h = refl
  each_used (None ∷ xs) h = each_used xs h
  each_used (Some x ∷ xs) h =
      let p = and_parts (widths x) (each (good_or_none widths) xs) h in
      and_from (widths x) (each widths (used xs)) p.0 (each_used xs p.1)

  pub kept_group : (n : ℕ) (xs : List (Option X)) → length xs ≡ n → each (good_or_none widths) xs ≡ true → group_in_widths n widths xs ≡ true
  kept_group n xs l h = and_from (has_places n xs) (each widths (used xs)) (eq-eqb (length xs) n l) (each_used xs h)
