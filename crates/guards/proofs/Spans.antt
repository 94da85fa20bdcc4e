-- Spans of ticks.
use Rattle.std.proofs.Common.{◌≡◌, ℕ, ◌-◌, ◌≤◌, min, max, ◌&&◌, ◌⊎◌, List, [], ◌∷◌, ◌++◌, get_or, ℤ, pos, ◌-ℤ◌, Option, Some, None, sym, refl, ap, ◌∙◌, inl, inr, arith}
use Rattle.std.specs.List.{list_all}
use Rattle.parts.specs.Limits.{last_tick}
use Rattle.std.proofs.lemmas.Int.{ints}
use Rattle.std.proofs.lemmas.Bool.Decides.{nat_tests}
use Rattle.parts.specs.declared.part.Relation.{Relation}
use Rattle.parts.specs.declared.part.Condition.{Condition}
use Rattle.parts.specs.declared.part.Condition.TheVariants.{Difference, Variable}
use Rattle.runs.specs.Guards.{compares, holds, if_used, guard_holds}
use Rattle.guards.specs.declared.span.Span.{Span}
use Rattle.guards.specs.Spans.{ZeroedBy, in_span, ConditionSpans, MeetsPlace, GuardSpans}
use Rattle.guards.proofs.Groups.{and_true, all_pass, all_push}

same_difference : (t u x y : ℕ) → x ≤ t → y ≤ t → t ≤ u → (pos (t - x) -ℤ pos (t - y)) ≡ (pos (u - x) -ℤ pos (u - y))
same_difference t u x y h l m = omega (arith, ints)

module _ (zeroed : List ℕ) (values : List ℤ) (t u : ℕ) (z : ZeroedBy zeroed t) (h : t ≤ u) where
  -- both clocks go on together
  pub difference_stays : (first second : ℕ) (r : Relation) (k : ℤ) → holds zeroed values t (Difference first second r k) ≡ holds zeroed values u (Difference first second r k)
  difference_stays first second r k = ap (λ d. compares r d k) (same_difference t u (get_or zeroed first 0) (get_or zeroed second 0) (z first) (z second) h)

  pub stays : (c : Condition) → ((first : ℕ) × (second : ℕ) × (r : Relation) × (k : ℤ) × (c ≡ Difference first second r k)) ⊎ ((v : ℕ) × (r : Relation) × (k : ℤ) × (c ≡ Variable v r k)) → holds zeroed values t c ≡ holds zeroed values u c
  stays c (inl d) = ap (holds zeroed values t) d.4 ∙ (difference_stays d.0 d.1 d.2 d.3 ∙ sym (ap (holds zeroed values u) d.4))
  stays c (inr v) = ap (holds zeroed values t) v.3 ∙ sym (ap (holds zeroed values u) v.3)

-- the ticks of a meet are those that both spans have
pub meet_is : (p q r : Span) (t : ℕ) → r.low ≡ max p.low q.low → r.high ≡ min p.high q.high → in_span r t ≡ (in_span p t && in_span q t)
meet_is p q r t l h = grind (arith, nat_tests)

-- within what the spans so far have in common the conditions so far hold
module _ (zeroed : List ℕ) (values : List ℤ) where
  abbrev pub CommonSpan : List (Option Condition) → Span → Type 0
  CommonSpan ds s = (from : ℕ) → ZeroedBy zeroed from → (t : ℕ) → from ≤ t → t ≤ last_tick → list_all (λ d. if_used d (holds zeroed values t)) ds ≡ in_span s t

  pub common_more : (ds : List (Option Condition)) (so_far met : Span) (d : Option Condition) → CommonSpan ds so_far → MeetsPlace zeroed values so_far d met → CommonSpan (ds ++ (d ∷ [])) met
  common_more ds so_far met d p q from z t l h =
      all_push (λ c. if_used c (holds zeroed values t)) ds d ∙ (ap (λ b. b && if_used d (holds zeroed values t)) (p from z t l h) ∙ q from z t l h)

  pub common_is : (guard : List (Option Condition)) (s : Span) → CommonSpan guard s → GuardSpans zeroed values guard s
  common_is guard s p from z t l h = all_pass (guard_holds zeroed values t) (holds zeroed values t) refl (λ x xs. refl) guard ∙ p from z t l h

  pub common_none : CommonSpan [] (record { low = 0; high = last_tick })
  common_none from z t l h = grind (arith, nat_tests)

  -- a place without a condition, and one with
  pub meets_none : (s : Span) → MeetsPlace zeroed values s None s
  meets_none s from z t l h = and_true (in_span s t)

  pub meets_some : (so_far s met : Span) (d : Condition) → ConditionSpans zeroed values d s → met.low ≡ max so_far.low s.low → met.high ≡ min so_far.high s.high → MeetsPlace zeroed values so_far (Some d) met
  meets_some so_far s met d q low high from z t l h = ap (λ b. in_span so_far t && b) (q from z t l h) ∙ sym (meet_is so_far s met t low high)
