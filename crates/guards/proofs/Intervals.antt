-- A guard holds on an interval of ticks.
use Rattle.std.proofs.Common.{ℕ, ◌-◌, List, [], ◌∷◌, get_or, ℤ, pos, Some, None, Option, sym, refl, ◌∙◌, arith}
use Rattle.std.proofs.lemmas.Bool.{and_parts, and_from}
use Rattle.std.proofs.lemmas.Bool.Decides.{nat_tests}
use Rattle.parts.specs.declared.part.Relation.{Relation}
use Rattle.parts.specs.declared.part.Relation.TheVariants.{Lt, Le, Eq, Ge, Gt}
use Rattle.parts.specs.declared.part.Condition.{Condition}
use Rattle.parts.specs.declared.part.Condition.TheVariants.{Clock, Difference, Variable}
use Rattle.runs.specs.Guards.{compares, holds, guard_holds}
use Rattle.guards.specs.Spans.{ZeroedBy, Interval, GuardIsAnInterval}
use Rattle.guards.proofs.Spans.{difference_stays}

clock_interval : (r : Relation) (z k : ℕ) → Interval 0 (λ t. compares r (pos (t - z)) (pos k))
clock_interval Lt z k a b c s l m x y = grind (arith, nat_tests)
clock_interval Le z k a b c s l m x y = grind (arith, nat_tests)
clock_interval Eq z k a b c s l m x y = grind (arith, nat_tests)
clock_interval Ge z k a b c s l m x y = grind (arith, nat_tests)
clock_interval Gt z k a b c s l m x y = grind (arith, nat_tests)

module _ (zeroed : List ℕ) (values : List ℤ) (from : ℕ) (z : ZeroedBy zeroed from) where
  condition_interval : (d : Condition) → Interval from (λ t. holds zeroed values t d)
  condition_interval (Clock i r k) a b c s l m x y = clock_interval r (get_or zeroed i 0) k a b c (omega arith) l m x y
  condition_interval (Difference i j r k) a b c s l m x y = sym (difference_stays zeroed values a b (λ n. omega (arith, z n)) l i j r k) ∙ x
  condition_interval (Variable v r k) a b c s l m x y = x

  pub guard_interval : (guard : List (Option Condition)) → Interval from (λ t. guard_holds zeroed values t guard)
  guard_interval [] a b c s l m x y = refl
  guard_interval (None ∷ ds) a b c s l m x y = guard_interval ds a b c s l m x y
  guard_interval (Some d ∷ ds) a b c s l m x y =
      let p = and_parts (holds zeroed values a d) (guard_holds zeroed values a ds) x in
      let q = and_parts (holds zeroed values c d) (guard_holds zeroed values c ds) y in
      and_from _ _ (condition_interval d a b c s l m p.0 q.0) (guard_interval ds a b c s l m p.1 q.1)

pub guard_is_an_interval : GuardIsAnInterval
guard_is_an_interval zeroed values guard from z = guard_interval zeroed values from z guard
