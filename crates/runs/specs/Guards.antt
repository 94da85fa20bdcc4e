-- When conditions, guards and invariants hold.
use Rattle.std.specs.Prelude.{ℕ, ◌-◌, Bool, true, cond, ◌&&◌, List, [], ◌∷◌, ℤ, pos, ◌-ℤ◌, Some, None, Option, int_le, int_lt, nat_le, nat_lt, slice_index, slice_index_or}
use Rattle.parts.specs.declared.part.Relation.{Relation}
use Rattle.parts.specs.declared.part.Relation.TheVariants.{Lt, Le, Eq, Ge, Gt}
use Rattle.parts.specs.declared.part.Condition.{Condition}
use Rattle.parts.specs.declared.part.Condition.TheVariants.{Clock, Difference, Variable}
use Rattle.parts.specs.declared.part.Invariant.{Invariant}
use Rattle.parts.specs.declared.part.Location.{Location}

abbrev pub compares : Relation → ℤ → ℤ → Bool
compares Lt x y = int_lt x y
compares Le x y = int_le x y
compares Eq x y = int_le x y && int_le y x
compares Ge x y = int_le y x
compares Gt x y = int_lt y x

-- a clock's value at a tick: the tick less that of its last zeroing
abbrev pub clock : List ℕ → ℕ → ℕ → ℕ
clock zeroed tick c = tick - slice_index zeroed c

abbrev pub holds : List ℕ → List ℤ → ℕ → Condition → Bool
holds zeroed values tick (Clock c r k) = compares r (pos (clock zeroed tick c)) (pos k)
holds zeroed values tick (Difference c d r k) = compares r (pos (clock zeroed tick c) -ℤ pos (clock zeroed tick d)) k
holds zeroed values tick (Variable v r k) = compares r (slice_index_or values v (pos 0)) k

-- a place of a group that is not in use asks nothing
abbrev pub if_used : {X : Type 0} → Option X → (X → Bool) → Bool
if_used None f = true
if_used (Some x) f = f x

-- all conditions of a guard hold at a tick
abbrev pub guard_holds : List ℕ → List ℤ → ℕ → List (Option Condition) → Bool
guard_holds zeroed values tick [] = true
guard_holds zeroed values tick (c ∷ cs) = if_used c (holds zeroed values tick) && guard_holds zeroed values tick cs

abbrev pub keeps : List ℕ → ℕ → Invariant → Bool
keeps zeroed tick i = cond i.strict (nat_lt (clock zeroed tick i.clock) i.bound) (nat_le (clock zeroed tick i.clock) i.bound)

abbrev pub all_keep : List ℕ → ℕ → List (Option Invariant) → Bool
all_keep zeroed tick [] = true
all_keep zeroed tick (i ∷ is) = if_used i (keeps zeroed tick) && all_keep zeroed tick is

-- a location's invariants hold at a tick
abbrev pub may_stay_in : List ℕ → ℕ → Option Location → Bool
may_stay_in zeroed tick None = true
may_stay_in zeroed tick (Some l) = all_keep zeroed tick l.invariants
