-- The limits of each part of a sequence.
use Rattle.std.specs.Prelude.{ℕ, Bool, true, false, ◌&&◌, List, [], ◌∷◌, pos, negsuc, Some, None, Option, int_le, nat_le, nat_lt}
use Rattle.parts.specs.declared.part.Assignment.{Assignment}
use Rattle.parts.specs.declared.part.Reset.{Reset}
use Rattle.parts.specs.declared.part.Invariant.{Invariant}
use Rattle.parts.specs.declared.part.Variable.{Variable}
use Rattle.parts.specs.declared.part.Task.{Task}
use Rattle.parts.specs.declared.part.Location.{Location}
use Rattle.parts.specs.declared.part.Edge.{Edge}
use Rattle.parts.specs.declared.part.Counts.{Counts}
use Rattle.parts.specs.declared.part.Scope.{Scope}
use Rattle.parts.specs.declared.part.Condition.{Condition}
use Rattle.parts.specs.declared.part.Condition.TheVariants.{Clock, Difference, Variable as Value}
use Rattle.parts.specs.declared.part.Label.{Label}
use Rattle.parts.specs.declared.part.Label.TheVariants.{Internal, Trigger, Send, Receive}

-- the last tick, and the largest constant for clocks and their differences
abbrev pub last_tick : ℕ
last_tick = 1000000000

-- the longest deadline
abbrev pub longest : ℕ
longest = 1000000

-- nothing in use any more
abbrev pub none_left : {X : Type 0} → List (Option X) → Bool
none_left [] = true
none_left (None ∷ xs) = none_left xs
none_left (Some x ∷ xs) = false

-- a group whose first places are in use, each with a part that fits
abbrev pub group_fits : {X : Type 0} → (X → Bool) → List (Option X) → Bool
group_fits fits [] = true
group_fits fits (None ∷ xs) = none_left xs
group_fits fits (Some x ∷ xs) = fits x && group_fits fits xs

-- none, or a number that is there
abbrev pub present_or_none : Option ℕ → ℕ → Bool
present_or_none None n = true
present_or_none (Some i) n = nat_lt i n

abbrev pub counts_fit : Counts → Bool
counts_fit c = nat_le 1 c.automata && (nat_le c.automata 8 && (nat_le c.clocks 16 && (nat_le c.triggers 16 && nat_le c.channels 8)))

abbrev pub variable_fits : Variable → Bool
variable_fits v = int_le v.low v.start && int_le v.start v.high

abbrev pub assignment_fits : Scope → Assignment → Bool
assignment_fits s a = nat_lt a.target s.variables && present_or_none a.source s.variables

abbrev pub reset_fits : Scope → Reset → Bool
reset_fits s r = nat_lt r.clock s.counts.clocks

abbrev pub invariant_fits : Scope → Invariant → Bool
invariant_fits s i = nat_lt i.clock s.counts.clocks && nat_le i.bound last_tick

abbrev pub condition_fits : Scope → Condition → Bool
condition_fits s (Clock c r k) = nat_lt c s.counts.clocks && nat_le k last_tick
condition_fits s (Difference c d r k) = nat_lt c s.counts.clocks && (nat_lt d s.counts.clocks && (int_le (negsuc 999999999) k && int_le k (pos last_tick)))
condition_fits s (Value v r k) = nat_lt v s.variables

abbrev pub label_fits : Scope → Label → Bool
label_fits s Internal = true
label_fits s (Trigger n) = nat_lt n s.counts.triggers
label_fits s (Send n) = nat_lt n s.counts.channels
label_fits s (Receive n) = nat_lt n s.counts.channels

abbrev pub task_fits : Scope → Task → Bool
task_fits s t = nat_le 1 t.cost && (nat_le t.cost t.deadline && (nat_le t.deadline longest && group_fits (assignment_fits s) t.assignments))

abbrev pub location_fits : Scope → Location → Bool
location_fits s l = present_or_none l.task s.tasks && group_fits (invariant_fits s) l.invariants

-- all of an edge but its ends
abbrev pub edge_fits : Scope → Edge → Bool
edge_fits s e = label_fits s e.label && (group_fits (condition_fits s) e.guard && (group_fits (reset_fits s) e.resets && group_fits (assignment_fits s) e.assignments))
