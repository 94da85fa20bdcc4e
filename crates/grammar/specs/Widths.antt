-- Which numbers and groups a sequence has in memory: numbers for variables of 16 bits with a sign, priorities of 8 bits, groups of as many places as each has.
use Rattle.std.specs.Prelude.{ℕ, Bool, true, ◌&&◌, List, length, ℤ, Option, ◌==◌, int_le, nat_le}
use Rattle.parts.specs.declared.part.Variable.{Variable}
use Rattle.parts.specs.declared.part.Assignment.{Assignment}
use Rattle.parts.specs.declared.part.Condition.{Condition}
use Rattle.parts.specs.declared.part.Condition.TheVariants as condition
use Rattle.parts.specs.declared.part.Task.{Task}
use Rattle.parts.specs.declared.part.Location.{Location}
use Rattle.parts.specs.declared.part.Edge.{Edge}
use Rattle.sequence.specs.Plan.{Plan, each}
use Rattle.sequence.specs.Growing.{used}
use Rattle.grammar.specs.Lines.{lowest, highest}

-- a value of a variable, or a constant for variables
abbrev pub for_variables : ℤ → Bool
for_variables z = int_le lowest z && int_le z highest

abbrev pub variable_in_widths : Variable → Bool
variable_in_widths v = for_variables v.low && (for_variables v.start && for_variables v.high)

abbrev pub assignment_in_widths : Assignment → Bool
assignment_in_widths a = for_variables a.constant

abbrev pub condition_in_widths : Condition → Bool
condition_in_widths (condition.Clock c r k) = true
condition_in_widths (condition.Difference c d r k) = true
condition_in_widths (condition.Variable v r k) = for_variables k

-- a group of n places
abbrev pub has_places : {X : Type 0} → ℕ → List (Option X) → Bool
has_places n xs = length xs == n

-- a group of n places, and each part in it in its widths
abbrev pub group_in_widths : {X : Type 0} → ℕ → (X → Bool) → List (Option X) → Bool
group_in_widths n widths xs = has_places n xs && each widths (used xs)

abbrev pub task_in_widths : Task → Bool
task_in_widths t = nat_le t.priority 255 && group_in_widths 4 assignment_in_widths t.assignments

abbrev pub location_in_widths : Location → Bool
location_in_widths l = has_places 2 l.invariants

abbrev pub edge_in_widths : Edge → Bool
edge_in_widths e = group_in_widths 4 condition_in_widths e.guard && (has_places 4 e.resets && group_in_widths 4 assignment_in_widths e.assignments)

-- every part of a sequence is in its widths
abbrev pub in_widths : Plan → Bool
in_widths p =
    each variable_in_widths p.variables
    && (each task_in_widths p.tasks && (each location_in_widths p.locations && each edge_in_widths p.edges))
