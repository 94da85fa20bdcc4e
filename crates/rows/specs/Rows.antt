-- What the calls on the row of variables do, by the values after all assignments: none where one leaves its range.
use Rattle.std.specs.Prelude.{◌≡◌, ◌≤◌, Bool, true, false, List, [], length, ℤ, is_some, Some, None, Ok, Err, Option, Result}
use Rattle.parts.specs.declared.part.Assignment.{Assignment}
use Rattle.parts.specs.declared.part.Variable.{Variable}
use Rattle.parts.specs.declared.part.Edge.{Edge}
use Rattle.runs.specs.Values.{and_then, assign_all, assign_edges}
use Rattle.runs.specs.Edges.{receives, sides}
use Rattle.runs.specs.declared.event.Cause.{Cause}
use Rattle.runs.specs.declared.event.Cause.TheVariants.{EdgeRange, Overload}
use Rattle.rows.specs.declared.fault.OutOfRange.{OutOfRange}
use Rattle.rows.specs.declared.fault.StepFault.{StepFault}
use Rattle.rows.specs.declared.fault.StepFault.TheVariants.{Range, Room}

-- a group: the row holds the values after all, or there are none
abbrev pub GroupRun : (after : Option (List ℤ)) (row : List ℤ) → Result Unit OutOfRange → Type 0
GroupRun after row (Ok _) = after ≡ Some row
GroupRun after row (Err _) = after ≡ None

-- the values after the assignments of two sides, the second seeing what the first made
abbrev pub assign_both : List Variable → (first second : List (Option Assignment)) → List ℤ → Option (List ℤ)
assign_both vars first second values = and_then (assign_all vars first values) (assign_all vars second)

-- a step: a range is left, or there is no room, or the row holds the values after all. A row of more than 16 values is refused
-- too; no sequence has that many
abbrev pub StepRun : (room : Bool) (after : Option (List ℤ)) (before row : List ℤ) → Result Unit StepFault → Type 0
StepRun room after before row (Ok _) = (room ≡ true) × (after ≡ Some row)
StepRun room after before row (Err Range) = (row ≡ before) × (length before ≤ 16 → after ≡ None)
StepRun room after before row (Err Room) = (row ≡ before) × (room ≡ false) × (is_some after ≡ true)

-- the cause of a refused step
abbrev pub step_cause : StepFault → Cause
step_cause Range = EdgeRange
step_cause Room = Overload

-- a finished task: the row holds the values after all, or it is as before and there are none
abbrev pub TaskRun : (after : Option (List ℤ)) (before row : List ℤ) → Result Unit OutOfRange → Type 0
TaskRun after before row (Ok _) = after ≡ Some row
TaskRun after before row (Err _) = (row ≡ before) × (length before ≤ 16 → after ≡ None)

-- the edges of a step assign as one side, or as two with the sender's first
pub record AssignedInOrder (vars : List Variable) (d : Edge) (values : List ℤ) : Type 0 where
  pub alone : assign_edges vars (sides d None) values ≡ assign_both vars d.assignments [] values
  pub sender : (c : Edge) → receives d.label ≡ false → assign_edges vars (sides d (Some c)) values ≡ assign_both vars d.assignments c.assignments values
  pub receiver : (c : Edge) → receives d.label ≡ true → assign_edges vars (sides d (Some c)) values ≡ assign_both vars c.assignments d.assignments values

abbrev pub SidesInOrder : Type 0
SidesInOrder = (vars : List Variable) (d : Edge) (values : List ℤ) → AssignedInOrder vars d values
