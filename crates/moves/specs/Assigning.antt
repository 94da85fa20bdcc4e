-- What the assignments of a step make of a state.
use Rattle.std.specs.Prelude.{◌≡◌, Bool, true, false, List, ℤ, is_some, Some, None, Ok, Err, Option, Result}
use Rattle.runs.specs.State.{State, with_jobs}
use Rattle.rows.specs.declared.fault.StepFault.{StepFault}
use Rattle.rows.specs.declared.fault.StepFault.TheVariants.{Range, Room}

-- the variables take the values after all assignments, or nothing changes: a range is left, or there is no room
abbrev pub Assigns : (room : Bool) (after : Option (List ℤ)) (s t : State) → Result Unit StepFault → Type 0
Assigns room after s t (Ok _) = (room ≡ true) × (after ≡ Some t.values) × (t ≡ with_jobs s.waiting t.values s)
Assigns room after s t (Err Range) = (after ≡ None) × (t ≡ s)
Assigns room after s t (Err Room) = (room ≡ false) × (is_some after ≡ true) × (t ≡ s)
