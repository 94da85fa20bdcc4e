-- What a line does to a draft.
use Rattle.std.specs.Prelude.{◌≡◌, ℕ, true, cond, List, Ok, Err, Result}
use Rattle.parts.specs.declared.part.Assignment.{Assignment}
use Rattle.parts.specs.declared.part.Rule.{Rule}
use Rattle.sequence.specs.Plan.{Plan}
use Rattle.sequence.specs.Building.{none}
use Rattle.sequence.specs.Growing.{add_task_assignment, add_edge_assignment}
use Rattle.lexical.specs.declared.fault.Place.{Place}
use Rattle.lexical.specs.declared.fault.SequenceFault.{SequenceFault}
use Rattle.lexical.specs.declared.fault.SequenceFault.TheVariants.{WrongAutomaton}
use Rattle.lexical.specs.declared.key.Key.{Key}
use Rattle.grammar.specs.Reading.{Step, more, done, allowed, room, take_value}
use Rattle.reader.specs.declared.take.Taken.{Taken}
use Rattle.reader.specs.declared.take.Taken.TheVariants.{More, Last}

-- a line was taken as the outcome says; at the last line and at a fault nothing changed
abbrev pub Takes : (outcome : Result Step SequenceFault) → (before after : Plan) → Result Taken SequenceFault → Type 0
Takes outcome before after (Ok Last) = (outcome ≡ Ok done) × (after ≡ before)
Takes outcome before after (Ok More) = outcome ≡ Ok (more after)
Takes outcome before after (Err fault) = (outcome ≡ Err fault) × (after ≡ before)

-- an assignment goes to the last task, or to the last edge where there is one
abbrev pub add_assignment : Plan → Assignment → Result Plan Rule
add_assignment p a = cond (none p.edges) (add_task_assignment p a) (add_edge_assignment p a)

-- the part of a line that was read can break no rule but that of its automaton
abbrev pub placed : Place → Result Unit Rule → Result Taken SequenceFault
placed at (Ok _) = Ok More
placed at (Err _) = Err (WrongAutomaton at)

-- the value of a line of a kind that is allowed and has room was taken
abbrev pub TakesValue : (k : Key) (before : Plan) (at : Place) (value : List ℕ) (after : Plan) → Result Taken SequenceFault → Type 0
TakesValue k before at value after r = allowed k before ≡ true → room k before ≡ true → Takes (take_value k before at value) before after r
