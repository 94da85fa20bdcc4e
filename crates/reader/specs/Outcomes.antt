-- What the reader answers.
use Rattle.std.specs.Prelude.{◌≡◌, ℕ, List, ◌++◌, Ok, Err}
use Rattle.lexical.specs.declared.fault.SequenceFault.{SequenceFault}
use Rattle.sequence.specs.declared.memory.Memory.{Memory}
use Rattle.sequence.specs.Plan.{Plan}
use Rattle.sequence.specs.Memories.{RoomyAndEmpty}
use Rattle.grammar.specs.Reading.{read_text}
use Rattle.grammar.specs.Writing.{written}

-- the text is that of the sequence, byte for byte, and the rest behind it
pub record Reads (text : List ℕ) (p : Plan) (rest : List ℕ) : Type 0 where
  pub read : read_text text ≡ Ok (p, rest)
  pub whole : text ≡ written p ++ rest

-- the text is refused for its first fault, and the memory handed back with nothing in it
pub record Refuses (text : List ℕ) (fault : SequenceFault) (memory : Memory) : Type 0 where
  pub refused : read_text text ≡ Err fault
  pub roomy : RoomyAndEmpty memory
