-- What the value of a line says.
use Rattle.std.specs.Prelude.{ℕ, List, Ok, Result}
use Rattle.parts.specs.declared.part.Reset.{Reset}
use Rattle.lexical.specs.declared.fault.Place.{Place}
use Rattle.lexical.specs.declared.fault.SequenceFault.{SequenceFault}
use Rattle.lexical.specs.declared.key.Key.{Key}
use Rattle.lexical.specs.declared.key.Key.TheVariants.{Zero, Edges}
use Rattle.lexical.specs.Bytes.{pieces, comma}
use Rattle.lexical.specs.Fields.{on}
use Rattle.grammar.specs.Lines.{There, Fields, row}
use Rattle.lines.specs.declared.present.Present.{Present}

-- what a line may refer to
abbrev pub there_of : Present → There
there_of p = record {
  automata = p.scope.counts.automata;
  clocks = p.scope.counts.clocks;
  triggers = p.scope.counts.triggers;
  channels = p.scope.counts.channels;
  variables = p.scope.variables;
  tasks = p.scope.tasks;
  locations = p.locations;
}

-- the value of a line of a kind, read into a part
abbrev pub part_of : {X : Type 0} (n : There) (k : Key) → (Fields k → X) → Place → List ℕ → Result X SequenceFault
part_of n k f at value = on ((row n k).parse at (pieces comma value)) (λ fs. Ok (f fs))

abbrev pub reset_of : Fields Zero → Reset
reset_of f = record { clock = f }

abbrev pub edge_count_of : Fields Edges → ℕ
edge_count_of f = f
