use Rattle.std.proofs.Common.{◌≡◌, ◌+◌, ◌≤◌, length}
use Rattle.lexical.specs.Bytes.{pieces, newline}
use Rattle.sequence.specs.Model.{plan_of}
use Rattle.grammar.specs.Reading.{read_lines}
use Rattle.reader.proofs.read.read_lines.Given as goal

-- what is left gives the whole, and each line takes a byte or more
abbrev pub invariant-loop-line : goal.invariant-loop-line
invariant-loop-line l =
    (read_lines (plan_of l.draft) l.number (pieces newline l.rest) ≡ read_lines (plan_of l.initial.draft) 6 (pieces newline l.text))
    × (l.number + length l.rest ≤ length l.text + 6) × (6 ≤ l.number)

abbrev pub decreases-loop-line : goal.decreases-loop-line
decreases-loop-line l = length l.rest
