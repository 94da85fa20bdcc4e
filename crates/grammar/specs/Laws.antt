-- What holds of every text and every sequence.
use Rattle.std.specs.Prelude.{◌≡◌, ℕ, ◌+◌, ◌<◌, ◌≤◌, true, ◌⊎◌, List, ◌++◌, length, Some, Ok, Err, ◌≢◌}
use Rattle.std.specs.List.{slice_get}
use Rattle.sequence.specs.Plan.{Plan, Valid}
use Rattle.lexical.specs.declared.fault.SequenceFault.{SequenceFault}
use Rattle.lexical.specs.declared.fault.SequenceFault.TheVariants.{TextTooLong}
use Rattle.lexical.specs.Bytes.{pieces, newline}
use Rattle.lexical.specs.Faults.{sequence_report}
use Rattle.grammar.specs.Reading.{read_text, longest_text}
use Rattle.grammar.specs.Writing.{written}
use Rattle.grammar.specs.Widths.{in_widths}

-- what was read is what would be written: every accepted text begins with the text of its sequence, byte for byte
abbrev pub ReadIsWritten : Type 0
ReadIsWritten = (t : List ℕ) (p : Plan) (r : List ℕ) → read_text t ≡ Ok (p, r) → t ≡ written p ++ r

-- what is read breaks no limit, and is in its widths
abbrev pub ReadIsValid : Type 0
ReadIsValid = (t : List ℕ) (p : Plan) (r : List ℕ) → read_text t ≡ Ok (p, r) → Valid p × (in_widths p ≡ true)

-- every sequence is read back from its text, whatever stands behind it
abbrev pub WrittenIsRead : Type 0
WrittenIsRead = (p : Plan) (r : List ℕ) → Valid p → in_widths p ≡ true → length (written p ++ r) ≤ longest_text → read_text (written p ++ r) ≡ Ok (p, r)

-- no sequence's text is too long
abbrev pub EveryTextFits : Type 0
EveryTextFits = (p : Plan) → Valid p → in_widths p ≡ true → length (written p) ≤ longest_text

-- a text begins with the text of at most one sequence
abbrev pub OneSequenceToAText : Type 0
OneSequenceToAText =
    (p q : Plan) (r s : List ℕ) → Valid p → in_widths p ≡ true → Valid q → in_widths q ≡ true →
    length (written p ++ r) ≤ longest_text → written p ++ r ≡ written q ++ s → (p ≡ q) × (r ≡ s)

-- a text is read or refused, and never both
abbrev pub ReadOrRefused : Type 0
ReadOrRefused =
    (t : List ℕ) →
    (((p : Plan) × (r : List ℕ) × (read_text t ≡ Ok (p, r))) ⊎ ((e : SequenceFault) × (read_text t ≡ Err e)))
    × ((p : Plan) (r : List ℕ) (e : SequenceFault) → read_text t ≡ Ok (p, r) → read_text t ≢ Err e)

-- a refused text that is not too long does not begin with the text of any sequence
abbrev pub RefusedIsNoSequence : Type 0
RefusedIsNoSequence = (t : List ℕ) (e : SequenceFault) → read_text t ≡ Err e → length t ≤ longest_text → (p : Plan) (r : List ℕ) → Valid p → in_widths p ≡ true → t ≢ written p ++ r

-- a place lies in a line of the text, or right behind its last byte, where its newline or the end stands;
-- a line that is missing is the empty one behind the last newline
pub record InText (t : List ℕ) (line column : ℕ) : Type 0 where
  pub piece : List ℕ
  pub before : ℕ
  pub numbered : line ≡ before + 1
  pub there : slice_get (pieces newline t) before ≡ Some piece
  pub first : 1 ≤ column
  pub within : column ≤ length piece + 1

-- a fault lies in the text, but for a text that is too long
abbrev pub FaultsLieInTheText : Type 0
FaultsLieInTheText =
    (t : List ℕ) (e : SequenceFault) → read_text t ≡ Err e →
    ((e ≡ TextTooLong) × (longest_text < length t)) ⊎ ((length t ≤ longest_text) × InText t (sequence_report e).line (sequence_report e).column)
