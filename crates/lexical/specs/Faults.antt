-- The number, the layer and the place of every fault.
use Rattle.std.specs.Prelude.{ℕ}
use Rattle.lexical.specs.declared.fault.Place.{Place}
use Rattle.lexical.specs.declared.fault.NumberFault.{NumberFault}
use Rattle.lexical.specs.declared.fault.NumberFault.TheVariants.{Misspelt, OutOfRange}
use Rattle.lexical.specs.declared.fault.LineFault.{LineFault}
use Rattle.lexical.specs.declared.fault.LineFault.TheVariants.{Number, Malformed, KeyNotAllowed, FieldCount, UnknownWord}
use Rattle.lexical.specs.declared.fault.SequenceFault.{SequenceFault}
use Rattle.lexical.specs.declared.fault.SequenceFault.TheVariants.{Line, TextTooLong, TooManyLines, NothingThere, WrongAutomaton, WrongEdgeCount}
use Rattle.lexical.specs.declared.fault.Report.{Report}

abbrev pub place : (line column : ℕ) → Place
place n c = record { line = n; column = c }

-- a fault of a cause and a layer at a place
abbrev pub reported : (cause layer : ℕ) → Place → Report
reported cause layer at = record { cause = cause; layer = layer; line = at.line; column = at.column }

-- a lower layer's fault is reported as it is
abbrev pub number_report : NumberFault → Report
number_report (Misspelt at) = reported 4 1 at
number_report (OutOfRange at) = reported 7 1 at

abbrev pub line_report : LineFault → Report
line_report (Number e) = number_report e
line_report (Malformed at) = reported 2 2 at
line_report (KeyNotAllowed at) = reported 3 2 at
line_report (FieldCount at) = reported 5 2 at
line_report (UnknownWord at) = reported 6 2 at

abbrev pub sequence_report : SequenceFault → Report
sequence_report (Line e) = line_report e
sequence_report TextTooLong = reported 1 3 (place 0 0)
sequence_report (TooManyLines at) = reported 8 3 at
sequence_report (NothingThere at) = reported 9 3 at
sequence_report (WrongAutomaton at) = reported 10 3 at
sequence_report (WrongEdgeCount at) = reported 11 3 at

-- the answer to a buffer that is too short
abbrev pub short_report : Report
short_report = reported 12 4 (place 0 0)
