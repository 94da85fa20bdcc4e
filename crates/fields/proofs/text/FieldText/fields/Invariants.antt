use Rattle.std.proofs.Common.{◌≡◌, length, take}
use Rattle.fields.proofs.Filling.{Filled}
use Rattle.fields.proofs.text.FieldText.fields.Given as goal

abbrev pub invariant-loop-i : goal.invariant-loop-i
invariant-loop-i l = (length l.fields ≡ 4) × Filled l.self l.left (take l.i l.fields) l.i
