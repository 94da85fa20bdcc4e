use Rattle.fields.proofs.Counting.{Left}
use Rattle.fields.proofs.number.digits.Given as goal

abbrev pub invariant-loop-b : goal.invariant-loop-b
invariant-loop-b l = Left l.text l.b-index l.n
