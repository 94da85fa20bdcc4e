-- each round takes a byte or more from what is left of the line
use Rattle.std.proofs.Common.{length}
use Rattle.text_cases.proofs.decode.Given as goal

abbrev pub decreases-loop-left : goal.decreases-loop-left
decreases-loop-left l = length l.left
