use Rattle.std.proofs.Common.{◌≡◌, true, take}
use Rattle.sequence.specs.Plan.{each}
use Rattle.grammar.proofs.in_memory.all_keep_widths.Given as goal

abbrev pub invariant-loop-part : goal.invariant-loop-part
invariant-loop-part g l = each g.T.Wide.widths (take l.part-index l.parts) ≡ true
