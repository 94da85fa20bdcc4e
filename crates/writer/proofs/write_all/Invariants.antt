use Rattle.std.proofs.Common.{take}
use Rattle.std.specs.List.{flat_map}
use Rattle.output.specs.Giving.{Gives}
use Rattle.grammar.specs.Lines.{text_of}
use Rattle.writer.proofs.write_all.Given as goal

abbrev pub invariant-loop-part : goal.invariant-loop-part
invariant-loop-part g l = Gives g.S.Sink.holds g.S.Sink.lender l.initial.out (text_of (flat_map g.T.Lines.items (take l.part-index l.parts))) l.out
