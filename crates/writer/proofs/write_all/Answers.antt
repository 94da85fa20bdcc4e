use Rattle.output.proofs.Given.{gives_then, gives_as}
use Rattle.writer.proofs.Pieces.{all_more}
use Rattle.writer.proofs.write_all.Goals as goal

pub loop-part-preserved : goal.loop-part-preserved
loop-part-preserved g c = gives_as (all_more g.T.Lines.items c.args.parts.now c.loop-part.part-index c.part-item.result c.loop-part-test.true c.part-item.is) (gives_then c.loop-part.invariant c.write.ensures)
