use Rattle.grammar.proofs.Returning.{written_is_read}
use Rattle.grammar.proofs.written_is_read.Goals as goal

pub returns : goal.returns
returns c = written_is_read
