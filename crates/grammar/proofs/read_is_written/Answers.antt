use Rattle.grammar.proofs.Reread.{read_is_written}
use Rattle.grammar.proofs.read_is_written.Goals as goal

pub returns : goal.returns
returns c = read_is_written
