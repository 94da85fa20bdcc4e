use Rattle.grammar.proofs.Reread.{read_is_valid}
use Rattle.grammar.proofs.read_is_valid.Goals as goal

pub returns : goal.returns
returns c = read_is_valid
