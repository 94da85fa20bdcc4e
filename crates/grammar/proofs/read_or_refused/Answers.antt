use Rattle.grammar.proofs.Reread.{read_or_refused}
use Rattle.grammar.proofs.read_or_refused.Goals as goal

pub returns : goal.returns
returns c = read_or_refused
