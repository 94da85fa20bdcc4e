use Rattle.grammar.proofs.Placing.{faults_lie_in_the_text}
use Rattle.grammar.proofs.faults_lie_in_the_text.Goals as goal

pub returns : goal.returns
returns c = faults_lie_in_the_text
