use Rattle.grammar.proofs.Returning.{refused_is_no_sequence}
use Rattle.grammar.proofs.refused_is_no_sequence.Goals as goal

pub returns : goal.returns
returns c = refused_is_no_sequence
