use Rattle.grammar.proofs.Returning.{one_sequence_to_a_text}
use Rattle.grammar.proofs.one_sequence_to_a_text.Goals as goal

pub returns : goal.returns
returns c = one_sequence_to_a_text
