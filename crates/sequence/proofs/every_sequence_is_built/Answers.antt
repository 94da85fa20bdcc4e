use Rattle.sequence.proofs.Sound.{sound_facts}
use Rattle.sequence.proofs.Rebuilt.{sound_rebuilt}
use Rattle.sequence.proofs.every_sequence_is_built.Goals as goal

pub returns : goal.returns
returns c = ((λ s. (s.draft.valid, s.whole)), (λ p v. sound_rebuilt p (sound_facts p v.0)))
