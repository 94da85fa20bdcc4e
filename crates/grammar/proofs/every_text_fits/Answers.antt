use Rattle.grammar.proofs.Widths.{every_text_fits}
use Rattle.grammar.proofs.every_text_fits.Goals as goal

pub returns : goal.returns
returns c = every_text_fits
