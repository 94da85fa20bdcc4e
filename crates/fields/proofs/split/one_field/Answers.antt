use Rattle.std.proofs.Common.{refl}
use Rattle.lexical.specs.Bytes.{comma}
use Rattle.lexical.proofs.Cutting.{pieces_none}
use Rattle.fields.proofs.Splitting.{cut_more}
use Rattle.fields.proofs.split.one_field.Goals as goal

pub returns-in-Some : goal.returns-in-Some
returns-in-Some c = (refl, cut_more comma c.args.value.now (c.in-Some.field-0.0.now, c.in-Some.field-0.1.now) c.in-Some.ensures)

pub returns-in-None : goal.returns-in-None
returns-in-None c = record { x = c.args.value.now; split = pieces_none comma c.args.value.now c.in-None.ensures; first = c.field_at.ensures }
