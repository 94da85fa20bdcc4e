use Rattle.std.proofs.Common.{refl, arith}
use Rattle.lexical.specs.Bytes.{comma}
use Rattle.lexical.proofs.Cutting.{pieces_cut, pieces_none}
use Rattle.fields.proofs.Splitting.{cut_lengths}
use Rattle.fields.proofs.text.FieldText.first.Goals as goal

pub overflow_add-at-in-Some : goal.overflow_add-at-in-Some
overflow_add-at-in-Some c = omega (arith, cut_lengths comma c.args.self.bytes.now (c.in-Some.field.now, c.in-Some.bytes.now) c.in-Some.ensures, c.args.self.fits)

pub invariant_of-result : goal.invariant_of-result
invariant_of-result c =
    record { fits = omega (arith, cut_lengths comma c.args.self.bytes.now (c.in-Some.field.now, c.in-Some.bytes.now) c.in-Some.ensures, c.args.self.fits) }

pub returns-in-None : goal.returns-in-None
returns-in-None c =
    record {
      x = c.args.self.bytes.now;
      split = pieces_none comma c.args.self.bytes.now c.in-None.ensures;
      first = c.field_at.ensures;
      next = tt;
    }

pub returns-in-Some : goal.returns-in-Some
returns-in-Some c =
    record {
      x = c.in-Some.field.now;
      split = pieces_cut comma c.args.self.bytes.now (c.in-Some.field.now, c.in-Some.bytes.now) c.in-Some.ensures;
      first = c.field_at-in-Some.ensures;
      next = refl;
    }
