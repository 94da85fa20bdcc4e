use Rattle.std.proofs.Common.{◌<◌, ◌+◌, List, length, take, refl, subst, ◌∙◌, sym, arith}
use Rattle.std.proofs.lemmas.List.{take_more_set, length-set}
use Rattle.fields.specs.declared.field.Field.{Field}
use Rattle.fields.proofs.Filling.{Filled, filled_more, too_many, four_filled}
use Rattle.fields.proofs.text.FieldText.fields.Goals as goal

pub loop-i-preserved : goal.loop-i-preserved
loop-i-preserved c =
    let l = c.loop-i in
    let more : l.i < length l.fields = omega (arith, l.invariant.0, c.loop-i-test.true, c.requires) in (
      length-set l.fields l.i c.first.result.0 ∙ l.invariant.0,
      subst (λ (ts : List Field). Filled c.args.self c.first.result.1 ts (l.i + 1)) (sym (take_more_set l.fields l.i c.first.result.0 more))
          (filled_more c.args.self c.in-Some.text c.first.result.0 c.first.result.1 (take l.i l.fields) l.i c.first.ensures (rw c.in-Some.is at l.invariant.1)),
    )

pub returns-in-Some-left : goal.returns-in-Some-left
returns-in-Some-left c = (refl, too_many c.args.self c.in-Some-left.field-0 _ c.loop-i.i c.args.many (rw c.in-Some-left.is at c.loop-i.invariant.1) c.loop-i-test.false)

pub returns-in-None : goal.returns-in-None
returns-in-None c =
    four_filled c.args.self c.loop-i.fields _ c.loop-i.i c.args.many c.loop-i.invariant.0 (omega (arith, c.loop-i.auto.i-end, c.loop-i-test.false))
    (rw c.in-None.is at c.loop-i.invariant.1)
