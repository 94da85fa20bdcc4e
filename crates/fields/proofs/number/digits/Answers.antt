use Rattle.std.proofs.Common.{inl, inr, ⊎_elim}
use Rattle.fields.proofs.Counting.{left_stop, left_more, left_past_at, left_end}
use Rattle.fields.proofs.number.digits.Goals as goal
use Rattle.fields.proofs.number.digits.Goals.{then-n-le-MOST, else-n-le-MOST}

pub returns-then-d-lt48 : goal.returns-then-d-lt48
returns-then-d-lt48 c =
    left_stop c.args.text.now c.loop-b.b-index c.loop-b.n c.loop-b-test.true c.loop-b.invariant (⊎_elim inl (λ p. inr p.1) c.then-d-lt48.either)

pub loop-b-preserved : goal.loop-b-preserved
loop-b-preserved c =
    elim c.if-n-le-MOST.branch [
      | then-n-le-MOST w ↦ left_more c.args.text.now c.loop-b.b-index c.loop-b.n c.if-n-le-MOST.n c.loop-b-test.true c.loop-b.invariant c.if-d-lt48.false c.if-d-gt57.false w.if-n-le-MOST.true w.n-is
      | else-n-le-MOST w ↦ left_past_at c.args.text.now c.loop-b.b-index c.loop-b.n c.if-n-le-MOST.n c.loop-b-test.true c.loop-b.invariant c.if-d-lt48.false c.if-d-gt57.false w.if-n-le-MOST.false w.n-is
    ]

pub returns : goal.returns
returns c = left_end c.args.text.now c.loop-b.b-index c.loop-b.n c.loop-b-test.false c.loop-b.invariant
