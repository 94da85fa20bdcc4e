use Rattle.std.proofs.Common.{◌≡◌, ℕ, get_or, arith, rules}
use Rattle.lexical.proofs.Cutting.{cut_nowhere, cut_found, other_further}
use Rattle.lexical.proofs.bytes.cut_at.Goals as goal

pub loop-i-preserved : goal.loop-i-preserved
loop-i-preserved c = other_further c.args.byte c.args.text.now c.loop-i.i (search rules) c.loop-i.invariant

pub returns-then-b-byte : goal.returns-then-b-byte
returns-then-b-byte c = cut_found c.args.byte c.args.text.now c.loop-i.i c.loop-i-test.true (search rules) c.loop-i.invariant

pub returns : goal.returns
returns c = cut_nowhere c.args.byte c.args.text.now (λ k l. c.loop-i.invariant k (omega (arith, l, c.loop-i-test.false)))
