use Rattle.std.proofs.Common.{◌≡◌, true, Ok, sym, ap, ◌∙◌, subst}
use Rattle.std.proofs.lemmas.Bool.{cond-true}
use Rattle.sequence.specs.Plan.{Plan, sound}
use Rattle.sequence.proofs.Sound.{begun_at, begun_sound}
use Rattle.sequence.proofs.draft.Draft.begin.Goals as goal

pub invariant_of-result : goal.invariant_of-result
invariant_of-result c =
    let e = begun_at c.args.counts c.args.memory.lists c.args.memory.empty in
    record { valid = subst (λ (p : Plan). sound p ≡ true) e (begun_sound c.args.counts (sym c.if-not-fit.ensures)) }

pub returns : goal.returns
returns c =
    let e = begun_at c.args.counts c.args.memory.lists c.args.memory.empty in
    cond-true _ _ _ (sym c.if-not-fit.ensures) ∙ ap Ok e
