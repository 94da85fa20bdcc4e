use Rattle.std.proofs.Common.{◌≡◌, true, false, length, get_or, rules, tests, ap, subst, arith, length-take}
use Rattle.std.proofs.lemmas.Iterator.{first_from_Range}
use Rattle.moves.specs.Lowest.{LowestPresent}
use Rattle.moves.proofs.Behind.{lowest_of}
use Rattle.moves.proofs.engine.Engine.lowest_present.Goals as goal

pub returns : goal.returns
returns c =
    let m = c.args.self.now.core in
    let ps = c.present-present.result.now in
    let r = first_from_Range _ _ _ c.find.result (λ x. get_or ps x false ≡ true) (λ x. get_or ps x false ≡ false) c.find.ensures.ran (λ x q k. search (rules, tests)) (λ x q k. search (rules, tests)) in
    subst (λ qs. LowestPresent qs c.find.result) c.present-present.ensures
    (lowest_of ps c.counts.result.triggers c.find.result (omega (arith, ap length c.present-present.ensures, length-take m.sequence.draft.counts.triggers m.present, ap (λ k. k.triggers) c.counts.ensures)) r)
