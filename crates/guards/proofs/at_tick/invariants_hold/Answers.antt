use Rattle.std.proofs.Common.{sym, refl, ◌∙◌, rules, tests}
use Rattle.std.proofs.lemmas.Iterator.{YieldsList-from_slice}
use Rattle.std.proofs.lemmas.Iterator.Search.{all_from_yields_List}
use Rattle.runs.specs.Guards.{if_used, keeps, all_keep}
use Rattle.guards.proofs.Groups.{all_pass}
use Rattle.guards.proofs.at_tick.invariants_hold.Goals as goal

pub returns : goal.returns
returns c =
    let test = keeps c.args.zeroed.now c.args.tick in
    all_from_yields_List (λ p. if_used p test) _ _ _ c.all.ensures.ran (YieldsList-from_slice c.args.invariants.now (cc)) (λ x b q k. search (rules, tests))
    ∙ sym (all_pass (all_keep c.args.zeroed.now c.args.tick) test refl (λ x xs. refl) c.args.invariants.now)
