use Rattle.std.proofs.Common.{eqb, ap, ◌∙◌, rules, tests}
use Rattle.std.proofs.lemmas.Iterator.{YieldsList-from_slice}
use Rattle.std.proofs.lemmas.Iterator.Search.{position_from_yields_List}
use Rattle.runs.specs.State.{lowest}
use Rattle.moves.proofs.Starting.{lowest_is}
use Rattle.moves.proofs.start.lowest_location.Goals as goal

pub returns : goal.returns
returns c =
    let ls = c.locations.result.now in
    let r = position_from_yields_List (λ l. eqb l.automaton c.args.automaton) _ _ c.position.result c.position.ensures.ran (YieldsList-from_slice ls cc) (λ x b q k. search (rules, tests)) in
    c.unwrap_or.ensures ∙ (lowest_is c.args.automaton ls c.position.result r ∙ ap (lowest c.args.automaton 0) c.locations.ensures)
