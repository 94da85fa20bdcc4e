use Rattle.std.proofs.Common.{◌∙◌, rules}
use Rattle.sequence.specs.Whole.{plan}
use Rattle.runs.specs.State.{lowest}
use Rattle.moves.proofs.Starting.{few, made_first, places_made}
use Rattle.moves.proofs.start.first_places.Goals as goal

pub returns-clause-value : goal.returns-clause-value
returns-clause-value c =
    let p = plan c.args.sequence.now in
    let k = few p c.args.sequence.now.draft.valid in
    made_first _ _ (λ a. lowest a 0 p.locations) (λ i y q k. search rules) c.from_fn.result 0 8 p.counts.automata k.automata c.from_fn.ensures.items
    ∙ places_made p.counts.automata 0 p.locations
