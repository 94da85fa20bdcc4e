use Rattle.std.proofs.Common.{length, get_or, pos, ◌∙◌, rules}
use Rattle.sequence.specs.Whole.{plan}
use Rattle.runs.specs.Values.{no_variable}
use Rattle.moves.proofs.Starting.{few, made_first, values_made}
use Rattle.moves.proofs.start.first_values.Goals as goal

pub returns-clause-value : goal.returns-clause-value
returns-clause-value c =
    let p = plan c.args.sequence.now in
    let k = few p c.args.sequence.now.draft.valid in
    made_first _ _ (λ i. (get_or p.variables i no_variable).start) (λ i y q k. search rules) c.from_fn.result (pos 0) 16 (length p.variables) k.variables c.from_fn.ensures.items
    ∙ values_made p.variables
