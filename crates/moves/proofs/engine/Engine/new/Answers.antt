use Rattle.std.proofs.Common.{false}
use Rattle.std.proofs.lemmas.List.{take-replicate}
use Rattle.sequence.specs.Whole.{plan}
use Rattle.moves.proofs.Starting.{few, start_is}
use Rattle.moves.proofs.engine.Engine.new.Goals as goal

pub returns : goal.returns
returns c = λ ts.
    let p = plan c.args.sequence in
    let k = few p c.args.sequence.draft.valid in
    start_is p ts _ _ _ _ _ c.first_places-places.ensures.value (take-replicate p.counts.clocks 16 0 k.clocks) c.first_values-values.ensures.value c.new.ensures
    (take-replicate p.counts.triggers 16 false k.triggers)
