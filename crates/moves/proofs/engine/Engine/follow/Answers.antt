use Rattle.std.proofs.Common.{[], take, set, ap, ◌∙◌}
use Rattle.machine.specs.Model.{model}
use Rattle.moves.specs.Changes.{with_places}
use Rattle.machine.proofs.Rows.{take_set}
use Rattle.moves.proofs.engine.Engine.follow.Goals as goal

pub returns : goal.returns
returns c =
    let m = c.args.self.now.core in
    let n = m.sequence.draft.counts.automata in
    let to = c.args.edge.now.to in
    ap (λ ps. with_places ps (model [] m))
    (ap (take n) c.move_to.ensures ∙ take_set n m.places c.automaton_of-automaton.result to ∙ ap (λ a. set (take n m.places) a to) c.automaton_of-automaton.ensures)
