use Rattle.std.proofs.Common.{[], take, ap, ◌∙◌}
use Rattle.machine.specs.Model.{model}
use Rattle.moves.specs.Changes.{stepped}
use Rattle.machine.proofs.Rows.{take_taken}
use Rattle.moves.proofs.engine.Engine.count_step.Goals as goal

pub returns : goal.returns
returns c =
    let m = c.args.self.now.core in
    let n = m.sequence.draft.counts.triggers in
    ap (λ ps. stepped ps (model [] m)) (ap (take n) c.take_trigger.ensures ∙ take_taken n c.args.label m.present)
