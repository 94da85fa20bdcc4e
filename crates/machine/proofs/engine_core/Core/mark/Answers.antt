use Rattle.std.proofs.Common.{[], take, ap, ◌∙◌}
use Rattle.runs.specs.State.{with_triggers}
use Rattle.machine.specs.Model.{model}
use Rattle.machine.proofs.Rows.{take_set}
use Rattle.machine.proofs.engine_core.Core.mark.Goals as goal

pub returns : goal.returns
returns c =
    let m = c.args.self.now in
    let n = m.sequence.draft.counts.triggers in
    ap (λ ps. with_triggers ps [] (model [] m)) (ap (take n) c.set_item.ensures ∙ take_set n m.present c.args.trigger c.args.present)
