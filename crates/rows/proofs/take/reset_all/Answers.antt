use Rattle.std.proofs.Common.{rules}
use Rattle.rows.proofs.Groups.{resets_step, resets_all}
use Rattle.rows.proofs.take.reset_all.Goals as goal

pub loop-reset-preserved : goal.loop-reset-preserved
loop-reset-preserved c = search (rules, resets_step)

pub returns : goal.returns
returns c = search (rules, resets_all)
