use Rattle.std.proofs.Common.{rules}
use Rattle.std.proofs.lemmas.Result.{err_from_is_err_and}
use Rattle.rows.proofs.Groups.{group_step, group_fails, group_all}
use Rattle.rows.proofs.assign.assign_all.Goals as goal

pub returns-in_err-assign_one : goal.returns-in_err-assign_one
returns-in_err-assign_one c =
    let p = err_from_is_err_and c.from_residual.result c.from_residual.ensures.1 in
    let e = c.in_err-assign_one.ensures in
    rw p.1 (search (rules, group_fails))

pub loop-assignment-preserved : goal.loop-assignment-preserved
loop-assignment-preserved c = let e = c.in_ok-assign_one.ensures in search (rules, group_step)

pub returns : goal.returns
returns c = search (rules, group_all)
