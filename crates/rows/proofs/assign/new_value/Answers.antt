use Rattle.std.proofs.Common.{rules}
use Rattle.rows.proofs.assign.new_value.Goals as goal

pub returns-in_err-sum : goal.returns-in_err-sum
returns-in_err-sum c = search rules

pub returns : goal.returns
returns c = search rules
