use Rattle.std.proofs.Common.{◌≡◌, true, false}
use Rattle.precedence.specs.Sorted.{in_order}
use Rattle.sources.specs.Lists.{earlier, all_within}
use Rattle.sources.proofs.Checking.{checked_over, checked_falls, checked_passes}
use Rattle.sources.proofs.table.Table.check.Goals as goal

pub returns-then-not-ticks_within : goal.returns-then-not-ticks_within
returns-then-not-ticks_within c =
    let over : all_within c.args.rows.now ≡ false = cc in
    checked_over c.args.rows.now over

pub returns-then-not-ticks_in_order : goal.returns-then-not-ticks_in_order
returns-then-not-ticks_in_order c =
    let within : all_within c.args.rows.now ≡ true = cc in
    let falls : in_order earlier c.args.rows.now ≡ false = cc in
    checked_falls c.args.rows.now within falls

pub returns-else-not-ticks_in_order : goal.returns-else-not-ticks_in_order
returns-else-not-ticks_in_order c =
    let within : all_within c.args.rows.now ≡ true = cc in
    let ordered : in_order earlier c.args.rows.now ≡ true = cc in
    checked_passes c.args.rows.now within ordered
