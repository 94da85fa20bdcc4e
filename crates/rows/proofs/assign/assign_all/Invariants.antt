use Rattle.std.proofs.Common.{◌≡◌, drop}
use Rattle.runs.specs.Values.{assign_all}
use Rattle.rows.proofs.assign.assign_all.Given as goal

-- what is left, from the values as they stand, gives what all give from the start
abbrev pub invariant-loop-assignment : goal.invariant-loop-assignment
invariant-loop-assignment l = assign_all l.variables (drop l.assignment-index l.assignments) l.values ≡ assign_all l.variables l.assignments l.initial.values
