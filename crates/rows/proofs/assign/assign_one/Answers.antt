use Rattle.std.proofs.Common.{sym, ◌∙◌, arith}
use Rattle.std.proofs.lemmas.Int.{ints}
use Rattle.rows.proofs.Groups.{assigned}
use Rattle.rows.proofs.assign.assign_one.Goals as goal

pub returns : goal.returns
returns c =
    assigned c.args.variables.now c.args.values.now c.args.assignment c.in-Some.a c.in_ok-value.value _
    c.in-Some.is (omega arith) (sym c.in_ok-value.ensures.ok_part ∙ c.new_value.ensures) (omega (arith, ints))
