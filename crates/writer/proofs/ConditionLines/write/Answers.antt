use Rattle.std.proofs.Common.{w16, w32, SFits, rules}
use Rattle.std.proofs.lemmas.Int.{to_z-of_z}
use Rattle.writer.proofs.ConditionLines.write.Goals as goal

pub returns-in-Clock : goal.returns-in-Clock
returns-in-Clock g c = rw c.in-Clock.is c.put_line.ensures

pub returns-in-Difference : goal.returns-in-Difference
returns-in-Difference g c =
    let k : SFits w32 c.in-Difference.k = search rules in
    rw c.in-Difference.is (simp to_z-of_z at c.put_line-in-Difference.ensures)

pub returns-in-Variable : goal.returns-in-Variable
returns-in-Variable g c =
    let k : SFits w16 c.in-Variable.k = search rules in
    rw c.in-Variable.is (simp to_z-of_z at c.put_line-in-Variable.ensures)
