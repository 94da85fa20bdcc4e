use Rattle.std.proofs.Common.{◌≡◌, ℕ, true, false, ◌∷◌, ℤ, pos, negsuc, nat_abs, decimal, sym, ap, arith, w32, SFits}
use lib.Signed.{lt_z}
use Rattle.std.proofs.lemmas.Int.{to_z-of_z}
use Rattle.std.specs.Fmt.{signed_decimal}
use Rattle.output.proofs.Given.{gives_then, gives_as, gives_from}
use Rattle.output.proofs.put_integer.Goals as goal
use Rattle.output.proofs.put_integer.Goals.{then-z-lt0, else-z-lt0}

below : (z : ℤ) (n : ℕ) → lt_z z (pos 0) ≡ true → n ≡ nat_abs z → 45 ∷ decimal n ≡ signed_decimal z
below (pos m) n h e = absurd (grind arith)
below (negsuc m) n h e = ap (λ (k : ℕ). 45 ∷ decimal k) e

from_0 : (z : ℤ) (n : ℕ) → lt_z z (pos 0) ≡ false → n ≡ nat_abs z → decimal n ≡ signed_decimal z
from_0 (pos m) n h e = ap decimal e
from_0 (negsuc m) n h e = absurd (let z : ◌≡◌ {A = ℕ} 0 1 = cc in omega arith)

pub returns : goal.returns
returns g c =
    let there : SFits w32 c.args.z = c.ranges.z in
    let size : c.unsigned_abs.result ≡ nat_abs c.args.z = simp to_z-of_z at c.unsigned_abs.ensures.value in
    elim c.if-z-lt0.branch [
      | then-z-lt0 w ↦ gives_as (below c.args.z c.unsigned_abs.result (simp to_z-of_z at w.if-z-lt0.true) size) (gives_then w.put.ensures (gives_from (sym w.out-is) c.put_natural.ensures))
      | else-z-lt0 w ↦ gives_as (from_0 c.args.z c.unsigned_abs.result (simp to_z-of_z at w.if-z-lt0.false) size) (gives_from (sym w.out-is) c.put_natural.ensures)
    ]
