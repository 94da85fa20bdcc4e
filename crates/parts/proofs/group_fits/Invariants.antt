use Rattle.std.proofs.Common.{◌≡◌, drop}
use Rattle.parts.specs.Limits.{group_fits}
use Rattle.parts.proofs.Groups.{left_fits}
use Rattle.parts.proofs.group_fits.Given as goal

abbrev pub invariant-loop-part : goal.invariant-loop-part
invariant-loop-part g l = left_fits (g.T.Refers.fits l.scope) l.over (drop l.part-index l.row) ≡ group_fits (g.T.Refers.fits l.scope) l.row
