use Rattle.std.proofs.Common.{◌+◌, drop, sym}
use Rattle.parts.specs.Limits.{group_fits}
use Rattle.parts.proofs.Groups.{all_seen, step, unused, used, used_behind, used_unfit}
use Rattle.parts.proofs.group_fits.Goals as goal
use Rattle.parts.proofs.group_fits.Goals.{in-None, in-Some+else-over+else-not-fits_in, then-over-via-then-over, then-over-via-else-over+then-not-fits_in}

pub returns-then-over : goal.returns-then-over
returns-then-over g c =
    let fits = g.T.Refers.fits c.args.scope.now in
    let over = c.loop-part.over in
    let here = step fits c.args.row.now c.loop-part.part-index over c.loop-part.invariant _ _ c.loop-part-test.true c.part-item.is c.in-Some.is in
    elim c.then-over.branch [
      | then-over-via-then-over w ↦ used_behind fits _ _ c.in-Some.x over w.if-over.true here
      | then-over-via-else-over+then-not-fits_in w ↦ used_unfit fits _ _ c.in-Some.x over w.if-over.false (sym w.if-not-fits_in.ensures) here
    ]

pub loop-part-preserved : goal.loop-part-preserved
loop-part-preserved g c =
    let fits = g.T.Refers.fits c.args.scope.now in
    let row = c.args.row.now in
    let i = c.loop-part.part-index in
    let over = c.loop-part.over in
    elim c.match-part.branch [
      | in-None w ↦ unused fits (drop (i + 1) row) (group_fits fits row) over c.match-part.over w.over-is (step fits row i over c.loop-part.invariant _ _ c.loop-part-test.true c.part-item.is w.in-None.is)
      | in-Some+else-over+else-not-fits_in w ↦ used fits (drop (i + 1) row) (group_fits fits row) w.in-Some.x over c.match-part.over w.if-over.false w.over-is (sym w.if-not-fits_in.ensures) (step fits row i over c.loop-part.invariant _ _ c.loop-part-test.true c.part-item.is w.in-Some.is)
    ]

pub returns : goal.returns
returns g c = all_seen (g.T.Refers.fits c.args.scope.now) c.args.row.now c.loop-part.part-index c.loop-part.over c.loop-part.invariant c.loop-part-test.false
