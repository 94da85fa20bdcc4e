use Rattle.std.proofs.Common.{◌≡◌, length, sym, arith}
use Rattle.std.specs.Vec.{vec_len}
use Rattle.sequence.proofs.Filling.{grown_ok, grown_full, grown_unfit, last_read, last_kept, last_changed}
use Rattle.sequence.proofs.grows.grow_last.Goals as goal

pub returns-then-not-has_room-clause-grows : goal.returns-then-not-has_room-clause-grows
returns-then-not-has_room-clause-grows g c =
    let v = c.args.list.now in
    let x = c.in-Some.last.now in
    let n : vec_len v ≡ length v.items = omega (arith, v.ok.0) in
    let i = c.in-Some.ensures.item in
    (grown_full _ x _ _ _ _ (last_read v.items (vec_len v) x n i.3.0 i.1) (sym c.if-not-has_room.ensures), last_kept v.items (vec_len v) x n i.3.0 i.1)

pub returns-then-not-fits_in-clause-grows : goal.returns-then-not-fits_in-clause-grows
returns-then-not-fits_in-clause-grows g c =
    let v = c.args.list.now in
    let x = c.in-Some.last.now in
    let n : vec_len v ≡ length v.items = omega (arith, v.ok.0) in
    let i = c.in-Some.ensures.item in
    (grown_unfit _ x _ _ _ _ (last_read v.items (vec_len v) x n i.3.0 i.1) (sym c.if-not-has_room.ensures) (sym c.if-not-fits_in.ensures), last_kept v.items (vec_len v) x n i.3.0 i.1)

pub returns-clause-grows : goal.returns-clause-grows
returns-clause-grows g c =
    let v = c.args.list.now in
    let x = c.in-Some.last.now in
    let n : vec_len v ≡ length v.items = omega (arith, v.ok.0) in
    let i = c.in-Some.ensures.item in
    let r = last_read v.items (vec_len v) x n i.3.0 i.1 in
    let e = last_changed v.items (vec_len v) x n i.3.0 i.1 (g.P.Grows.one_more c.args.part) c.grow.new.self c.grow.ensures in
    rw e (grown_ok _ x _ _ _ _ r (sym c.if-not-has_room.ensures) (sym c.if-not-fits_in.ensures))
