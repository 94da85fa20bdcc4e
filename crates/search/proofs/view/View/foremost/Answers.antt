use Rattle.std.proofs.Common.{get_or, sym}
use Rattle.std.proofs.lemmas.Option.{slice_get-get_or}
use Rattle.runs.proofs.Searching.{shut_unfit_by, unfit}
use Rattle.search.specs.Views.{state_of}
use Rattle.search.proofs.Candidates.{item_at, shut_more, unfit_more, no_partner, none_open, found_alone, found_pair}
use Rattle.search.proofs.view.View.foremost.Goals as goal

pub loop-p-preserved : goal.loop-p-preserved
loop-p-preserved c =
    let s = state_of c.args.self.now in
    let cs = c.args.candidates.now in
    let e = get_or cs c.loop-e.e-index 0 in
    let p = get_or cs c.loop-p.p-index 0 in
    unfit_more s cs e c.loop-p.p-index p (slice_get-get_or cs c.loop-p.p-index 0 c.loop-p-test.true)
    (unfit s e c.in-Some.edge.now (item_at _ e c.in-Some.edge c.in-Some.ensures.lookup) p c.in-Some-get.partner.now (item_at _ p c.in-Some-get.partner c.in-Some-get.ensures.lookup) (sym c.if-fits.ensures)) c.loop-p.invariant

pub loop-e-preserved : goal.loop-e-preserved
loop-e-preserved c rises covers =
    let s = state_of c.args.self.now in
    let cs = c.args.candidates.now in
    let e = get_or cs c.loop-e.e-index 0 in
    shut_more s cs c.loop-e.e-index e (slice_get-get_or cs c.loop-e.e-index 0 c.loop-e-test.true)
    (shut_unfit_by s e c.in-Some.edge.now (item_at _ e c.in-Some.edge c.in-Some.ensures.lookup) (sym c.if-goes_alone.ensures) (no_partner s cs rises covers e c.loop-p.p-index c.loop-p-test.false c.loop-p.invariant))
    (c.loop-e.invariant rises covers)

pub returns-then-goes_alone : goal.returns-then-goes_alone
returns-then-goes_alone c rises covers =
    let s = state_of c.args.self.now in
    let cs = c.args.candidates.now in
    let e = get_or cs c.loop-e.e-index 0 in
    found_alone s cs rises covers c.loop-e.e-index e c.in-Some.edge.now (slice_get-get_or cs c.loop-e.e-index 0 c.loop-e-test.true) (item_at _ e c.in-Some.edge c.in-Some.ensures.lookup) (sym c.if-not-ready.ensures) (c.loop-e.invariant rises covers) (sym c.if-goes_alone.ensures)

pub returns-then-fits : goal.returns-then-fits
returns-then-fits c rises covers =
    let s = state_of c.args.self.now in
    let cs = c.args.candidates.now in
    let e = get_or cs c.loop-e.e-index 0 in
    let p = get_or cs c.loop-p.p-index 0 in
    found_pair s cs rises covers c.loop-e.e-index e c.in-Some.edge.now (slice_get-get_or cs c.loop-e.e-index 0 c.loop-e-test.true) (item_at _ e c.in-Some.edge c.in-Some.ensures.lookup) (sym c.if-not-ready.ensures) (c.loop-e.invariant rises covers)
    c.loop-p.p-index p c.in-Some-get.partner.now (slice_get-get_or cs c.loop-p.p-index 0 c.loop-p-test.true) (item_at _ p c.in-Some-get.partner c.in-Some-get.ensures.lookup) (sym c.if-fits.ensures) c.loop-p.invariant

pub returns-after-loop-e : goal.returns-after-loop-e
returns-after-loop-e c rises covers = none_open (state_of c.args.self.now) c.args.candidates.now rises covers c.loop-e.e-index c.loop-e-test.false (c.loop-e.invariant rises covers)
