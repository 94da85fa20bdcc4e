use Rattle.strides.proofs.Staying.{place_none}
use Rattle.strides.proofs.stretch.Stretch.before_place.Goals as goal

pub returns-in-None : goal.returns-in-None
returns-in-None c = rw c.in-None.is (place_none c.args.zeroed.now c.args.self)

pub returns-in-Some : goal.returns-in-Some
returns-in-Some c = rw c.in-Some.is c.before_invariant.ensures
