use Rattle.std.proofs.Common.{sym}
use Rattle.strides.proofs.Opening.{waits_for_a_partner}
use Rattle.strides.proofs.stretch.Stretch.before_edge.Goals as goal

pub returns-else-goes_alone : goal.returns-else-goes_alone
returns-else-goes_alone c = waits_for_a_partner c.args.view.now c.args.edge.now (sym c.if-not-leaves_current.ensures) (sym c.if-goes_alone.ensures) c.args.self c.before_partners.result c.before_partners.ensures
