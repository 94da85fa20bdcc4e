use Rattle.std.proofs.Common.{sym, ◌∙◌}
use Rattle.sequence.proofs.Filling.{fill_at, fill_none}
use Rattle.sequence.proofs.group.fill.Goals as goal

pub returns-in-Some : goal.returns-in-Some
returns-in-Some g c = fill_at c.args.part c.args.row.now c.in-Some.free (sym c.first_free.ensures ∙ c.in-Some.is)

pub returns-in_default : goal.returns-in_default
returns-in_default g c = fill_none c.args.part c.args.row.now (sym c.first_free.ensures ∙ c.in_default.is)
