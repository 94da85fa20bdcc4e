use Rattle.std.proofs.Common.{sym}
use Rattle.std.proofs.lemmas.List.{set_past}
use Rattle.parts.proofs.set_item.Goals as goal

pub returns-else-place-row : goal.returns-else-place-row
returns-else-place-row g c = sym (set_past c.args.row.now c.args.place c.args.x c.if-place-row.false)
