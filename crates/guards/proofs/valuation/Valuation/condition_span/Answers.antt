use Rattle.std.proofs.Common.{sym, ◌∙◌, arith}
use Rattle.parts.specs.Limits.{last_tick}
use Rattle.guards.proofs.Spans.{stays}
use Rattle.guards.proofs.valuation.Valuation.condition_span.Goals as goal

pub returns-in-Difference : goal.returns-in-Difference
returns-in-Difference c from z t l h = stays c.args.self.zeroed.now c.args.self.values.now t last_tick (λ k. omega (arith, z k)) h c.args.condition.now c.in-Difference.is ∙ (sym c.condition_holds.ensures ∙ c.all_or_none.ensures t (omega arith) h)
