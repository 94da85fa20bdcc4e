use Rattle.std.proofs.Common.{ℕ, ◌≤◌, List, [], get_or, take, sym, ap, ◌∙◌, subst, arith}
use Rattle.machine.specs.Model.{model}
use Rattle.moves.specs.Changes.{with_zeroed}
use Rattle.machine.proofs.Rows.{take_reset, reset_past}
use Rattle.moves.proofs.engine.Engine.zero.Goals as goal

pub invariant_of-self : goal.invariant_of-self
invariant_of-self c =
    let e = c.args.self.now in
    let m = e.core in
    let n = m.sequence.draft.counts.clocks in
    let P : List ℕ → Type 0 = λ zs. (k : ℕ) → get_or zs k 0 ≤ m.now in
    let q = ap (take n) c.reset_all.ensures ∙ take_reset n m.now c.args.resets.now m.zeroed in (
      ((m.rows.0, omega (arith, c.reset_all.auto.zeroed, m.rows.1), m.rows.2, m.rows.3), tt),
      (
        e.time,
        (
          e.numbered,
          (subst P (sym q) (reset_past m.now c.args.resets.now (take n m.zeroed) e.past), tt),
        ),
      ),
    )

pub returns : goal.returns
returns c =
    let m = c.args.self.now.core in
    let n = m.sequence.draft.counts.clocks in
    ap (λ zs. with_zeroed zs (model [] m)) (ap (take n) c.reset_all.ensures ∙ take_reset n m.now c.args.resets.now m.zeroed)
