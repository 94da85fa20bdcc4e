use Rattle.std.proofs.Common.{◌≡◌, ◌+◌, true, false, [], rules, tests, ap, arith, length-take}
use Rattle.std.proofs.lemmas.Iterator.{first_from_Range}
use Rattle.runs.specs.Rules.{may_stay}
use Rattle.machine.specs.Model.{model}
use Rattle.moves.proofs.Behind.{stuck_of}
use Rattle.moves.proofs.engine.Engine.stuck.Goals as goal

pub returns : goal.returns
returns c =
    let m = c.args.self.now.core in
    let r = first_from_Range _ _ _ c.find.result (λ x. may_stay (model [] m) (m.now + 1) x ≡ false) (λ x. may_stay (model [] m) (m.now + 1) x ≡ true) c.find.ensures.ran (λ x q k. search (rules, tests)) (λ x q k. search (rules, tests)) in
    stuck_of (model [] m) c.counts.result.automata c.find.result (omega (arith, length-take m.sequence.draft.counts.automata m.places, ap (λ k. k.automata) c.counts.ensures)) r
