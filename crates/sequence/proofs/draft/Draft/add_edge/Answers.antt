use Rattle.std.proofs.Common.{◌≡◌, ◌<◌, true, List, length, Ok, sym, ap, ◌∙◌, subst, arith}
use Rattle.std.proofs.lemmas.Bool.{cond-true, lt-ltb}
use Rattle.parts.specs.declared.part.Edge.{Edge}
use Rattle.parts.specs.Limits.{edge_fits}
use Rattle.sequence.specs.Plan.{sound, scope}
use Rattle.sequence.specs.Model.{plan_of}
use Rattle.sequence.proofs.Sound.{sound_facts, edge_added}
use Rattle.sequence.proofs.Filling.{at_edges}
use Rattle.sequence.proofs.draft.Draft.add_edge.Goals as goal

pub invariant_of-self : goal.invariant_of-self
invariant_of-self c =
    let d = c.args.self.now in
    let p = plan_of d in
    let few : length p.edges < 128 = omega (arith, d.lists.edges.ok.0) in
    let fits : edge_fits (scope p) c.args.edge ≡ true = sym (ap (λ s. edge_fits s c.args.edge) c.scope.ensures) ∙ sym c.if-not-fits.ensures in (
      ((d.lists.room.0, d.lists.room.1, d.lists.room.2, omega (arith, c.push_reserved.ensures.capacity, d.lists.room.3)), tt),
      (subst (λ (xs : List Edge). sound (at_edges p xs) ≡ true) (sym c.push_reserved.ensures.items) (edge_added p (sound_facts p d.valid) c.args.edge few fits (sym c.if-not-ends_fit.ensures)), tt),
    )

pub returns : goal.returns
returns c =
    let d = c.args.self.now in
    let p = plan_of d in
    let few : length p.edges < 128 = omega (arith, d.lists.edges.ok.0) in
    let fits : edge_fits (scope p) c.args.edge ≡ true = sym (ap (λ s. edge_fits s c.args.edge) c.scope.ensures) ∙ sym c.if-not-fits.ensures in
    cond-true _ _ _ (lt-ltb _ _ few) ∙ (cond-true _ _ _ fits ∙ (cond-true _ _ _ (sym c.if-not-ends_fit.ensures) ∙ ap (λ (xs : List Edge). Ok (at_edges p xs)) (sym c.push_reserved.ensures.items)))
