use Rattle.std.proofs.Common.{◌≡◌, ◌<◌, true, List, length, sym, subst, arith}
use Rattle.std.proofs.lemmas.Bool.{eqb-true}
use Rattle.parts.specs.declared.part.Variable.{Variable}
use Rattle.sequence.specs.Plan.{sound}
use Rattle.sequence.specs.Model.{plan_of}
use Rattle.sequence.proofs.Sound.{sound_facts, variable_added}
use Rattle.sequence.proofs.draft.Draft.add_variable.Goals as goal

pub invariant_of-self : goal.invariant_of-self
invariant_of-self c =
    let d = c.args.self.now in
    let p = plan_of d in
    let t : length p.tasks ≡ 0 = omega (arith, d.lists.tasks.ok.0, eqb-true _ _ (sym c.if-not-is_empty.ensures)) in
    let l : length p.locations ≡ 0 = omega (arith, d.lists.locations.ok.0, eqb-true _ _ (sym c.if-not-is_empty-2.ensures)) in
    let e : length p.edges ≡ 0 = omega (arith, d.lists.edges.ok.0, eqb-true _ _ (sym c.if-not-is_empty-3.ensures)) in
    let few : length p.variables < 16 = omega (arith, d.lists.variables.ok.0) in (
      ((omega (arith, c.push_reserved.ensures.capacity, d.lists.room.0), d.lists.room.1, d.lists.room.2, d.lists.room.3), tt),
      (
        subst (λ (vs : List Variable). sound (record { counts = p.counts; variables = vs; tasks = p.tasks; locations = p.locations; edges = p.edges }) ≡ true)
            (sym c.push_reserved.ensures.items) (variable_added p (sound_facts p d.valid) c.args.variable t l e few (sym c.if-not-fits.ensures)),
        tt,
      ),
    )
