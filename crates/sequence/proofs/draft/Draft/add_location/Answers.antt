use Rattle.std.proofs.Common.{◌≡◌, ◌<◌, true, List, length, sym, ap, ◌∙◌, subst, arith}
use Rattle.std.proofs.lemmas.Bool.{eqb-true}
use Rattle.parts.specs.declared.part.Location.{Location}
use Rattle.parts.specs.Limits.{location_fits}
use Rattle.sequence.specs.Plan.{sound, scope}
use Rattle.sequence.specs.Model.{plan_of}
use Rattle.sequence.proofs.Sound.{sound_facts, location_added}
use Rattle.sequence.proofs.Filling.{at_locations}
use Rattle.sequence.proofs.draft.Draft.add_location.Goals as goal

pub invariant_of-self : goal.invariant_of-self
invariant_of-self c =
    let d = c.args.self.now in
    let p = plan_of d in
    let e : length p.edges ≡ 0 = omega (arith, d.lists.edges.ok.0, eqb-true _ _ (sym c.if-not-is_empty.ensures)) in
    let few : length p.locations < 64 = omega (arith, d.lists.locations.ok.0) in
    let fits : location_fits (scope p) c.args.location ≡ true = sym (ap (λ s. location_fits s c.args.location) c.scope.ensures) ∙ sym c.if-not-fits.ensures in (
      ((d.lists.room.0, d.lists.room.1, omega (arith, c.push_reserved.ensures.capacity, d.lists.room.2), d.lists.room.3), tt),
      (
        subst (λ (xs : List Location). sound (at_locations p xs) ≡ true)
            (sym c.push_reserved.ensures.items) (location_added p (sound_facts p d.valid) c.args.location e few fits (sym c.if-not-is_next.ensures)),
        tt,
      ),
    )
