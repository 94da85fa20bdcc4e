use Rattle.std.proofs.Common.{◌≡◌, length, sym, ap, arith}
use Rattle.std.proofs.lemmas.Bool.{cond-true, eqb-true}
use Rattle.parts.specs.declared.part.Location.{Location}
use Rattle.parts.specs.declared.part.Rule.TheVariants.{BadLocation}
use Rattle.parts.specs.Limits.{invariant_fits}
use Rattle.sequence.specs.Plan.{scope}
use Rattle.sequence.specs.Growing.{has_room, limited}
use Rattle.sequence.specs.Model.{plan_of}
use Rattle.sequence.proofs.Sound.{sound_facts}
use Rattle.sequence.proofs.Growing.{location_limited}
use Rattle.sequence.proofs.Filling.{adds_is, none_there, at_locations, plan_grows, grows_sound}
use Rattle.sequence.proofs.draft.Draft.add_invariant.Goals as goal

pub invariant_of-self : goal.invariant_of-self
invariant_of-self c =
    let d = c.args.self.now in
    let p = plan_of d in
    let a = c.args.invariant in (
      ((d.lists.room.0, d.lists.room.1, omega (arith, c.grow_last.ensures.capacity, d.lists.room.2), d.lists.room.3), tt),
      (grows_sound (at_locations p) p.locations c.grow_last.new.list.items (λ (l : Location). has_room 2 l.invariants) (limited a) BadLocation (invariant_fits c.scope-scope.result a) (invariant_fits (scope p) a) (ap (λ s. invariant_fits s a) c.scope-scope.ensures) c.grow_last.result c.grow_last.ensures.grows d.valid (location_limited p (sound_facts p d.valid) a), tt),
    )

pub returns : goal.returns
returns c =
    let d = c.args.self.now in
    let p = plan_of d in
    let a = c.args.invariant in
    let e : length p.edges ≡ 0 = omega (arith, d.lists.edges.ok.0, eqb-true _ _ (sym c.if-not-is_empty.ensures)) in
    adds_is _ _ _ _ _ (cond-true _ _ _ (none_there p.edges e))
    (plan_grows (at_locations p) p.locations c.grow_last.new.list.items (λ (l : Location). has_room 2 l.invariants) (limited a) BadLocation (invariant_fits c.scope-scope.result a) (invariant_fits (scope p) a) (ap (λ s. invariant_fits s a) c.scope-scope.ensures) c.grow_last.result c.grow_last.ensures.grows)
