use Rattle.std.proofs.Common.{ap, arith}
use Rattle.parts.specs.declared.part.Edge.{Edge}
use Rattle.parts.specs.declared.part.Rule.TheVariants.{BadEdge}
use Rattle.parts.specs.Limits.{condition_fits}
use Rattle.sequence.specs.Plan.{scope}
use Rattle.sequence.specs.Growing.{has_room, guarded}
use Rattle.sequence.specs.Model.{plan_of}
use Rattle.sequence.proofs.Sound.{sound_facts}
use Rattle.sequence.proofs.Growing.{edge_guarded}
use Rattle.sequence.proofs.Filling.{at_edges, plan_grows, grows_sound}
use Rattle.sequence.proofs.draft.Draft.add_condition.Goals as goal

pub invariant_of-self : goal.invariant_of-self
invariant_of-self c =
    let d = c.args.self.now in
    let p = plan_of d in
    let a = c.args.condition in (
      ((d.lists.room.0, d.lists.room.1, d.lists.room.2, omega (arith, c.grow_last.ensures.capacity, d.lists.room.3)), tt),
      (grows_sound (at_edges p) p.edges c.grow_last.new.list.items (λ (e : Edge). has_room 4 e.guard) (guarded a) BadEdge (condition_fits c.scope-scope.result a) (condition_fits (scope p) a) (ap (λ s. condition_fits s a) c.scope-scope.ensures) c.grow_last.result c.grow_last.ensures.grows d.valid (edge_guarded p (sound_facts p d.valid) a), tt),
    )

pub returns : goal.returns
returns c =
    let d = c.args.self.now in
    let p = plan_of d in
    let a = c.args.condition in
    plan_grows (at_edges p) p.edges c.grow_last.new.list.items (λ (e : Edge). has_room 4 e.guard) (guarded a) BadEdge (condition_fits c.scope-scope.result a) (condition_fits (scope p) a) (ap (λ s. condition_fits s a) c.scope-scope.ensures) c.grow_last.result c.grow_last.ensures.grows
