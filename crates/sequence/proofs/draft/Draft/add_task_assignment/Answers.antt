use Rattle.std.proofs.Common.{◌≡◌, length, sym, ap, arith}
use Rattle.std.proofs.lemmas.Bool.{and_from, cond-true, eqb-true}
use Rattle.parts.specs.declared.part.Task.{Task}
use Rattle.parts.specs.declared.part.Rule.TheVariants.{BadTask}
use Rattle.parts.specs.Limits.{assignment_fits}
use Rattle.sequence.specs.Plan.{scope}
use Rattle.sequence.specs.Growing.{has_room, assigning_task}
use Rattle.sequence.specs.Model.{plan_of}
use Rattle.sequence.proofs.Sound.{sound_facts}
use Rattle.sequence.proofs.Growing.{task_assigns}
use Rattle.sequence.proofs.Filling.{adds_is, none_there, at_tasks, plan_grows, grows_sound}
use Rattle.sequence.proofs.draft.Draft.add_task_assignment.Goals as goal

pub invariant_of-self : goal.invariant_of-self
invariant_of-self c =
    let d = c.args.self.now in
    let p = plan_of d in
    let a = c.args.assignment in (
      ((d.lists.room.0, omega (arith, c.grow_last.ensures.capacity, d.lists.room.1), d.lists.room.2, d.lists.room.3), tt),
      (grows_sound (at_tasks p) p.tasks c.grow_last.new.list.items (λ (t : Task). has_room 4 t.assignments) (assigning_task a) BadTask (assignment_fits c.scope-scope.result a) (assignment_fits (scope p) a) (ap (λ s. assignment_fits s a) c.scope-scope.ensures) c.grow_last.result c.grow_last.ensures.grows d.valid (task_assigns p (sound_facts p d.valid) a), tt),
    )

pub returns : goal.returns
returns c =
    let d = c.args.self.now in
    let p = plan_of d in
    let a = c.args.assignment in
    let l : length p.locations ≡ 0 = omega (arith, d.lists.locations.ok.0, eqb-true _ _ (sym c.if-not-is_empty.ensures)) in
    let e : length p.edges ≡ 0 = omega (arith, d.lists.edges.ok.0, eqb-true _ _ (sym c.if-not-is_empty-2.ensures)) in
    adds_is _ _ _ _ _ (cond-true _ _ _ (and_from _ _ (none_there p.locations l) (none_there p.edges e)))
    (plan_grows (at_tasks p) p.tasks c.grow_last.new.list.items (λ (t : Task). has_room 4 t.assignments) (assigning_task a) BadTask (assignment_fits c.scope-scope.result a) (assignment_fits (scope p) a) (ap (λ s. assignment_fits s a) c.scope-scope.ensures) c.grow_last.result c.grow_last.ensures.grows)
