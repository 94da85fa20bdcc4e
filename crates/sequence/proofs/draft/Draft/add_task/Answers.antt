use Rattle.std.proofs.Common.{◌≡◌, ◌<◌, true, List, length, sym, ap, ◌∙◌, subst, arith}
use Rattle.std.proofs.lemmas.Bool.{eqb-true}
use Rattle.parts.specs.declared.part.Task.{Task}
use Rattle.parts.specs.Limits.{task_fits}
use Rattle.sequence.specs.Plan.{sound, scope}
use Rattle.sequence.specs.Model.{plan_of}
use Rattle.sequence.proofs.Sound.{sound_facts, task_added}
use Rattle.sequence.proofs.Filling.{at_tasks}
use Rattle.sequence.proofs.draft.Draft.add_task.Goals as goal

pub invariant_of-self : goal.invariant_of-self
invariant_of-self c =
    let d = c.args.self.now in
    let p = plan_of d in
    let l : length p.locations ≡ 0 = omega (arith, d.lists.locations.ok.0, eqb-true _ _ (sym c.if-not-is_empty.ensures)) in
    let e : length p.edges ≡ 0 = omega (arith, d.lists.edges.ok.0, eqb-true _ _ (sym c.if-not-is_empty-2.ensures)) in
    let few : length p.tasks < 16 = omega (arith, d.lists.tasks.ok.0) in
    let fits : task_fits (scope p) c.args.task ≡ true = sym (ap (λ s. task_fits s c.args.task) c.scope.ensures) ∙ sym c.if-not-fits.ensures in (
      ((d.lists.room.0, omega (arith, c.push_reserved.ensures.capacity, d.lists.room.1), d.lists.room.2, d.lists.room.3), tt),
      (
        subst (λ (xs : List Task). sound (at_tasks p xs) ≡ true)
            (sym c.push_reserved.ensures.items) (task_added p (sound_facts p d.valid) c.args.task l e few fits),
        tt,
      ),
    )
