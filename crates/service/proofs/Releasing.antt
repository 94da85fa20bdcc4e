-- What releases keep.
use Rattle.std.proofs.Common.{◌≡◌, ℕ, Bool, List, [], ◌∷◌, Some, None, Option, refl}
use Rattle.std.specs.List.{slice_get, AllByRecursion}
use Rattle.std.proofs.lemmas.Bool.{cond_both}
use Rattle.precedence.specs.Sorted.{put}
use Rattle.jobs.specs.declared.job.JobKey.{JobKey}
use Rattle.parts.specs.declared.part.Task.{Task}
use Rattle.parts.specs.declared.part.Edge.{Edge}
use Rattle.sequence.specs.Plan.{Plan}
use Rattle.runs.specs.Jobs.{Queue, task_in, release_task, release_number, release_edges}

pub all_put : {X : Type 0} (g : X → X → Bool) (P : X → Type 0) (x : X) (ys : List X) → P x → AllByRecursion P ys → AllByRecursion P (put g x ys)
all_put g P x [] h a = (h, tt)
all_put g P x (y ∷ ys) h a = cond_both (g x y) _ _ (AllByRecursion P) (λ _. (h, a)) (λ _. (a.0, all_put g P x ys h a.1))

-- what one release keeps, all keep
module _ (g : JobKey → JobKey → Bool) (p : Plan) (tick : ℕ) (P : Queue → Type 0) (more : (i : ℕ) (t : Task) (q : Queue) → slice_get p.tasks i ≡ Some t → P q → P (release_task g tick i (Some t) q)) where
  one_kept : (i : ℕ) (o : Option Task) (q : Queue) → slice_get p.tasks i ≡ o → P q → P (release_task g tick i o q)
  one_kept i None q e h = h
  one_kept i (Some t) q e h = more i t q e h

  number_kept : (o : Option ℕ) (q : Queue) → P q → P (release_number g p.tasks tick o q)
  number_kept None q h = h
  number_kept (Some i) q h = one_kept i (slice_get p.tasks i) q refl h

  pub all_kept : (ds : List Edge) (q : Queue) → P q → P (release_edges g p tick ds q)
  all_kept [] q h = h
  all_kept (d ∷ ds) q h = all_kept ds _ (number_kept (task_in (slice_get p.locations d.to)) q h)
