-- What releases do to the queue: numbers stay in their bound, and each job is one more.
use Rattle.std.proofs.Common.{◌≡◌, ℕ, zero, suc, ◌+◌, ◌<◌, ◌≤◌, Bool, true, cond, eqb, List, [], ◌∷◌, length, Some, None, Option, refl, ap, arith}
use Rattle.std.specs.List.{slice_get}
use Rattle.std.proofs.lemmas.Bool.{cond_both, cond-false, ne_eqb, and_parts, leb-true}
use Rattle.precedence.specs.Sorted.{put}
use Rattle.precedence.proofs.Putting.{length_put}
use Rattle.jobs.specs.declared.job.Job.{Job}
use Rattle.jobs.specs.declared.job.JobKey.{JobKey}
use Rattle.jobs.specs.Jobs.{job_before, released_job}
use Rattle.parts.specs.declared.part.Task.{Task}
use Rattle.parts.specs.declared.part.Edge.{Edge}
use Rattle.parts.specs.Limits.{task_fits}
use Rattle.sequence.specs.Plan.{Plan, scope, sound, each}
use Rattle.sequence.proofs.Sound.{sound_facts}
use Rattle.runs.specs.Jobs.{Queue, task_in, release_task, release_number, release_edges}
use Rattle.machine.specs.Spent.{spent}
use Rattle.moves.specs.Changes.{one_if, releases_of, releases_at, releases}

-- a task's cost is at least one tick
pub costs : (p : Plan) → sound p ≡ true → (i : ℕ) (t : Task) → slice_get p.tasks i ≡ Some t → 0 < t.cost
costs p s i t e = by p.tasks i (sound_facts p s).tasks e
  where
    by : (ts : List Task) (i : ℕ) → each (task_fits (scope p)) ts ≡ true → slice_get ts i ≡ Some t → 0 < t.cost
    by [] i h f = let x : ◌≡◌ {A = ℕ} 0 1 = cc in absurd (omega arith)
    by (u ∷ us) zero h f = let q : u ≡ t = cc in let a = and_parts _ _ h in let b = leb-true 1 u.cost (and_parts _ _ a.0).0 in omega (arith, ap (λ v. v.cost) q)
    by (u ∷ us) (suc i) h f = by us i (and_parts _ _ h).1 f

module _ (g : Job → Job → Bool) where
  spent_put : (j : Job) (xs : List Job) → spent (put g j xs) ≡ cond (eqb j.remaining 0) 1 0 + spent xs
  spent_put j [] = refl
  spent_put j (y ∷ ys) = cond_both (g j y) (j ∷ y ∷ ys) (y ∷ put g j ys) (λ zs. spent zs ≡ cond (eqb j.remaining 0) 1 0 + spent (y ∷ ys))
      (λ _. refl) (λ _. let e = spent_put j ys in omega arith)

  pub numbered_more : (next now : ℕ) (j : Job) (xs ys : List Job) → ys ≡ put g j xs → 0 < j.remaining → next + spent xs ≤ now + length xs → (next + 1) + spent ys ≤ now + length ys
  numbered_more next now j xs ys e h inv =
      let a = spent_put j xs in
      let b : ◌≡◌ {A = ℕ} (cond (eqb j.remaining 0) 1 0) 0 = cond-false (eqb j.remaining 0) 1 0 (ne_eqb j.remaining 0 (λ (z : j.remaining ≡ 0). omega arith)) in
      let c = length_put g j xs in
      omega (arith, ap spent e, ap length e)

module _ (g : JobKey → JobKey → Bool) (tick : ℕ) where
  task_length : (i : ℕ) (o : Option Task) (q : Queue) → length (release_task g tick i o q).jobs ≡ length q.jobs + one_if o
  task_length i None q = omega arith
  task_length i (Some t) q = length_put (job_before g) (released_job q.next i t.cost t.deadline t.priority tick) q.jobs

  number_length : (ts : List Task) (o : Option ℕ) (q : Queue) → length (release_number g ts tick o q).jobs ≡ length q.jobs + releases_of ts o
  number_length ts None q = omega arith
  number_length ts (Some i) q = task_length i (slice_get ts i) q

  -- as many jobs more as the step releases
  pub edges_length : (p : Plan) (ds : List Edge) (q : Queue) → length (release_edges g p tick ds q).jobs ≡ length q.jobs + releases p ds
  edges_length p [] q = omega arith
  edges_length p (d ∷ ds) q =
      let r = release_number g p.tasks tick (task_in (slice_get p.locations d.to)) q in
      omega (arith, edges_length p ds r, number_length p.tasks (task_in (slice_get p.locations d.to)) q)

  pub location_length : (p : Plan) (l : ℕ) (q : Queue) → length (release_number g p.tasks tick (task_in (slice_get p.locations l)) q).jobs ≡ length q.jobs + releases_at p l
  location_length p l q = number_length p.tasks (task_in (slice_get p.locations l)) q
