-- The waiting list is in order at every point, so the first job is the one that no other goes before.
use Rattle.std.proofs.Common.{ℕ, Bool, List, [], ◌∷◌, ◌++◌, Option, sym, refl, subst, inl, inr}
use Rattle.std.specs.List.{slice_get}
use Rattle.std.proofs.lemmas.Bool.{and_parts}
use Rattle.precedence.specs.Laws.{WeakOrder}
use Rattle.precedence.specs.Sorted.{InOrder}
use Rattle.precedence.proofs.Order.{by_key_lawful}
use Rattle.precedence.proofs.Putting.{put_in_order}
use Rattle.jobs.specs.declared.job.Job.{Job}
use Rattle.jobs.specs.declared.job.JobKey.{JobKey}
use Rattle.jobs.specs.Jobs.{key_of, job_before}
use Rattle.jobs.specs.Laws.{JobOrder}
use Rattle.ready_queue.specs.Waiting.{serve_first}
use Rattle.ready_queue.proofs.Lists.{leads, serves}
use Rattle.parts.specs.declared.part.Edge.{Edge}
use Rattle.sequence.specs.Plan.{Plan}
use Rattle.runs.specs.declared.event.Worker.{Worker}
use Rattle.runs.specs.declared.event.Event.{Event}
use Rattle.runs.specs.declared.event.Event.TheVariants.{Made, Came, Left, Passed}
use Rattle.runs.specs.State.{State, start}
use Rattle.runs.specs.Jobs.{Queue, worker, release_edges}
use Rattle.runs.specs.Edges.{sides}
use Rattle.runs.specs.Runs.{Free}
use Rattle.service.specs.Work.{Works, ServesIn, TheRightJobWorks}
use Rattle.service.proofs.Steps.{Kind, kind, along, each_along}
use Rattle.service.proofs.Releasing.{all_kept}
use Rattle.service.proofs.Numbering.{Counted, counted_kept, counted_start}

module _ (g : JobKey → JobKey → Bool) (w : WeakOrder g) (o : JobOrder g) where
  record Tidy (es : List Event) (s : State) : Type 0 where
    counted : Counted es s
    ordered : InOrder (job_before g) s.waiting

  ordered_released : (p : Plan) (tick : ℕ) (ds : List Edge) (q : Queue) → InOrder (job_before g) q.jobs → InOrder (job_before g) (release_edges g p tick ds q).jobs
  ordered_released p tick = all_kept g p tick (λ q. InOrder (job_before g) q.jobs) (λ i t q e h. put_in_order (job_before g) _ (by_key_lawful key_of g w) q.jobs h)

  ordered_kept : (e : Event) (s t : State) (es : List Event) → Tidy es s → Kind g e s t → InOrder (job_before g) t.waiting
  ordered_kept e s t es i (inl h) = subst (InOrder (job_before g)) (sym h.waiting) i.ordered
  ordered_kept e s t es i (inr (inl (p, q, h))) = subst (λ u. InOrder (job_before g) u.waiting) (sym h.after) i.ordered
  ordered_kept e s t es i (inr (inr (inl (k, n, q, l, h)))) = subst (λ u. InOrder (job_before g) u.waiting) (sym h.after) (ordered_released s.plan s.now (sides h.tries.edge h.tries.mate) (record { next = s.next; jobs = s.waiting }) i.ordered)
  ordered_kept e s t es i (inr (inr (inr (inl (k, j, n, l, h))))) = subst (λ u. InOrder (job_before g) u.waiting) (sym h.after) (and_parts _ _ (subst (InOrder (job_before g)) h.done.waits i.ordered)).1
  ordered_kept e s t es i (inr (inr (inr (inr (v, l, h))))) =
      subst (λ u. InOrder (job_before g) u.waiting) (sym h.after)
      ((serves s.waiting (serve_first s.waiting) (slice_get s.waiting 0) refl refl).2 g w o i.counted.numbered.apart i.ordered)

  tidy_kept : (es : List Event) (e : Event) (s t : State) → Tidy es s → Free g e s t → Tidy (es ++ e ∷ []) t
  tidy_kept es e s t i h = record { counted = counted_kept g es e s t i.counted h; ordered = ordered_kept e s t es i (kind g e s t h) }

  first_works : (js : List Job) → InOrder (job_before g) js → Works g (worker js) js (serve_first js)
  first_works [] s = (refl, refl)
  first_works (j ∷ js) s = record { front = []; job = j; back = js; number = refl; task = refl; waits = refl; foremost = leads (j ∷ js) g w s; works = refl }

  serves_in : (es : List Event) (e : Event) (s t : State) → Tidy es s → Free g e s t → ServesIn g e s t
  serves_in es (Made l) s t i h = tt
  serves_in es (Came x) s t i h = tt
  serves_in es (Left p) s t i h = tt
  serves_in es (Passed v) s t i h =
      subst (λ (u : Option Worker). Works g u s.waiting t.waiting) (sym h.does.works)
      (subst (λ (u : State). Works g (worker s.waiting) s.waiting u.waiting) (sym h.does.after) (first_works s.waiting i.ordered))

pub the_right_job_works : TheRightJobWorks
the_right_job_works g w o p ts es t r =
    let begin : Tidy g w o [] (start p ts) = record { counted = counted_start g p ts; ordered = refl } in (
      each_along g (Tidy g w o) (tidy_kept g w o) (ServesIn g) (serves_in g w o) [] es (start p ts) t begin r,
      (along g (Tidy g w o) (tidy_kept g w o) [] es (start p ts) t begin r).ordered,
    )
