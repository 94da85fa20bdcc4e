-- A job goes on where it was.
use Rattle.std.proofs.Common.{◌≡◌, ℕ, zero, suc, ◌≤◌, Bool, List, [], ◌∷◌, Option, sym, refl, ap, ◌∙◌, subst, inl, inr, arith}
use Rattle.std.specs.List.{ContainsAt as Has, AllByRecursion}
use Rattle.std.proofs.ByRecursion.{All-weaker, all_has_itself}
use Rattle.std.proofs.lemmas.Bool.{cond_both}
use Rattle.precedence.specs.Sorted.{put}
use Rattle.jobs.specs.declared.job.Job.{Job}
use Rattle.jobs.specs.declared.job.JobKey.{JobKey}
use Rattle.jobs.specs.Jobs.{job_before, released_job, worked}
use Rattle.ready_queue.specs.Waiting.{serve_first}
use Rattle.parts.specs.declared.part.Edge.{Edge}
use Rattle.runs.specs.declared.event.Line.TheVariants as line
use Rattle.runs.specs.declared.event.Event.{Event}
use Rattle.runs.specs.declared.event.Event.TheVariants.{Made, Passed}
use Rattle.runs.specs.State.{State, start}
use Rattle.runs.specs.Jobs.{Queue, worker, release_edges}
use Rattle.runs.specs.Edges.{sides, released}
use Rattle.runs.specs.Rules.{Takes}
use Rattle.runs.specs.Runs.{Free}
use Rattle.runs.proofs.Choosing.{at_each}
use Rattle.service.specs.Jobs.{Origin, Fate, GoesOn, JobsGoOn}
use Rattle.service.proofs.Steps.{Kind, kind}
use Rattle.service.proofs.Releasing.{all_put, all_kept}

-- ---- membership

has_first : {X : Type 0} (x : X) (xs : List X) → Has (x ∷ xs) x
has_first x xs = (zero, omega arith, λ d. refl)

has_behind : {X : Type 0} (x y : X) (xs : List X) → Has xs y → Has (x ∷ xs) y
has_behind x y xs h = (suc h.0, omega (arith, h.1), h.2)

has_put : {X : Type 0} (g : X → X → Bool) (x y : X) (ys : List X) → Has ys y → Has (put g x ys) y
has_put g x y [] h = absurd (omega (arith, h.1))
has_put g x y (z ∷ zs) (zero, l, e) = cond_both (g x z) _ _ (λ l. Has l y) (λ _. has_behind x y (z ∷ zs) (zero, l, e)) (λ _. (zero, omega arith, e))
has_put g x y (z ∷ zs) (suc k, l, e) = cond_both (g x z) _ _ (λ l. Has l y) (λ _. has_behind x y (z ∷ zs) (suc k, l, e)) (λ _. has_behind z y (put g x zs) (has_put g x y zs (k, omega arith, e)))

has_all : {X : Type 0} (xs : List X) → AllByRecursion (Has xs) xs
has_all xs = all_has_itself xs

has_tail : {X : Type 0} (x : X) (xs : List X) → AllByRecursion (Has (x ∷ xs)) xs
has_tail x xs = All-weaker (Has xs) (Has (x ∷ xs)) (λ y h. has_behind x y xs h) xs (has_all xs)

-- ---- by the kind of event

same_jobs : (e : Event) (s t : State) → t.waiting ≡ s.waiting → GoesOn e s t
same_jobs e s t w = record {
  from = subst (AllByRecursion (Origin e s)) (sym w) (All-weaker (Has s.waiting) (Origin e s) (λ j h. inl h) s.waiting (has_all s.waiting));
  to = All-weaker (Has s.waiting) (Fate e t) (λ j h. inl (subst (λ l. Has l j) (sym w) h)) s.waiting (has_all s.waiting);
}

record Grows (e : Event) (s : State) (q : Queue) : Type 0 where
  up : s.next ≤ q.next
  from : AllByRecursion (Origin e s) q.jobs
  to : AllByRecursion (Has q.jobs) s.waiting

taken_grows : (g : JobKey → JobKey → Bool) (e : Event) (s : State) (n : ℕ) (q : Option ℕ) → e ≡ Made (line.Edge s.now n q) → (ds : List Edge) (u : Queue) → Grows e s u → Grows e s (release_edges g s.plan s.now ds u)
taken_grows g e s n q l = all_kept g s.plan s.now (Grows e s) (λ i t u f h.
    let j = released_job u.next i t.cost t.deadline t.priority s.now in
    record {
      up = omega (arith, h.up);
      from = all_put (job_before g) (Origin e s) j u.jobs (inr (inr (record { tick = s.now; number = n; partner = q; line_is = l; released_then = refl; new = h.up; terms = t; of_task = f; cost = refl; deadline = refl; priority = refl; whole = refl; fresh = refl }))) h.from;
      to = All-weaker (Has u.jobs) (Has (put (job_before g) j u.jobs)) (λ k m. has_put (job_before g) j k u.jobs m) s.waiting h.to;
    })

take_goes : (g : JobKey → JobKey → Bool) (k n : ℕ) (q : Option ℕ) (e : Event) (s t : State) → e ≡ Made (line.Edge k n q) → Takes g k n q s t → GoesOn e s t
take_goes g k n q e s t l h =
    let ds = sides h.tries.edge h.tries.mate in
    let r : Grows e s (released g ds s) = taken_grows g e s n q (l ∙ ap (λ i. Made (line.Edge i n q)) h.tries.this_tick) ds (record { next = s.next; jobs = s.waiting })
    (record { up = omega arith; from = All-weaker (Has s.waiting) (Origin e s) (λ j m. inl m) s.waiting (has_all s.waiting); to = has_all s.waiting }) in
    record {
      from = subst (λ (u : State). AllByRecursion (Origin e s) u.waiting) (sym h.after) r.from;
      to = All-weaker (Has (released g ds s).jobs) (Fate e t) (λ j m. inl (subst (λ (u : State). Has u.waiting j) (sym h.after) m)) s.waiting r.to;
    }

done_goes : (e : Event) (s t : State) (j : Job) (js : List Job) (k i : ℕ) → s.waiting ≡ j ∷ js → t.waiting ≡ js → e ≡ Made (line.Done k i j.number) → GoesOn e s t
done_goes e s t j js k i w v l = record {
  from = subst (AllByRecursion (Origin e s)) (sym v) (All-weaker (Has (j ∷ js)) (Origin e s) (λ x h. inl (subst (λ (ws : List Job). Has ws x) (sym w) h)) js (has_tail j js));
  to = subst (AllByRecursion (Fate e t)) (sym w) (inr (inr (k, i, l)), All-weaker (Has js) (Fate e t) (λ x h. inl (subst (λ (ws : List Job). Has ws x) (sym v) h)) js (has_all js));
}

pass_goes : (e : Event) (s t : State) (js : List Job) → s.waiting ≡ js → t.waiting ≡ serve_first js → e ≡ Passed (worker js) → GoesOn e s t
pass_goes e s t [] w v l = same_jobs e s t (v ∙ sym w)
pass_goes e s t (j ∷ js) w v l = record {
  from = subst (AllByRecursion (Origin e s)) (sym v) (inr (inl (j, subst (λ (ws : List Job). Has ws j) (sym w) (has_first j js), _, l, refl, refl, record { number = refl; task = refl; cost = refl; deadline = refl; priority = refl; release = refl })), All-weaker (Has (j ∷ js)) (Origin e s) (λ x h. inl (subst (λ (ws : List Job). Has ws x) (sym w) h)) js (has_tail j js));
  to = subst (AllByRecursion (Fate e t)) (sym w) (inr (inl (subst (λ (ws : List Job). Has ws (worked j)) (sym v) (has_first (worked j) js))), All-weaker (Has (worked j ∷ js)) (Fate e t) (λ x h. inl (subst (λ (ws : List Job). Has ws x) (sym v) h)) js (has_tail (worked j) js));
}

goes : (g : JobKey → JobKey → Bool) (e : Event) (s t : State) → Kind g e s t → GoesOn e s t
goes g e s t (inl h) = same_jobs e s t h.waiting
goes g e s t (inr (inl (p, l, h))) = same_jobs e s t (ap (λ u. u.waiting) h.after)
goes g e s t (inr (inr (inl (k, n, q, l, h)))) = take_goes g k n q e s t l h
goes g e s t (inr (inr (inr (inl (k, i, n, l, h))))) = done_goes e s t h.done.job h.done.rest k i h.done.waits (ap (λ u. u.waiting) h.after) (l ∙ ap (λ m. Made (line.Done k i m)) h.done.named)
goes g e s t (inr (inr (inr (inr (w, l, h))))) = pass_goes e s t s.waiting refl (ap (λ u. u.waiting) h.after) (l ∙ ap Passed h.works)

pub jobs_go_on : JobsGoOn
jobs_go_on g p ts es t r = at_each (Free g) GoesOn (λ e s u h. goes g e s u (kind g e s u h)) (start p ts) es t r
