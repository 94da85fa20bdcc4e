-- Job numbers: given in turn, never twice, and worked only while they wait.
use Rattle.std.proofs.Common.{◌≡◌, ℕ, ◌+◌, ◌<◌, ◌≤◌, Bool, List, [], ◌∷◌, ◌++◌, sym, refl, ap, ◌∙◌, subst, inl, inr, arith}
use Rattle.std.specs.List.{AllByRecursion}
use Rattle.std.proofs.ByRecursion.{All-weaker}
use Rattle.std.proofs.lemmas.Bool.{ne_eqb}
use Rattle.jobs.specs.declared.job.Job.{Job}
use Rattle.jobs.specs.declared.job.JobKey.{JobKey}
use Rattle.jobs.specs.Jobs.{job_before, released_job}
use Rattle.ready_queue.specs.Waiting.{serve_first, NewNumber, NumbersApart}
use Rattle.ready_queue.proofs.Lists.{apart_put}
use Rattle.sources.specs.declared.trigger.Trigger.{Trigger}
use Rattle.parts.specs.declared.part.Edge.{Edge}
use Rattle.sequence.specs.Plan.{Plan}
use Rattle.runs.specs.declared.event.Event.{Event}
use Rattle.runs.specs.State.{State, start}
use Rattle.runs.specs.Jobs.{Queue, worker, release_edges}
use Rattle.runs.specs.Edges.{sides}
use Rattle.runs.specs.Rules.{Finishes}
use Rattle.runs.specs.Runs.{Free, Run}
use Rattle.runs.specs.Laws.{count_if}
use Rattle.service.specs.Work.{names, works_in, ticks_worked, WorksOnlyBetween}
use Rattle.service.proofs.Steps.{Kind, kind, along, worked_more}
use Rattle.service.proofs.Releasing.{all_put, all_kept}

abbrev pub Below : ℕ → Job → Type 0
Below n j = j.number < n

abbrev queue : State → Queue
queue s = record { next = s.next; jobs = s.waiting }

-- numbers differ, and are below the next one
pub record Numbered (q : Queue) : Type 0 where
  pub apart : NumbersApart q.jobs
  pub given : AllByRecursion (Below q.next) q.jobs

pub record Counted (es : List Event) (s : State) : Type 0 where
  pub numbered : Numbered (queue s)
  -- a number that is not given yet has not worked
  pub unused : (n : ℕ) → s.next ≤ n → ticks_worked n es ≡ 0

new_number : (n : ℕ) (j : Job) (js : List Job) → j.number ≡ n → AllByRecursion (Below n) js → NewNumber j js
new_number n j js e h = All-weaker (Below n) (λ k. k.number ≡ j.number → ⊥) (λ k l f. omega arith) js h

pub numbered_released : (g : JobKey → JobKey → Bool) (p : Plan) (tick : ℕ) (ds : List Edge) (q : Queue) → Numbered q → Numbered (release_edges g p tick ds q)
numbered_released g p tick = all_kept g p tick Numbered (λ i t q e h.
    let j = released_job q.next i t.cost t.deadline t.priority tick in
    record {
      apart = apart_put (job_before g) j q.jobs (new_number q.next j q.jobs refl h.given) h.apart;
      given = all_put (job_before g) (Below (q.next + 1)) j q.jobs (omega arith) (All-weaker (Below q.next) (Below (q.next + 1)) (λ k l. omega arith) q.jobs h.given);
    })

pub next_up : (g : JobKey → JobKey → Bool) (p : Plan) (tick : ℕ) (n : ℕ) (ds : List Edge) (q : Queue) → n ≤ q.next → n ≤ (release_edges g p tick ds q).next
next_up g p tick n = all_kept g p tick (λ q. n ≤ q.next) (λ i t q e h. omega arith)

numbered_served : (n : ℕ) (js : List Job) → Numbered (record { next = n; jobs = js }) → Numbered (record { next = n; jobs = serve_first js })
numbered_served n [] h = h
numbered_served n (j ∷ js) h = record { apart = h.apart; given = h.given }

-- a job that works is one of those that wait
named_below : (n m : ℕ) (js : List Job) → AllByRecursion (Below n) js → n ≤ m → count_if (names (worker js) m) ≡ 0
named_below n m [] h l = refl
named_below n m (j ∷ js) h l = ap count_if (ne_eqb j.number m (λ e. omega (arith, h.0)))

module _ (g : JobKey → JobKey → Bool) where
  -- the same jobs and no work: nothing to show anew
  unused_still : (es : List Event) (e : Event) (s t : State) → ((n : ℕ) → works_in n e ≡ 0) → s.next ≤ t.next → Counted es s → (n : ℕ) → t.next ≤ n → ticks_worked n (es ++ e ∷ []) ≡ 0
  unused_still es e s t i l o n h = omega (arith, worked_more n es e, i n, o.unused n (omega arith))

  kept : (es : List Event) (e : Event) (s t : State) → Counted es s → Kind g e s t → Counted (es ++ e ∷ []) t
  kept es e s t o (inl h) = record {
    numbered = subst Numbered (let a = h.next in let b = h.waiting in cc) o.numbered;
    unused = unused_still es e s t h.idle (omega (arith, h.next)) o;
  }
  kept es e s t o (inr (inl (p, q, h))) = record {
    numbered = subst (λ u. Numbered (queue u)) (sym h.after) o.numbered;
    unused = unused_still es e s t (λ n. ap (works_in n) q) (omega (arith, ap (λ u. u.next) h.after)) o;
  }
  kept es e s t o (inr (inr (inl (k, n, q, l, h)))) =
      let ds = sides h.tries.edge h.tries.mate in
      record {
        numbered = subst (λ u. Numbered (queue u)) (sym h.after) (numbered_released g s.plan s.now ds (queue s) o.numbered);
        unused = unused_still es e s t (λ m. ap (works_in m) l) (omega (arith, ap (λ u. u.next) h.after, next_up g s.plan s.now s.next ds (queue s) (omega arith))) o;
      }
  kept es e s t o (inr (inr (inr (inl (k, i, n, l, h))))) =
      let d : Numbered (record { next = s.next; jobs = h.done.job ∷ h.done.rest }) = subst (λ js. Numbered (record { next = s.next; jobs = js })) h.done.waits o.numbered in
      record {
        numbered = subst (λ u. Numbered (queue u)) (sym h.after) (record { apart = d.apart.1; given = d.given.1 });
        unused = unused_still es e s t (λ m. ap (works_in m) l) (omega (arith, ap (λ u. u.next) h.after)) o;
      }
  kept es e s t o (inr (inr (inr (inr (w, l, h))))) = record {
    numbered = subst (λ u. Numbered (queue u)) (sym h.after) (numbered_served s.next s.waiting o.numbered);
    unused = λ n a.
        let b : s.next ≤ n = omega (arith, ap (λ u. u.next) h.after) in
        let c : works_in n e ≡ 0 = ap (works_in n) l ∙ (ap (λ v. count_if (names v n)) h.works ∙ named_below s.next n s.waiting o.numbered.given b) in
        omega (arith, worked_more n es e, c, o.unused n b);
  }

  pub counted_kept : (es : List Event) (e : Event) (s t : State) → Counted es s → Free g e s t → Counted (es ++ e ∷ []) t
  counted_kept es e s t o h = kept es e s t o (kind g e s t h)

  pub counted_start : (p : Plan) (ts : List Trigger) → Counted [] (start p ts)
  counted_start p ts = record { numbered = record { apart = tt; given = tt }; unused = λ n h. refl }

  -- ---- a number that is given and not waiting never works again

  pub record Gone (n : ℕ) (s : State) : Type 0 where
    pub was_given : n < s.next
    pub absent : AllByRecursion (λ j. j.number ≡ n → ⊥) s.waiting

  gone_served : (n : ℕ) (js : List Job) → AllByRecursion (λ j. j.number ≡ n → ⊥) js → AllByRecursion (λ j. j.number ≡ n → ⊥) (serve_first js)
  gone_served n [] h = h
  gone_served n (j ∷ js) h = h

  gone_released : (n : ℕ) (p : Plan) (tick : ℕ) (ds : List Edge) (q : Queue) → (n < q.next) × AllByRecursion (λ j. j.number ≡ n → ⊥) q.jobs → (n < (release_edges g p tick ds q).next) × AllByRecursion (λ j. j.number ≡ n → ⊥) (release_edges g p tick ds q).jobs
  gone_released n p tick = all_kept g p tick (λ q. (n < q.next) × AllByRecursion (λ j. j.number ≡ n → ⊥) q.jobs) (λ i t q e h.
      (omega (arith, h.0), all_put (job_before g) (λ j. j.number ≡ n → ⊥) _ q.jobs (λ f. omega (arith, h.0)) h.1))

  unnamed : (n : ℕ) (js : List Job) → AllByRecursion (λ j. j.number ≡ n → ⊥) js → count_if (names (worker js) n) ≡ 0
  unnamed n [] h = refl
  unnamed n (j ∷ js) h = ap count_if (ne_eqb j.number n h.0)

  gone_kept : (n : ℕ) (e : Event) (s t : State) → Gone n s → Kind g e s t → Gone n t × (works_in n e ≡ 0)
  gone_kept n e s t o (inl h) = (record { was_given = omega (arith, h.next, o.was_given); absent = subst (AllByRecursion (λ j. j.number ≡ n → ⊥)) (sym h.waiting) o.absent }, h.idle n)
  gone_kept n e s t o (inr (inl (p, q, h))) = (subst (Gone n) (sym h.after) (record { was_given = o.was_given; absent = o.absent }), ap (works_in n) q)
  gone_kept n e s t o (inr (inr (inl (k, m, q, l, h)))) =
      let r = gone_released n s.plan s.now (sides h.tries.edge h.tries.mate) (queue s) (o.was_given, o.absent) in
      (subst (Gone n) (sym h.after) (record { was_given = r.0; absent = r.1 }), ap (works_in n) l)
  gone_kept n e s t o (inr (inr (inr (inl (k, i, m, l, h))))) =
      (subst (Gone n) (sym h.after) (record { was_given = o.was_given; absent = (subst (AllByRecursion (λ j. j.number ≡ n → ⊥)) h.done.waits o.absent).1 }), ap (works_in n) l)
  gone_kept n e s t o (inr (inr (inr (inr (w, l, h))))) = (
    subst (Gone n) (sym h.after) (record { was_given = o.was_given; absent = gone_served n s.waiting o.absent }),
    ap (works_in n) l ∙ (ap (λ v. count_if (names v n)) h.works ∙ unnamed n s.waiting o.absent),
  )

  gone_for_good : (n : ℕ) (es : List Event) (s t : State) → Gone n s → Run (Free g) s es t → ticks_worked n es ≡ 0
  gone_for_good n [] s t o r = refl
  gone_for_good n (e ∷ es) s t o r =
      let k = gone_kept n e s r.0 o (kind g e s r.0 r.1) in
      omega (arith, k.1, gone_for_good n es r.0 t k.0 r.2)

  done_gone : (es : List Event) (tick task n : ℕ) (s t : State) → Counted es s → Finishes tick task n s t → Gone n t
  done_gone es tick task n s t o h =
      let d : Numbered (record { next = s.next; jobs = h.done.job ∷ h.done.rest }) = subst (λ js. Numbered (record { next = s.next; jobs = js })) h.done.waits o.numbered in
      subst (Gone n) (sym h.after) (record {
        was_given = omega (arith, h.done.named, d.given.0);
        absent = All-weaker (λ k. k.number ≡ h.done.job.number → ⊥) (λ k. k.number ≡ n → ⊥) (λ k f e. f (e ∙ h.done.named)) h.done.rest d.apart.0;
      })

pub works_only_between : WorksOnlyBetween
works_only_between g p ts es s r =
    let o : Counted es s = along g Counted (counted_kept g) [] es (start p ts) s (counted_start g p ts) r in
    (o.unused, λ tick task n t h fs u q. gone_for_good g n fs t u (done_gone g es tick task n s t o h.does) q)
