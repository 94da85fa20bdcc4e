-- The events of a free run by what they do to jobs, clocks and variables, and invariants along a run.
use Rattle.std.proofs.Common.{◌≡◌, ℕ, ◌+◌, Bool, true, false, ◌⊎◌, List, [], ◌∷◌, ◌++◌, length, set, Option, sym, refl, ap, ◌∙◌, subst, inl, inr, arith, length-set}
use Rattle.sources.specs.declared.trigger.Trigger.{Trigger}
use Rattle.runs.specs.declared.event.Line.{Line}
use Rattle.std.proofs.lemmas.List.{append-nil, append_assoc}
use Rattle.jobs.specs.declared.job.JobKey.{JobKey}
use Rattle.runs.specs.declared.event.Phase.{Phase}
use Rattle.runs.specs.declared.event.Phase.TheVariants.{Arrival, Close, Pass}
use Rattle.runs.specs.declared.event.Cause.TheVariants.{Deadline, Invariant, EdgeRange, TaskRange, Overload, StepLimit}
use Rattle.runs.specs.declared.event.Line.TheVariants as line
use Rattle.runs.specs.declared.event.Worker.{Worker}
use Rattle.runs.specs.declared.event.Event.{Event}
use Rattle.runs.specs.declared.event.Event.TheVariants.{Made, Came, Left, Passed}
use Rattle.runs.specs.State.{State, stopped, with_triggers}
use Rattle.runs.specs.Rules.{Takes, Finishes, Passes, Leaves, Repels, Clears}
use Rattle.runs.specs.Runs.{Free, Run}
use Rattle.runs.specs.Laws.{AtEach}
use Rattle.service.specs.Work.{works_in, ticks_worked}

-- no job, clock, variable, tick or phase changes
pub record Still (e : Event) (s t : State) : Type 0 where
  pub plan : t.plan ≡ s.plan
  pub now : t.now ≡ s.now
  pub phase : t.phase ≡ s.phase
  pub places : t.places ≡ s.places
  pub zeroed : t.zeroed ≡ s.zeroed
  pub values : t.values ≡ s.values
  pub waiting : t.waiting ≡ s.waiting
  pub next : t.next ≡ s.next
  pub steps : t.steps ≡ s.steps
  pub triggers : length t.present ≡ length s.present
  pub closed : s.phase ≡ Pass → t.present ≡ s.present
  pub idle : (n : ℕ) → works_in n e ≡ 0

module _ (g : JobKey → JobKey → Bool) where
  abbrev pub Leaving : Event → State → State → Type 0
  Leaving e s t = (p : Phase) × (e ≡ Left p) × Leaves p s t

  abbrev pub Taking : Event → State → State → Type 0
  Taking e s t = (k : ℕ) × (n : ℕ) × (q : Option ℕ) × (e ≡ Made (line.Edge k n q)) × Takes g k n q s t

  abbrev pub Finishing : Event → State → State → Type 0
  Finishing e s t = (k : ℕ) × (i : ℕ) × (n : ℕ) × (e ≡ Made (line.Done k i n)) × Finishes k i n s t

  abbrev pub Passing : Event → State → State → Type 0
  Passing e s t = (w : Option Worker) × (e ≡ Passed w) × Passes w s t

  abbrev pub Kind : Event → State → State → Type 0
  Kind e s t = Still e s t ⊎ (Leaving e s t ⊎ (Taking e s t ⊎ (Finishing e s t ⊎ Passing e s t)))

-- the end of a run and a miss leave jobs, clocks and variables alone
ended_still : (l : Line) (s t : State) → t ≡ stopped s → Still (Made l) s t
ended_still l s t e = record {
  plan = ap (λ u. u.plan) e;
  now = ap (λ u. u.now) e;
  phase = ap (λ u. u.phase) e;
  places = ap (λ u. u.places) e;
  zeroed = ap (λ u. u.zeroed) e;
  values = ap (λ u. u.values) e;
  waiting = ap (λ u. u.waiting) e;
  next = ap (λ u. u.next) e;
  steps = ap (λ u. u.steps) e;
  triggers = ap (λ u. length u.present) e;
  closed = λ _. ap (λ u. u.present) e;
  idle = λ n. refl;
}

triggers_still : (v : Event) (ps : List Bool) (ts : List Trigger) (s t : State) → ((n : ℕ) → works_in n v ≡ 0) → length ps ≡ length s.present → (s.phase ≡ Pass → ps ≡ s.present) → t ≡ with_triggers ps ts s → Still v s t
triggers_still v ps ts s t i l c e = record {
  plan = ap (λ u. u.plan) e;
  now = ap (λ u. u.now) e;
  phase = ap (λ u. u.phase) e;
  places = ap (λ u. u.places) e;
  zeroed = ap (λ u. u.zeroed) e;
  values = ap (λ u. u.values) e;
  waiting = ap (λ u. u.waiting) e;
  next = ap (λ u. u.next) e;
  steps = ap (λ u. u.steps) e;
  triggers = ap (λ u. length u.present) e ∙ l;
  closed = λ p. ap (λ u. u.present) e ∙ c p;
  idle = i;
}

not_arrival : (s : State) → s.phase ≡ Arrival → s.phase ≡ Pass → ⊥
not_arrival s e f = let z : ◌≡◌ {A = ℕ} 0 1 = cc in omega arith

not_close : (s : State) → s.phase ≡ Close → s.phase ≡ Pass → ⊥
not_close s e f = let z : ◌≡◌ {A = ℕ} 0 1 = cc in omega arith

pub kind : (g : JobKey → JobKey → Bool) (e : Event) (s t : State) → Free g e s t → Kind g e s t
kind g (Made (line.Edge k n q)) s t h = inr (inr (inl (k, n, q, refl, h.does)))
kind g (Made (line.Miss k x)) s t h = inl (by h.does)
  where
    by : Repels k x s t ⊎ Clears k x s t → Still (Made (line.Miss k x)) s t
    by (inl d) = triggers_still _ s.present d.drops.rest s t (λ n. refl) refl (λ _. refl) d.after
    by (inr d) = triggers_still _ (set s.present x false) s.coming s t (λ n. refl) (length-set s.present x false) (λ p. absurd (not_close s d.in_close p)) d.after
kind g (Made (line.Done k i n)) s t h = inr (inr (inr (inl (k, i, n, refl, h.does))))
kind g (Made (line.End k Deadline i)) s t h = inl (ended_still _ s t h.does.after)
kind g (Made (line.End k Invariant i)) s t h = inl (ended_still _ s t h.does.after)
kind g (Made (line.End k EdgeRange i)) s t h = inl (ended_still _ s t h.does.after)
kind g (Made (line.End k TaskRange i)) s t h = inl (ended_still _ s t h.does.after)
kind g (Made (line.End k Overload i)) s t h = inl (ended_still _ s t h.does.after)
kind g (Made (line.End k StepLimit i)) s t h = inl (ended_still _ s t h.does.after)
kind g (Came x) s t h = inl (triggers_still _ (set s.present x true) h.does.drops.rest s t (λ n. refl) (length-set s.present x true) (λ p. absurd (not_arrival s h.does.drops.in_arrival p)) h.does.after)
kind g (Left p) s t h = inr (inl (p, refl, h.does))
kind g (Passed w) s t h = inr (inr (inr (inr (w, refl, h.does))))

-- ---- an invariant along a run, over the events so far

module _ (g : JobKey → JobKey → Bool) (I : List Event → State → Type 0) (keep : (es : List Event) (e : Event) (s t : State) → I es s → Free g e s t → I (es ++ e ∷ []) t) where
  pub along : (pre es : List Event) (s t : State) → I pre s → Run (Free g) s es t → I (pre ++ es) t
  along pre [] s t i r = subst (λ l. I l t) (sym (append-nil pre)) (subst (I pre) r i)
  along pre (e ∷ es) s t i r = subst (λ l. I l t) (append_assoc pre (e ∷ []) es) (along (pre ++ e ∷ []) es r.0 t (keep pre e s r.0 i r.1) r.2)

  -- what the invariant gives at each event
  pub each_along : (P : Event → State → State → Type 0) → ((es : List Event) (e : Event) (s t : State) → I es s → Free g e s t → P e s t) → (pre es : List Event) (s t : State) → I pre s → (r : Run (Free g) s es t) → AtEach (Free g) P s es t r
  each_along P f pre [] s t i r = tt
  each_along P f pre (e ∷ es) s t i r = (f pre e s r.0 i r.1, each_along P f (pre ++ e ∷ []) es r.0 t (keep pre e s r.0 i r.1) r.2)

pub worked_more : (n : ℕ) (es : List Event) (e : Event) → ticks_worked n (es ++ e ∷ []) ≡ ticks_worked n es + works_in n e
worked_more n [] e = omega arith
worked_more n (f ∷ es) e = omega (arith, worked_more n es e)
