-- One quiet tick is six events; n of them by induction.
use Rattle.std.proofs.Common.{◌≡◌, ℕ, zero, suc, ◌+◌, ◌-◌, ◌<◌, ◌≤◌, Bool, true, false, List, [], ◌∷◌, ◌++◌, Some, None, Option, sym, refl, ap, ◌∙◌, subst, arith}
use Rattle.std.specs.List.{AllByRecursion}
use Rattle.std.proofs.lemmas.Bool.{cond-false, ne_eqb, le-ltb, ltb-false}
use Rattle.jobs.specs.declared.job.Job.{Job}
use Rattle.jobs.specs.declared.job.JobKey.{JobKey}
use Rattle.jobs.specs.Jobs.{late}
use Rattle.ready_queue.specs.Waiting.{serve_first, first_late}
use Rattle.sources.specs.declared.trigger.Trigger.{Trigger}
use Rattle.parts.specs.declared.part.Edge.{Edge}
use Rattle.runs.specs.declared.event.Phase.{Phase}
use Rattle.runs.specs.declared.event.Phase.TheVariants.{Late, Finish, Arrival, Edges, Close, Pass}
use Rattle.runs.specs.declared.event.Event.{Event}
use Rattle.runs.specs.declared.event.Event.TheVariants.{Left, Passed}
use Rattle.runs.specs.State.{State, in_phase}
use Rattle.runs.specs.Jobs.{finished, worker}
use Rattle.runs.specs.Edges.{Joins, NoneOpen}
use Rattle.runs.specs.Rules.{next_tick, NoTriggerDue}
use Rattle.runs.specs.Runs.{Strict, Run, lines}
use Rattle.strides.specs.Quiet.{at_tick, Outlasts, NoneDueBy, Quiet, served_by, strode, QuietTicksPassTogether}

-- the next tick, closed with nothing done
abbrev hop : State → State
hop s = record { plan = s.plan; now = s.now + 1; phase = Pass; places = s.places; zeroed = s.zeroed; values = s.values; waiting = serve_first s.waiting; next = s.next; present = s.present; steps = 0; ended = s.ended; coming = s.coming }

-- ---- what the phases of the next tick find

pub late_further : (m n : ℕ) (j : Job) → m ≤ n → late n j ≡ false → late m j ≡ false
late_further m n j l h = le-ltb j.deadline (m - j.release) (omega (arith, ltb-false j.deadline (n - j.release) h))

none_late : (m n : ℕ) → m ≤ n → (js : List Job) → AllByRecursion (λ j. late n j ≡ false) js → first_late m js ≡ None
none_late m n l [] h = refl
none_late m n l (j ∷ js) h = cond-false _ _ _ (late_further m n j l h.0) ∙ none_late m n l js h.1

served_late : (n : ℕ) (js : List Job) → AllByRecursion (λ j. late n j ≡ false) js → AllByRecursion (λ j. late n j ≡ false) (serve_first js)
served_late n [] h = h
served_late n (j ∷ js) h = h

none_finished : (n : ℕ) (js : List Job) → Outlasts (suc n) js → finished (serve_first js) ≡ None
none_finished n [] h = refl
none_finished n (j ∷ js) h = cond-false _ _ _ (ne_eqb (j.remaining - 1) 0 (λ e. omega (arith, h)))

outlasts_served : (n : ℕ) (js : List Job) → Outlasts (suc n) js → Outlasts n (serve_first js)
outlasts_served n [] h = tt
outlasts_served n (j ∷ js) h = omega (arith, h)

none_due : (m n : ℕ) → m ≤ n → (ts : List Trigger) → NoneDueBy n ts → NoTriggerDue m ts
none_due m n l [] h = tt
none_due m n l (t ∷ ts) h = λ e. omega (arith, h)

none_due_further : (m n : ℕ) → m ≡ n → (ts : List Trigger) → NoneDueBy n ts → NoneDueBy m ts
none_due_further m n e ts h = subst (λ k. NoneDueBy k ts) (sym e) h

-- which edges are open depends on tick, places, clocks, variables and triggers alone
module _ (s : State) (t : ℕ) (q : Phase) (js : List Job) (n k : ℕ) (over : Bool) (ts : List Trigger) where
  abbrev like : State
  like = record { plan = s.plan; now = t; phase = q; places = s.places; zeroed = s.zeroed; values = s.values; waiting = js; next = n; present = s.present; steps = k; ended = over; coming = ts }

  joins_like : (d : Edge) (p : Option ℕ) (c : Option Edge) → Joins like d p c → Joins (at_tick t s) d p c
  joins_like d None None h = h
  joins_like d None (Some c) h = h
  joins_like d (Some p) None h = h
  joins_like d (Some p) (Some c) h = h

  shut_like : NoneOpen (at_tick t s) → NoneOpen like
  shut_like h i p d c o = h i p d c (record { found = o.found; is_ready = o.is_ready; joins = joins_like d p c o.joins })

-- ---- one quiet tick

abbrev hop_events : State → List Event
hop_events s = Passed (worker s.waiting) ∷ Left Late ∷ Left Finish ∷ Left Arrival ∷ Left Edges ∷ Left Close ∷ []

module _ (g : JobKey → JobKey → Bool) where
  hop_run : (n : ℕ) (s : State) → Quiet (suc n) s → Run (Strict g) s (hop_events s) (hop s)
  hop_run n s q =
      let up : s.now < s.now + 1 = omega arith in
      let near : s.now + 1 ≤ s.now + suc n = omega arith in
      let l = q.live in (
        next_tick s,
        record { free = record { live = l; does = record { in_pass = q.closed; before_last = omega (arith, q.before_last); stay = q.stays (s.now + 1) up near; works = refl; after = refl } }; choice = tt },
        (
          in_phase Finish (next_tick s),
          record { free = record { live = l; does = record { in_phase_p = refl; nothing_due = none_late (s.now + 1) (s.now + suc n) near (serve_first s.waiting) (served_late (s.now + suc n) s.waiting q.in_time); after = refl } }; choice = tt },
          (
            in_phase Arrival (next_tick s),
            record { free = record { live = l; does = record { in_phase_p = refl; nothing_due = none_finished n s.waiting q.busy; after = refl } }; choice = tt },
            (
              in_phase Edges (next_tick s),
              record { free = record { live = l; does = record { in_phase_p = refl; nothing_due = none_due (s.now + 1) (s.now + suc n) near s.coming q.no_trigger; after = refl } }; choice = tt },
              (
                in_phase Close (next_tick s),
                record { free = record { live = l; does = record { in_phase_p = refl; nothing_due = tt; after = refl } }; choice = shut_like s (s.now + 1) Edges (serve_first s.waiting) s.next 0 s.ended s.coming (q.shut (s.now + 1) up near) },
                (hop s, record { free = record { live = l; does = record { in_phase_p = refl; nothing_due = q.clear; after = refl } }; choice = tt }, refl),
              ),
            ),
          ),
        ),
      )

  -- what is left is quiet too
  hop_quiet : (n : ℕ) (s : State) → Quiet (suc n) s → Quiet n (hop s)
  hop_quiet n s q =
      let e : (s.now + 1) + n ≡ s.now + suc n = omega arith in
      record {
        closed = refl;
        live = q.live;
        clear = q.clear;
        before_last = omega (arith, q.before_last);
        busy = outlasts_served n s.waiting q.busy;
        in_time = subst (λ (m : ℕ). AllByRecursion (λ j. late m j ≡ false) (serve_first s.waiting)) (sym e) (served_late (s.now + suc n) s.waiting q.in_time);
        no_trigger = none_due_further ((s.now + 1) + n) (s.now + suc n) e s.coming q.no_trigger;
        shut = λ t a b. shut_like s t Pass (serve_first s.waiting) s.next 0 s.ended s.coming (q.shut t (omega arith) (omega arith));
        stays = λ t a b. q.stays t (omega arith) (omega arith);
      }

  -- ---- n quiet ticks

  run_append : (es fs : List Event) (s m t : State) → Run (Strict g) s es m → Run (Strict g) m fs t → Run (Strict g) s (es ++ fs) t
  run_append [] fs s m t r q = subst (λ x. Run (Strict g) x fs t) (sym r) q
  run_append (e ∷ es) fs s m t r q = (r.0, r.1, run_append es fs r.0 m t r.2 q)

  served_more : (n : ℕ) (js : List Job) → served_by (suc n) (serve_first js) ≡ served_by (suc (suc n)) js
  served_more n [] = refl
  served_more n (j ∷ js) = let e : (j.remaining - 1) - suc n ≡ j.remaining - suc (suc n) = omega arith in ap (λ k. record { number = j.number; task = j.task; cost = j.cost; deadline = j.deadline; priority = j.priority; release = j.release; remaining = k; started = true } ∷ js) e

  served_once : (js : List Job) → serve_first js ≡ served_by 1 js
  served_once [] = refl
  served_once (j ∷ js) = refl

  strode_more : (n : ℕ) (s : State) → strode (suc n) (hop s) ≡ strode (suc (suc n)) s
  strode_more n s =
      let a = served_more n s.waiting in
      let b : (s.now + 1) + suc n ≡ s.now + suc (suc n) = omega arith in
      simp (a, b)

  strode_once : (s : State) → hop s ≡ strode 1 s
  strode_once s = let a = served_once s.waiting in simp a

  strides : (n : ℕ) (s : State) → Quiet (suc n) s → (es : List Event) × Run (Strict g) s es (strode (suc n) s) × (lines es ≡ [])
  strides zero s q = (hop_events s, subst (Run (Strict g) s (hop_events s)) (strode_once s) (hop_run 0 s q), refl)
  strides (suc n) s q =
      let r = strides n (hop s) (hop_quiet (suc n) s q) in
      (hop_events s ++ r.0, subst (Run (Strict g) s (hop_events s ++ r.0)) (strode_more n s) (run_append (hop_events s) r.0 s (hop s) (strode (suc n) (hop s)) (hop_run (suc n) s q) r.1), r.2)

pub quiet_ticks_pass_together : QuietTicksPassTogether
quiet_ticks_pass_together g zero s h q = absurd (omega arith)
quiet_ticks_pass_together g (suc n) s h q = strides g n s q
