-- The end of the longest stride, from the reaches of all obstacles.
use Rattle.std.proofs.Common.{◌≡◌, ℕ, zero, suc, ◌+◌, ◌-◌, ◌<◌, ◌≤◌, min, true, false, ◌⊎◌, List, [], ◌∷◌, Some, None, Option, sym, refl, ap, ◌∙◌, subst, inl, inr, arith}
use Rattle.std.specs.List.{slice_get, AllByRecursion}
use Rattle.std.proofs.ByRecursion.{All-weaker}
use Rattle.std.proofs.lemmas.Bool.{cases_lt}
use Rattle.jobs.specs.declared.job.Job.{Job}
use Rattle.jobs.specs.Jobs.{late}
use Rattle.ready_queue.specs.declared.queue.ReadyQueue.{ReadyQueue}
use Rattle.ready_queue.specs.Waiting.{waiting}
use Rattle.sources.specs.declared.trigger.Trigger.{Trigger}
use Rattle.parts.specs.declared.part.Edge.{Edge}
use Rattle.parts.specs.Limits.{last_tick}
use Rattle.runs.specs.declared.event.Phase.TheVariants.{Edges}
use Rattle.runs.specs.State.{State}
use Rattle.runs.specs.Guards.{may_stay_in}
use Rattle.runs.specs.Edges.{Joins, NoneOpen}
use Rattle.runs.specs.Rules.{location_at, may_stay}
use Rattle.guards.specs.Spans.{ZeroedBy}
use Rattle.search.specs.declared.view.View.{View}
use Rattle.search.specs.Views.{state_of}
use Rattle.strides.specs.Quiet.{at_tick, Outlasts, NoneDueBy, Quiet}
use Rattle.strides.specs.declared.stretch.Stretch.{Stretch}
use Rattle.strides.specs.Reach.{Reaches, FreePart, ComesBehind}
use Rattle.strides.specs.Strides.{Shown, Closed, StrideEnd}
use Rattle.strides.proofs.Hopping.{late_further}
use Rattle.strides.proofs.Reaching.{part_same, part_both}

-- ---- edges and invariants depend on what a view shows

-- a state with nothing else in it
abbrev bare : State → ℕ → State
bare s t = record {
  plan = record { counts = record { automata = 0; clocks = 0; triggers = 0; channels = 0 }; variables = []; tasks = []; locations = s.plan.locations; edges = s.plan.edges };
  now = t;
  phase = Edges;
  places = s.places;
  zeroed = s.zeroed;
  values = s.values;
  waiting = [];
  next = 0;
  present = s.present;
  steps = 0;
  ended = false;
  coming = [];
}

module _ (s : State) (t : ℕ) where
  joins_bare : (d : Edge) (p : Option ℕ) (c : Option Edge) → Joins (at_tick t s) d p c → Joins (bare s t) d p c
  joins_bare d None None h = h
  joins_bare d None (Some c) h = h
  joins_bare d (Some p) None h = h
  joins_bare d (Some p) (Some c) h = h

  joins_full : (d : Edge) (p : Option ℕ) (c : Option Edge) → Joins (bare s t) d p c → Joins (at_tick t s) d p c
  joins_full d None None h = h
  joins_full d None (Some c) h = h
  joins_full d (Some p) None h = h
  joins_full d (Some p) (Some c) h = h

  shut_full : NoneOpen (bare s t) → NoneOpen (at_tick t s)
  shut_full n k p d c o = n k p d c (record { found = o.found; is_ready = o.is_ready; joins = joins_bare d p c o.joins })

  shut_bare : NoneOpen (at_tick t s) → NoneOpen (bare s t)
  shut_bare n k p d c o = n k p d c (record { found = o.found; is_ready = o.is_ready; joins = joins_full d p c o.joins })

  location_bare : (o : Option ℕ) → location_at (bare s t).plan o ≡ location_at s.plan o
  location_bare None = refl
  location_bare (Some l) = refl

  stay_bare : (a : ℕ) → may_stay (bare s t) t a ≡ may_stay s t a
  stay_bare a = ap (may_stay_in s.zeroed t) (location_bare (slice_get s.places a))

module _ (v : View) (q : ReadyQueue) (first : Option Trigger) (s : State) (shown : Shown v q first s) (t : ℕ) where
  bare_shown : at_tick t (state_of v) ≡ bare s t
  bare_shown =
      let a = shown.edges in let b = shown.locations in let c = shown.places in let d = shown.zeroed in let e = shown.values in let f = shown.present in
      simp (a, b, c, d, e, f)

  pub open_shown : NoneOpen (at_tick t (state_of v)) → NoneOpen (at_tick t s)
  open_shown n = shut_full s t (subst NoneOpen bare_shown n)

  pub shown_open : NoneOpen (at_tick t s) → NoneOpen (at_tick t (state_of v))
  shown_open n = subst NoneOpen (sym bare_shown) (shut_bare s t n)

  pub stay_shown : (a : ℕ) → may_stay (state_of v) t a ≡ may_stay s t a
  stay_shown a = ap (λ x. may_stay x t a) bare_shown ∙ stay_bare s t a

pub zeroed_shown : (v : View) (q : ReadyQueue) (first : Option Trigger) (s : State) → Shown v q first s → Closed s → ZeroedBy v.valuation.zeroed.now v.now
zeroed_shown v q first s shown closed = subst (ZeroedBy v.valuation.zeroed.now) (sym shown.now) (subst (λ z. ZeroedBy z s.now) (sym shown.zeroed) closed.zeroed_by)

-- ---- jobs and triggers up to a tick

outlasts_less : (k n : ℕ) (js : List Job) → k ≤ n → Outlasts n js → Outlasts k js
outlasts_less k n [] l h = tt
outlasts_less k n (j ∷ js) l h = omega (arith, h)

due_behind : (t : ℕ) (ts : List Trigger) → ComesBehind t (slice_get ts 0) → NoneDueBy t ts
due_behind t [] h = tt
due_behind t (x ∷ xs) h = h

behind_due : (t n : ℕ) (ts : List Trigger) → t ≤ n → NoneDueBy n ts → ComesBehind t (slice_get ts 0)
behind_due t n [] l h = tt
behind_due t n (x ∷ xs) l h = omega (arith, h)

-- ---- all obstacles together

module _ (v : View) (q : ReadyQueue) (first : Option Trigger) where
  abbrev AtWork : ℕ → Type 0
  AtWork t = Outlasts (t - v.now) (waiting q)

  abbrev InTime : ℕ → Type 0
  InTime t = AllByRecursion (λ j. late t j ≡ false) (waiting q)

  abbrev Stays : ℕ → Type 0
  Stays t = (a : ℕ) → may_stay (state_of v) t a ≡ true

  abbrev Shuts : ℕ → Type 0
  Shuts t = NoneOpen (at_tick t (state_of v))

  -- a tick is free of every obstacle
  pub record FreeTick (t : ℕ) : Type 0 where
    pub at_work : AtWork t
    pub in_time : InTime t
    pub no_trigger : ComesBehind t first
    pub stays : Stays t
    pub shuts : Shuts t

  pub all_obstacles : (all done in_time trigger invariant r : Stretch) → all.from ≡ v.now → FreePart (λ t. Outlasts (t - all.from) (waiting q)) all done → FreePart InTime done in_time → FreePart (λ t. ComesBehind t first) in_time trigger → FreePart Stays trigger invariant → FreePart Shuts invariant r → Reaches FreeTick v.now all.to r.to
  all_obstacles all done in_time trigger invariant r from w b c d e =
      let a = subst (λ n. FreePart (λ t. Outlasts (t - n) (waiting q)) all done) from w in
      let ab = part_both AtWork InTime all done in_time a b in
      let abc = part_both (λ t. AtWork t × InTime t) (λ t. ComesBehind t first) all in_time trigger ab c in
      let abcd = part_both (λ t. (AtWork t × InTime t) × ComesBehind t first) Stays all trigger invariant abc d in
      let parts = part_both (λ t. ((AtWork t × InTime t) × ComesBehind t first) × Stays t) Shuts all invariant r abcd e in
      subst (λ f. Reaches FreeTick f all.to r.to) from
      (part_same (λ t. (((AtWork t × InTime t) × ComesBehind t first) × Stays t) × Shuts t) FreeTick all r
      (λ t l m f. record { at_work = f.0.0.0.0; in_time = f.0.0.0.1; no_trigger = f.0.0.1; stays = f.0.1; shuts = f.1 })
      (λ t l m f. ((((f.at_work, f.in_time), f.no_trigger), f.stays), f.shuts)) parts).reaches

  module _ (s : State) (shown : Shown v q first s) (closed : Closed s) (until reach r : ℕ) (is_reach : reach ≡ min until last_tick) (more : v.now < reach) (ends : Reaches (FreeTick) v.now reach r) where
    stride_quiet : (n : ℕ) → 0 < n → s.now + n ≤ r → Quiet n s
    stride_quiet n h l =
        let at_end = ends.free_to (s.now + n) (omega (arith, shown.now)) l in
        let count : (s.now + n) - v.now ≡ n = omega (arith, shown.now) in
        record {
          closed = closed.in_pass;
          live = closed.live;
          clear = closed.clear;
          before_last = omega (arith, ends.within);
          busy = subst (Outlasts n) shown.jobs (subst (λ k. Outlasts k (waiting q)) count at_end.at_work);
          in_time = subst (AllByRecursion (λ j. late (s.now + n) j ≡ false)) shown.jobs at_end.in_time;
          no_trigger = due_behind (s.now + n) s.coming (subst (ComesBehind (s.now + n)) shown.comes at_end.no_trigger);
          shut = λ t a b. open_shown v q first s shown t (ends.free_to t (omega (arith, shown.now)) (omega arith)).shuts;
          stays = λ t a b i. sym (stay_shown v q first s shown t i) ∙ (ends.free_to t (omega (arith, shown.now)) (omega arith)).stays i;
        }

    -- a tick of a quiet stride is free
    free_of_quiet : (n : ℕ) → Quiet n s → (t : ℕ) → s.now < t → t ≤ s.now + n → FreeTick t
    free_of_quiet n k t a b = record {
      at_work = outlasts_less (t - v.now) n (waiting q) (omega (arith, shown.now)) (subst (Outlasts n) (sym shown.jobs) k.busy);
      in_time = subst (AllByRecursion (λ j. late t j ≡ false)) (sym shown.jobs) (All-weaker (λ j. late (s.now + n) j ≡ false) (λ j. late t j ≡ false) (λ j h. late_further t (s.now + n) j b h) s.waiting k.in_time);
      no_trigger = subst (ComesBehind t) (sym shown.comes) (behind_due t (s.now + n) s.coming b k.no_trigger);
      stays = λ i. stay_shown v q first s shown t i ∙ k.stays t a b i;
      shuts = shown_open v q first s shown t (k.shut t a b);
    }

    stride_longest : (n : ℕ) → s.now + n ≤ until → Quiet n s → s.now + n ≤ r
    stride_longest n l k = by (cases_lt r (s.now + n))
      where
        by : (r < s.now + n) ⊎ (s.now + n ≤ r) → s.now + n ≤ r
        by (inl h) = absurd (ends.stops (omega (arith, k.before_last)) (free_of_quiet n k (r + 1) (omega (arith, shown.now, ends.ahead)) (omega arith)))
        by (inr h) = h

    stride_whole : Quiet 0 s → (n : ℕ) → r - s.now ≡ n → Quiet n s
    stride_whole k zero e = k
    stride_whole k (suc n) e = stride_quiet (suc n) (omega arith) (omega arith)

    pub stride_ends : StrideEnd s until r
    stride_ends = record { ahead = omega (arith, shown.now, ends.ahead); within = λ l. omega (arith, ends.within); quiet = stride_quiet; longest = stride_longest; all_quiet = λ k. stride_whole k (r - s.now) refl }
