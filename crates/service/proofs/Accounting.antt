-- What each waiting job has worked and what remains make its C; nothing leaves its bounds.
use Rattle.std.proofs.Common.{◌≡◌, ℕ, zero, suc, ◌+◌, ◌-◌, ◌<◌, ◌≤◌, Bool, true, false, ◌&&◌, eqb, ltb, ◌⊎◌, List, [], ◌∷◌, ◌++◌, length, get_or, set, replicate, ℤ, pos, Some, None, Option, sym, refl, ap, ◌∙◌, subst, inl, inr, arith, length-set, get_or-set_other, get_or-set_same}
use Rattle.std.specs.List.{slice_get, AllByRecursion}
use Rattle.std.proofs.ByRecursion.{All-weaker}
use Rattle.std.proofs.lemmas.List.{length-replicate, set_past}
use Rattle.std.proofs.lemmas.Bool.{cases_eq, cases_lt, cases_Bool, cond_both, cond-true, cond-false, and_parts, ltb-true, ltb-false, le-ltb, leb-true, ne_eqb, eq-eqb}
use Rattle.precedence.proofs.Putting.{length_put}
use Rattle.jobs.specs.declared.job.Job.{Job}
use Rattle.jobs.specs.declared.job.JobKey.{JobKey}
use Rattle.jobs.specs.Jobs.{job_before, released_job, worked, late}
use Rattle.ready_queue.specs.Waiting.{serve_first, first_late, NumbersApart}
use Rattle.sources.specs.declared.trigger.Trigger.{Trigger}
use Rattle.parts.specs.Limits.{last_tick, task_fits, variable_fits}
use Rattle.parts.specs.declared.part.Variable.{Variable}
use Rattle.parts.specs.declared.part.Task.{Task}
use Rattle.parts.specs.declared.part.Assignment.{Assignment}
use Rattle.parts.specs.declared.part.Reset.{Reset}
use Rattle.parts.specs.declared.part.Location.{Location}
use Rattle.parts.specs.declared.part.Edge.{Edge}
use Rattle.sequence.specs.Plan.{Plan, each, scope}
use Rattle.sequence.proofs.Sound.{Sound, sound_facts}
use Rattle.runs.specs.declared.event.Phase.{Phase}
use Rattle.runs.specs.declared.event.Phase.TheVariants.{Late, Finish, Arrival, Edges, Close, Pass}
use Rattle.runs.specs.declared.event.Cause.TheVariants.{Overload}
use Rattle.runs.specs.declared.event.Event.{Event}
use Rattle.runs.specs.declared.event.Event.TheVariants.{Passed}
use Rattle.runs.specs.State.{State, start, in_phase, starting_places, starting_values, most_jobs, most_steps, automaton}
use Rattle.runs.specs.Values.{in_range, no_variable, assigned_value, assign, and_then, assign_all, assign_edges}
use Rattle.runs.specs.Jobs.{Queue, worker, finished, task_assignments, release_edges}
use Rattle.runs.specs.Edges.{sides, released, reset_all, reset_edges, move_edges, take_trigger}
use Rattle.parts.specs.declared.part.Label.{Label}
use Rattle.parts.specs.declared.part.Label.TheVariants as label
use Rattle.runs.specs.Rules.{Leaves, NonePresent, Refuses, behind}
use Rattle.runs.specs.Runs.{Free, Run}
use Rattle.runs.specs.Laws.{count_if}
use Rattle.service.specs.Work.{works_in, ticks_worked, DoneMeansExactlyCWithinD}
use Rattle.service.specs.Bounds.{InRanges, NothingLeavesItsBounds}
use Rattle.service.proofs.Steps.{Kind, kind, along, worked_more}
use Rattle.service.proofs.Releasing.{all_put, all_kept}
use Rattle.service.proofs.Numbering.{Counted, counted_kept, counted_start}

-- ---- variables stay in their ranges

set_in_range : (vars : List Variable) (values : List ℤ) (v : ℕ) (x : ℤ) → v < length values → in_range (get_or vars v no_variable) x ≡ true → InRanges vars values → InRanges vars (set values v x)
set_in_range vars values v x l h o = record { long = length-set values v x ∙ o.long; each_in = one }
  where
    by : (w : ℕ) → w < length (set values v x) → (v ≡ w) ⊎ (v ≡ w → ⊥) → in_range (get_or vars w no_variable) (get_or (set values v x) w (pos 0)) ≡ true
    by w m (inl e) = subst (λ k. in_range (get_or vars k no_variable) (get_or (set values v x) k (pos 0)) ≡ true) e (ap (in_range (get_or vars v no_variable)) (get_or-set_same values v x (pos 0) l) ∙ h)
    by w m (inr n) = ap (in_range (get_or vars w no_variable)) (get_or-set_other values v w x (pos 0) (λ e. n (sym e))) ∙ o.each_in w (omega (arith, length-set values v x))

    one : (w : ℕ) → w < length (set values v x) → in_range (get_or vars w no_variable) (get_or (set values v x) w (pos 0)) ≡ true
    one w m = by w m (cases_eq v w)

abbrev InRangesIf : List Variable → Option (List ℤ) → Type 0
InRangesIf vars None = Unit {0}
InRangesIf vars (Some values) = InRanges vars values

assign_in_range : (vars : List Variable) (a : Option Assignment) (values : List ℤ) → InRanges vars values → InRangesIf vars (assign vars a values)
assign_in_range vars None values o = o
assign_in_range vars (Some a) values o =
    cond_both (ltb a.target (length values) && in_range (get_or vars a.target no_variable) (assigned_value values a)) _ _ (InRangesIf vars)
    (λ t. let p = and_parts (ltb a.target (length values)) (in_range (get_or vars a.target no_variable) (assigned_value values a)) t in set_in_range vars values a.target (assigned_value values a) (ltb-true _ _ p.0) p.1 o)
    (λ _. tt)

then_in_range : (vars : List Variable) (r : Option (List ℤ)) (f : List ℤ → Option (List ℤ)) → ((values : List ℤ) → InRanges vars values → InRangesIf vars (f values)) → InRangesIf vars r → InRangesIf vars (and_then r f)
then_in_range vars None f more h = tt
then_in_range vars (Some values) f more h = more values h

all_in_range : (vars : List Variable) (as' : List (Option Assignment)) (values : List ℤ) → InRanges vars values → InRangesIf vars (assign_all vars as' values)
all_in_range vars [] values o = o
all_in_range vars (a ∷ as') values o = then_in_range vars (assign vars a values) (assign_all vars as') (all_in_range vars as') (assign_in_range vars a values o)

edges_in_range : (vars : List Variable) (ds : List Edge) (values : List ℤ) → InRanges vars values → InRangesIf vars (assign_edges vars ds values)
edges_in_range vars [] values o = o
edges_in_range vars (d ∷ ds) values o = then_in_range vars (assign_all vars d.assignments values) (assign_edges vars ds) (edges_in_range vars ds) (all_in_range vars d.assignments values o)

starts_long : (vars : List Variable) → length (starting_values vars) ≡ length vars
starts_long [] = refl
starts_long (v ∷ vs) = omega (arith, starts_long vs)

starts_in_range : (vars : List Variable) → each variable_fits vars ≡ true → (v : ℕ) → v < length (starting_values vars) → in_range (get_or vars v no_variable) (get_or (starting_values vars) v (pos 0)) ≡ true
starts_in_range [] h v l = absurd (omega arith)
starts_in_range (x ∷ xs) h zero l = (and_parts _ _ h).0
starts_in_range (x ∷ xs) h (suc v) l = starts_in_range xs (and_parts _ _ h).1 v (omega arith)

-- ---- clocks and places

abbrev ZeroedBy : ℕ → List ℕ → Type 0
ZeroedBy n zs = (c : ℕ) → get_or zs c 0 ≤ n

set_zeroed : (n : ℕ) (zs : List ℕ) (v : ℕ) → ZeroedBy n zs → ZeroedBy n (set zs v n)
set_zeroed n zs v h c = by (cases_eq c v) (cases_lt v (length zs))
  where
    by : (c ≡ v) ⊎ (c ≡ v → ⊥) → (v < length zs) ⊎ (length zs ≤ v) → get_or (set zs v n) c 0 ≤ n
    by (inl e) (inl l) = omega (arith, ap (λ k. get_or (set zs v n) k 0) e, get_or-set_same zs v n 0 l)
    by (inl e) (inr l) = omega (arith, ap (λ xs. get_or xs c 0) (set_past zs v n l), h c)
    by (inr d) l = omega (arith, get_or-set_other zs v c n 0 d, h c)

resets_zeroed : (n : ℕ) (rs : List (Option Reset)) (zs : List ℕ) → ZeroedBy n zs → ZeroedBy n (reset_all n rs zs)
resets_zeroed n [] zs h = h
resets_zeroed n (None ∷ rs) zs h = resets_zeroed n rs zs h
resets_zeroed n (Some r ∷ rs) zs h = resets_zeroed n rs (set zs r.clock n) (set_zeroed n zs r.clock h)

edges_zeroed : (n : ℕ) (ds : List Edge) (zs : List ℕ) → ZeroedBy n zs → ZeroedBy n (reset_edges n ds zs)
edges_zeroed n [] zs h = h
edges_zeroed n (d ∷ ds) zs h = edges_zeroed n ds (reset_all n d.resets zs) (resets_zeroed n d.resets zs h)

resets_long : (n : ℕ) (rs : List (Option Reset)) (zs : List ℕ) → length (reset_all n rs zs) ≡ length zs
resets_long n [] zs = refl
resets_long n (None ∷ rs) zs = resets_long n rs zs
resets_long n (Some r ∷ rs) zs = resets_long n rs (set zs r.clock n) ∙ length-set zs r.clock n

clocks_long : (n : ℕ) (ds : List Edge) (zs : List ℕ) → length (reset_edges n ds zs) ≡ length zs
clocks_long n [] zs = refl
clocks_long n (d ∷ ds) zs = clocks_long n ds (reset_all n d.resets zs) ∙ resets_long n d.resets zs

places_long : (p : Plan) (ds : List Edge) (ls : List ℕ) → length (move_edges p ds ls) ≡ length ls
places_long p [] ls = refl
places_long p (d ∷ ds) ls = places_long p ds (set ls (automaton p d.from) d.to) ∙ length-set ls (automaton p d.from) d.to

starting_long : (n a : ℕ) (ls : List Location) → length (starting_places n a ls) ≡ n
starting_long zero a ls = refl
starting_long (suc n) a ls = omega (arith, starting_long n (a + 1) ls)

triggers_long : (l : Label) (ps : List Bool) → length (take_trigger l ps) ≡ length ps
triggers_long label.Internal ps = refl
triggers_long (label.Trigger x) ps = length-set ps x false
triggers_long (label.Send c) ps = refl
triggers_long (label.Receive c) ps = refl

none_zeroed : (n c : ℕ) → ◌≡◌ {A = ℕ} (get_or (replicate n 0) c 0) 0
none_zeroed zero c = refl
none_zeroed (suc n) zero = refl
none_zeroed (suc n) (suc c) = none_zeroed n c

-- ---- by phase: which jobs have work left, whether any is late, and how many were done

abbrev Busy : Job → Type 0
Busy j = 0 < j.remaining

abbrev BusyRest : List Job → Type 0
BusyRest [] = Unit {0}
BusyRest (j ∷ js) = AllByRecursion Busy js

abbrev InTime : ℕ → Job → Type 0
InTime n j = late n j ≡ false

-- at most as many numbers given as wait and were done, one a tick
abbrev FirstOver : List Job → Type 0
FirstOver [] = ⊥
FirstOver (j ∷ js) = j.remaining ≡ 0

abbrev ByPhase : Phase → (now next : ℕ) → List Job → Type 0
ByPhase Late now next js = BusyRest js × (next ≤ length js + (now - 1)) × (now ≡ 0 → js ≡ [])
ByPhase Finish now next js = BusyRest js × AllByRecursion (InTime now) js × (next ≤ length js + now) × (FirstOver js → next + 1 ≤ length js + now)
ByPhase Arrival now next js = AllByRecursion Busy js × (next ≤ length js + now) × AllByRecursion (InTime now) js
ByPhase Edges now next js = AllByRecursion Busy js × (next ≤ length js + now) × AllByRecursion (InTime now) js
ByPhase Close now next js = AllByRecursion Busy js × (next ≤ length js + now) × AllByRecursion (InTime now) js
ByPhase Pass now next js = AllByRecursion Busy js × (next ≤ length js + now) × AllByRecursion (InTime now) js

abbrev Spent : List Event → Job → Type 0
Spent es j = ticks_worked j.number es + j.remaining ≡ j.cost

pub record Right (p : Plan) (es : List Event) (s : State) : Type 0 where
  pub counted : Counted es s
  pub same_plan : s.plan ≡ p
  pub few : length s.waiting ≤ most_jobs
  pub steps : s.steps ≤ most_steps
  pub values : InRanges p.variables s.values
  pub time : s.now ≤ last_tick
  pub spent : AllByRecursion (Spent es) s.waiting
  pub by_phase : ByPhase s.phase s.now s.next s.waiting
  pub places : length s.places ≡ p.counts.automata
  pub clocks : length s.zeroed ≡ p.counts.clocks
  pub triggers : length s.present ≡ p.counts.triggers
  pub zeroed : ZeroedBy s.now s.zeroed
  pub releases : AllByRecursion (λ j. j.release ≤ s.now) s.waiting
  pub closed : s.phase ≡ Pass → NonePresent s.present

-- ---- lists of jobs

serve_long : (js : List Job) → length (serve_first js) ≡ length js
serve_long [] = refl
serve_long (j ∷ js) = refl

all_served : (P : Job → Type 0) → ((j : Job) → P j → P (worked j)) → (js : List Job) → AllByRecursion P js → AllByRecursion P (serve_first js)
all_served P f [] h = h
all_served P f (j ∷ js) h = (f j h.0, h.1)

busy_served : (js : List Job) → AllByRecursion Busy js → BusyRest (serve_first js)
busy_served [] h = tt
busy_served (j ∷ js) h = h.1

busy_tail : (js : List Job) → AllByRecursion Busy js → BusyRest js
busy_tail [] h = tt
busy_tail (j ∷ js) h = h.1

busy_first : (js : List Job) → AllByRecursion Busy js → FirstOver js → ⊥
busy_first [] h f = f
busy_first (j ∷ js) h f = omega (arith, h.0)

-- nothing finished: all have work left
busy_all : (js : List Job) → BusyRest js → finished js ≡ None → AllByRecursion Busy js
busy_all [] h n = tt
busy_all (j ∷ js) h n = (by (cases_eq j.remaining 0), h)
  where
    by : (j.remaining ≡ 0) ⊎ (j.remaining ≡ 0 → ⊥) → 0 < j.remaining
    by (inl z) = let q = cond-true (eqb j.remaining 0) (Some j) None (eq-eqb j.remaining 0 z) in let x : ◌≡◌ {A = ℕ} 0 1 = cc in absurd (omega arith)
    by (inr z) = omega (arith, z)

-- nobody late
in_time_one : (n : ℕ) (j : Job) (js : List Job) → first_late n (j ∷ js) ≡ None → (late n j ≡ true) ⊎ (late n j ≡ false) → (late n j ≡ false) × (first_late n js ≡ None)
in_time_one n j js h (inl t) = let q = cond-true (late n j) (Some j) (first_late n js) t in let x : ◌≡◌ {A = ℕ} 0 1 = cc in absurd (omega arith)
in_time_one n j js h (inr f) = (f, sym (cond-false (late n j) (Some j) (first_late n js) f) ∙ h)

in_time : (n : ℕ) (js : List Job) → first_late n js ≡ None → AllByRecursion (InTime n) js
in_time n [] h = tt
in_time n (j ∷ js) h = let q = in_time_one n j js h (cases_Bool (late n j)) in (q.0, in_time n js q.1)

first_over : (j : Job) (js ws : List Job) → ws ≡ j ∷ js → j.remaining ≡ 0 → FirstOver ws
first_over j js ws e z = subst FirstOver (sym e) z

some_waits : (ws : List Job) → FirstOver ws → ws ≡ [] → ⊥
some_waits [] f e = f
some_waits (j ∷ js) f e = let x : ◌≡◌ {A = ℕ} 0 1 = cc in omega arith

-- ---- a task's cost is at least one tick

costs : (p : Plan) → Sound p → (i : ℕ) (t : Task) → slice_get p.tasks i ≡ Some t → 0 < t.cost
costs p s i t e = by p.tasks i s.tasks e
  where
    by : (ts : List Task) (i : ℕ) → each (task_fits (scope p)) ts ≡ true → slice_get ts i ≡ Some t → 0 < t.cost
    by [] i h f = let x : ◌≡◌ {A = ℕ} 0 1 = cc in absurd (omega arith)
    by (u ∷ us) zero h f = let q : u ≡ t = cc in let a = and_parts _ _ h in let b = leb-true 1 u.cost (and_parts _ _ a.0).0 in omega (arith, ap (λ v. v.cost) q)
    by (u ∷ us) (suc i) h f = by us i (and_parts _ _ h).1 f

-- ---- releases

record Released (es : List Event) (now : ℕ) (q : Queue) : Type 0 where
  spent : AllByRecursion (Spent es) q.jobs
  busy : AllByRecursion Busy q.jobs
  few : q.next ≤ length q.jobs + now
  unused : (n : ℕ) → q.next ≤ n → ticks_worked n es ≡ 0
  releases : AllByRecursion (λ j. j.release ≤ now) q.jobs
  in_time : AllByRecursion (InTime now) q.jobs

release_right : (g : JobKey → JobKey → Bool) (p : Plan) → Sound p → (es : List Event) (now : ℕ) (ds : List Edge) (q : Queue) → Released es now q → Released es now (release_edges g p now ds q)
release_right g p s es now = all_kept g p now (Released es now) (λ i t q e h.
    let j = released_job q.next i t.cost t.deadline t.priority now in
    record {
      spent = all_put (job_before g) (Spent es) j q.jobs (omega (arith, h.unused q.next (omega arith))) h.spent;
      busy = all_put (job_before g) Busy j q.jobs (costs p s i t e) h.busy;
      few = omega (arith, length_put (job_before g) j q.jobs, h.few);
      unused = λ n l. h.unused n (omega arith);
      releases = all_put (job_before g) (λ k. k.release ≤ now) j q.jobs (omega arith) h.releases;
      in_time = all_put (job_before g) (InTime now) j q.jobs (le-ltb t.deadline (now - now) (omega arith)) h.in_time;
    })

-- ---- the invariant is kept

spent_still : (es : List Event) (e : Event) → ((n : ℕ) → works_in n e ≡ 0) → (js : List Job) → AllByRecursion (Spent es) js → AllByRecursion (Spent (es ++ e ∷ [])) js
spent_still es e i js h = All-weaker (Spent es) (Spent (es ++ e ∷ [])) (λ j k. omega (arith, worked_more j.number es e, i j.number, k)) js h

spent_others : (es : List Event) (e : Event) (n : ℕ) → ((m : ℕ) → (m ≡ n → ⊥) → works_in m e ≡ 0) → (js : List Job) → AllByRecursion (λ k. k.number ≡ n → ⊥) js → AllByRecursion (Spent es) js → AllByRecursion (Spent (es ++ e ∷ [])) js
spent_others es e n i [] a h = tt
spent_others es e n i (j ∷ js) a h = (omega (arith, worked_more j.number es e, i j.number a.0, h.0), spent_others es e n i js a.1 h.1)

spent_served : (es : List Event) (js : List Job) → NumbersApart js → AllByRecursion Busy js → AllByRecursion (Spent es) js → AllByRecursion (Spent (es ++ Passed (worker js) ∷ [])) (serve_first js)
spent_served es [] a b h = tt
spent_served es (j ∷ js) a b h = (
  omega (arith, worked_more j.number es (Passed (worker (j ∷ js))), ap count_if (eq-eqb j.number j.number refl), h.0, b.0),
  spent_others es (Passed (worker (j ∷ js))) j.number (λ m n. ap count_if (ne_eqb j.number m (λ e. n (sym e)))) js a.0 h.1,
)

module _ (g : JobKey → JobKey → Bool) (p : Plan) (valid : Sound p) where
  in_phase_of : (q : Phase) (es : List Event) (s : State) → s.phase ≡ q → Right p es s → ByPhase q s.now s.next s.waiting
  in_phase_of q es s e o = subst (λ r. ByPhase r s.now s.next s.waiting) e o.by_phase

  -- leaving a phase
  left : (q : Phase) (es : List Event) (s : State) → (h : Leaves q s (in_phase (behind q) s)) → Right p es s → ByPhase (behind q) s.now s.next s.waiting × (behind q ≡ Pass → NonePresent s.present)
  left Late es s h o = let b = in_phase_of Late es s h.in_phase_p o in ((b.0, in_time s.now s.waiting h.nothing_due, omega (arith, b.1), λ f. omega (arith, b.1, λ (z : s.now ≡ 0). some_waits s.waiting f (b.2 z))), λ e. absurd (phases e))
    where
      phases : Finish ≡ Pass → ⊥
      phases e = let x : ◌≡◌ {A = ℕ} 0 1 = cc in omega arith
  left Finish es s h o = let b = in_phase_of Finish es s h.in_phase_p o in ((busy_all s.waiting b.0 h.nothing_due, b.2, b.1), λ e. absurd (phases e))
    where
      phases : Arrival ≡ Pass → ⊥
      phases e = let x : ◌≡◌ {A = ℕ} 0 1 = cc in omega arith
  left Arrival es s h o = (in_phase_of Arrival es s h.in_phase_p o, λ e. absurd (phases e))
    where
      phases : Edges ≡ Pass → ⊥
      phases e = let x : ◌≡◌ {A = ℕ} 0 1 = cc in omega arith
  left Edges es s h o = (in_phase_of Edges es s h.in_phase_p o, λ e. absurd (phases e))
    where
      phases : Close ≡ Pass → ⊥
      phases e = let x : ◌≡◌ {A = ℕ} 0 1 = cc in omega arith
  left Close es s h o = (in_phase_of Close es s h.in_phase_p o, λ _. h.nothing_due)
  left Pass es s h o = absurd h.nothing_due

  kept : (es : List Event) (e : Event) (s t : State) → Right p es s → Counted (es ++ e ∷ []) t → Kind g e s t → Right p (es ++ e ∷ []) t
  kept es e s t o c (inl h) = record {
    counted = c;
    same_plan = h.plan ∙ o.same_plan;
    few = omega (arith, ap length h.waiting, o.few);
    steps = omega (arith, h.steps, o.steps);
    values = subst (InRanges p.variables) (sym h.values) o.values;
    time = omega (arith, h.now, o.time);
    spent = subst (AllByRecursion (Spent (es ++ e ∷ []))) (sym h.waiting) (spent_still es e h.idle s.waiting o.spent);
    by_phase = subst (λ (js : List Job). ByPhase t.phase t.now t.next js) (sym h.waiting)
        (subst (λ (n : ℕ). ByPhase t.phase t.now n s.waiting) (sym h.next)
        (subst (λ (n : ℕ). ByPhase t.phase n s.next s.waiting) (sym h.now)
        (subst (λ (q : Phase). ByPhase q s.now s.next s.waiting) (sym h.phase) o.by_phase)));
    places = ap length h.places ∙ o.places;
    clocks = ap length h.zeroed ∙ o.clocks;
    triggers = h.triggers ∙ o.triggers;
    zeroed = λ k. omega (arith, ap (λ zs. get_or zs k 0) h.zeroed, h.now, o.zeroed k);
    releases = subst (AllByRecursion (λ j. j.release ≤ t.now)) (sym h.waiting) (subst (λ (n : ℕ). AllByRecursion (λ j. j.release ≤ n) s.waiting) (sym h.now) o.releases);
    closed = λ q. let b : s.phase ≡ Pass = sym h.phase ∙ q in subst NonePresent (sym (h.closed b)) (o.closed b);
  }
  kept es e s t o c (inr (inl (q, l, h))) =
      let m : Leaves q s (in_phase (behind q) s) = record { in_phase_p = h.in_phase_p; nothing_due = h.nothing_due; after = refl } in
      let b = left q es s m o in
      let i : (n : ℕ) → works_in n e ≡ 0 = λ n. ap (works_in n) l in
      subst (λ (u : State). Counted (es ++ e ∷ []) u → Right p (es ++ e ∷ []) u) (sym h.after) (λ d. record {
        counted = d;
        same_plan = o.same_plan;
        few = o.few;
        steps = o.steps;
        values = o.values;
        time = o.time;
        spent = spent_still es e i s.waiting o.spent;
        by_phase = b.0;
        places = o.places;
        clocks = o.clocks;
        triggers = o.triggers;
        zeroed = o.zeroed;
        releases = o.releases;
        closed = b.1;
      }) c
  kept es e s t o c (inr (inr (inl (k, n, q, l, h)))) =
      let ds = sides h.tries.edge h.tries.mate in
      let b = in_phase_of Edges es s h.tries.in_edges o in
      let i : (m : ℕ) → works_in m e ≡ 0 = λ m. ap (works_in m) l in
      let r : Released es s.now (released g ds s) = subst (λ (x : Plan). Released es s.now (release_edges g x s.now ds (record { next = s.next; jobs = s.waiting }))) (sym o.same_plan)
      (release_right g p valid es s.now ds (record { next = s.next; jobs = s.waiting }) (record { spent = o.spent; busy = b.0; few = b.1; unused = o.counted.unused; releases = o.releases; in_time = b.2 })) in
      let v : InRanges p.variables h.values = subst (InRangesIf p.variables) (ap (λ (x : Plan). assign_edges x.variables ds s.values) (sym o.same_plan) ∙ h.assigned) (edges_in_range p.variables ds s.values o.values) in
      subst (λ (u : State). Counted (es ++ e ∷ []) u → Right p (es ++ e ∷ []) u) (sym h.after) (λ d. record {
        counted = d;
        same_plan = o.same_plan;
        few = h.room;
        steps = omega (arith, h.few);
        values = v;
        time = o.time;
        spent = spent_still es e i (released g ds s).jobs r.spent;
        by_phase = subst (λ (x : Phase). ByPhase x s.now (released g ds s).next (released g ds s).jobs) (sym h.tries.in_edges) (r.busy, r.few, r.in_time);
        places = places_long s.plan ds s.places ∙ o.places;
        clocks = clocks_long s.now ds s.zeroed ∙ o.clocks;
        triggers = triggers_long h.tries.edge.label s.present ∙ o.triggers;
        zeroed = edges_zeroed s.now ds s.zeroed o.zeroed;
        releases = r.releases;
        closed = λ x. absurd (not_edges (sym h.tries.in_edges ∙ x));
      }) c
    where
      not_edges : Edges ≡ Pass → ⊥
      not_edges x = let z : ◌≡◌ {A = ℕ} 0 1 = cc in omega arith
  kept es e s t o c (inr (inr (inr (inl (k, i, n, l, h))))) =
      let d = h.done in
      let b = in_phase_of Finish es s d.in_finish o in
      let w : AllByRecursion (Spent es) (d.job ∷ d.rest) = subst (AllByRecursion (Spent es)) d.waits o.spent in
      let rl : AllByRecursion (λ j. j.release ≤ s.now) (d.job ∷ d.rest) = subst (AllByRecursion (λ j. j.release ≤ s.now)) d.waits o.releases in
      let busy : BusyRest (d.job ∷ d.rest) = subst BusyRest d.waits b.0 in
      let tm : AllByRecursion (InTime s.now) (d.job ∷ d.rest) = subst (AllByRecursion (InTime s.now)) d.waits b.1 in
      let lg : length s.waiting ≡ length d.rest + 1 = ap length d.waits ∙ omega arith in
      let less : s.next + 1 ≤ length s.waiting + s.now = b.3 (first_over d.job d.rest s.waiting d.waits d.over) in
      let idle : (m : ℕ) → works_in m e ≡ 0 = λ m. ap (works_in m) l in
      let v : InRanges p.variables h.values = subst (InRangesIf p.variables) (ap (λ (x : Plan). assign_all x.variables (task_assignments s.plan d.job.task) s.values) (sym o.same_plan) ∙ h.assigned) (all_in_range p.variables (task_assignments s.plan d.job.task) s.values o.values) in
      subst (λ (u : State). Counted (es ++ e ∷ []) u → Right p (es ++ e ∷ []) u) (sym h.after) (λ cd. record {
        counted = cd;
        same_plan = o.same_plan;
        few = omega (arith, lg, o.few);
        steps = o.steps;
        values = v;
        time = o.time;
        spent = spent_still es e idle d.rest w.1;
        by_phase = subst (λ (x : Phase). ByPhase x s.now s.next d.rest) (sym d.in_finish) (busy_tail d.rest busy, tm.1, omega (arith, lg, less), λ f. absurd (busy_first d.rest busy f));
        places = o.places;
        clocks = o.clocks;
        triggers = o.triggers;
        zeroed = o.zeroed;
        releases = rl.1;
        closed = o.closed;
      }) c
  kept es e s t o c (inr (inr (inr (inr (w, l, h))))) =
      let b = in_phase_of Pass es s h.in_pass o in
      let named : e ≡ Passed (worker s.waiting) = l ∙ ap Passed h.works in
      subst (λ (u : State). Counted (es ++ e ∷ []) u → Right p (es ++ e ∷ []) u) (sym h.after) (λ d. record {
        counted = d;
        same_plan = o.same_plan;
        few = omega (arith, serve_long s.waiting, o.few);
        steps = omega arith;
        values = o.values;
        time = omega (arith, h.before_last);
        spent = subst (λ (x : Event). AllByRecursion (Spent (es ++ x ∷ [])) (serve_first s.waiting)) (sym named) (spent_served es s.waiting o.counted.numbered.apart b.0 o.spent);
        by_phase = (busy_served s.waiting b.0, omega (arith, serve_long s.waiting, b.1), λ z. absurd (omega arith));
        places = o.places;
        clocks = o.clocks;
        triggers = o.triggers;
        zeroed = λ k. omega (arith, o.zeroed k);
        releases = all_served (λ j. j.release ≤ s.now + 1) (λ j k. k) s.waiting (All-weaker (λ j. j.release ≤ s.now) (λ j. j.release ≤ s.now + 1) (λ j k. omega arith) s.waiting o.releases);
        closed = λ x. absurd (not_late x);
      }) c
    where
      not_late : Late ≡ Pass → ⊥
      not_late x = let z : ◌≡◌ {A = ℕ} 0 1 = cc in omega arith

  right_kept : (es : List Event) (e : Event) (s t : State) → Right p es s → Free g e s t → Right p (es ++ e ∷ []) t
  right_kept es e s t o h = kept es e s t o (counted_kept g es e s t o.counted h) (kind g e s t h)

  pub right : (ts : List Trigger) (es : List Event) (s : State) → Run (Free g) (start p ts) es s → Right p es s
  right ts es s r = along g (Right p) right_kept [] es (start p ts) s (record {
    counted = counted_start g p ts;
    same_plan = refl;
    few = omega arith;
    steps = omega arith;
    values = record { long = starts_long p.variables; each_in = starts_in_range p.variables valid.variables };
    time = omega arith;
    spent = tt;
    by_phase = (tt, omega arith, λ _. refl);
    places = starting_long p.counts.automata 0 p.locations;
    clocks = length-replicate p.counts.clocks 0;
    triggers = length-replicate p.counts.triggers false;
    zeroed = λ c. omega (arith, none_zeroed p.counts.clocks c);
    releases = tt;
    closed = λ x. absurd (late_not x);
  }) r
    where
      late_not : Late ≡ Pass → ⊥
      late_not x = let z : ◌≡◌ {A = ℕ} 0 1 = cc in omega arith

-- ---- the laws

pub done_means_exactly_C_within_D : DoneMeansExactlyCWithinD
done_means_exactly_C_within_D g p valid ts es s t tick task number r h =
    let o = right g p (sound_facts p valid.0) ts es s r in
    let d = h.does.done in
    let w : AllByRecursion (Spent es) (d.job ∷ d.rest) = subst (AllByRecursion (Spent es)) d.waits o.spent in
    let tm : AllByRecursion (InTime s.now) (d.job ∷ d.rest) = subst (AllByRecursion (InTime s.now)) d.waits (in_phase_of g p (sound_facts p valid.0) Finish es s d.in_finish o).1 in
    record {
      job = d.job;
      rest = d.rest;
      first = d.waits;
      is_number = d.named;
      is_task = d.own;
      exactly = omega (arith, w.0, d.over, ap (λ n. ticks_worked n es) d.named);
      within = omega (arith, d.this_tick, ltb-false d.job.deadline (s.now - d.job.release) tm.0);
    }

count_of : (q : Phase) (now next : ℕ) (js : List Job) → ByPhase q now next js → next ≤ length js + now
count_of Late now next js h = omega (arith, h.1)
count_of Finish now next js h = h.2
count_of Arrival now next js h = h.1
count_of Edges now next js h = h.1
count_of Close now next js h = h.1
count_of Pass now next js h = h.1

times_of : (q : Phase) (now next : ℕ) (js : List Job) → (q ≡ Late → ⊥) → ByPhase q now next js → AllByRecursion (InTime now) js
times_of Late now next js n h = absurd (n refl)
times_of Finish now next js n h = h.1
times_of Arrival now next js n h = h.2
times_of Edges now next js n h = h.2
times_of Close now next js n h = h.2
times_of Pass now next js n h = h.2

-- a step with no release leaves the queue as it was
same_or_more : (g : JobKey → JobKey → Bool) (p : Plan) (tick : ℕ) (q₀ : Queue) (ds : List Edge) (q : Queue) → ((q.jobs ≡ q₀.jobs) ⊎ (q₀.next < q.next)) × (q₀.next ≤ q.next) → (((release_edges g p tick ds q).jobs ≡ q₀.jobs) ⊎ (q₀.next < (release_edges g p tick ds q).next)) × (q₀.next ≤ (release_edges g p tick ds q).next)
same_or_more g p tick q₀ = all_kept g p tick (λ q. ((q.jobs ≡ q₀.jobs) ⊎ (q₀.next < q.next)) × (q₀.next ≤ q.next)) (λ i t q e h. (inr (omega (arith, h.1)), omega (arith, h.1)))

pub nothing_leaves_its_bounds : NothingLeavesItsBounds
nothing_leaves_its_bounds g p valid ts es s r = (
  record {
    same_plan = o.same_plan;
    jobs = o.few;
    steps = o.steps;
    values = o.values;
    time = o.time;
    apart = o.counted.numbered.apart;
    given = o.counted.numbered.given;
    numbers = omega (arith, count_of s.phase s.now s.next s.waiting o.by_phase, o.few);
    places = o.places;
    clocks = o.clocks;
    triggers = o.triggers;
    zeroed = o.zeroed;
    releases = o.releases;
    in_time = λ n. All-weaker (InTime s.now) (λ j. s.now ≤ j.release + j.deadline) (λ j f. omega (arith, ltb-false j.deadline (s.now - j.release) f)) s.waiting (times_of s.phase s.now s.next s.waiting n o.by_phase);
    closed = o.closed;
  },
  overload,
)
  where
    o : Right p es s
    o = right g p (sound_facts p valid.0) ts es s r

    overload : (tick e : ℕ) (t : State) (h : Refuses g tick Overload e s t) → s.next < (released g (sides h.tries.edge h.tries.mate) s).next
    overload tick e t h = by (same_or_more g s.plan s.now (record { next = s.next; jobs = s.waiting }) (sides h.tries.edge h.tries.mate) (record { next = s.next; jobs = s.waiting }) (inl refl, omega arith)).0
      where
        by : ((released g (sides h.tries.edge h.tries.mate) s).jobs ≡ s.waiting) ⊎ (s.next < (released g (sides h.tries.edge h.tries.mate) s).next) → s.next < (released g (sides h.tries.edge h.tries.mate) s).next
        by (inl q) = absurd (omega (arith, ap length q, h.fails.2, o.few))
        by (inr q) = q
