-- The state of a run, and the one it starts in.
use Rattle.std.specs.Prelude.{ℕ, zero, suc, ◌+◌, Bool, true, false, cond, List, [], ◌∷◌, replicate, ℤ, Some, None, Option, ◌==◌}
use Rattle.std.specs.List.{slice_get}
use Rattle.jobs.specs.declared.job.Job.{Job}
use Rattle.sources.specs.declared.trigger.Trigger.{Trigger}
use Rattle.parts.specs.declared.part.Variable.{Variable}
use Rattle.parts.specs.declared.part.Location.{Location}
use Rattle.sequence.specs.Plan.{Plan}
use Rattle.runs.specs.declared.event.Phase.{Phase}
use Rattle.runs.specs.declared.event.Phase.TheVariants.{Late}

pub record State : Type 0 where
  pub plan : Plan
  pub now : ℕ
  pub phase : Phase
  -- the current location of each automaton
  pub places : List ℕ
  -- the tick of each clock's last zeroing
  pub zeroed : List ℕ
  pub values : List ℤ
  pub waiting : List Job
  -- the number of the next job
  pub next : ℕ
  pub present : List Bool
  -- steps of this tick
  pub steps : ℕ
  pub ended : Bool
  -- the triggers still to come
  pub coming : List Trigger

-- the most jobs that wait, and the most steps of one tick
abbrev pub most_jobs : ℕ
most_jobs = 32

abbrev pub most_steps : ℕ
most_steps = 64

-- the automaton of a location
abbrev pub automaton_in : Option Location → ℕ
automaton_in None = 0
automaton_in (Some l) = l.automaton

abbrev pub automaton : Plan → ℕ → ℕ
automaton p l = automaton_in (slice_get p.locations l)

-- the lowest location of an automaton
abbrev pub lowest : ℕ → ℕ → List Location → ℕ
lowest a i [] = 0
lowest a i (l ∷ ls) = cond (l.automaton == a) i (lowest a (i + 1) ls)

abbrev pub starting_places : ℕ → ℕ → List Location → List ℕ
starting_places zero a ls = []
starting_places (suc n) a ls = lowest a 0 ls ∷ starting_places n (a + 1) ls

abbrev pub starting_values : List Variable → List ℤ
starting_values [] = []
starting_values (v ∷ vs) = v.start ∷ starting_values vs

abbrev pub start : Plan → List Trigger → State
start p ts = record {
  plan = p;
  now = 0;
  phase = Late;
  places = starting_places p.counts.automata 0 p.locations;
  zeroed = replicate p.counts.clocks 0;
  values = starting_values p.variables;
  waiting = [];
  next = 0;
  present = replicate p.counts.triggers false;
  steps = 0;
  ended = false;
  coming = ts;
}

-- ---- changes of one part

abbrev pub in_phase : Phase → State → State
in_phase p s = record { plan = s.plan; now = s.now; phase = p; places = s.places; zeroed = s.zeroed; values = s.values; waiting = s.waiting; next = s.next; present = s.present; steps = s.steps; ended = s.ended; coming = s.coming }

abbrev pub with_jobs : List Job → List ℤ → State → State
with_jobs js vs s = record { plan = s.plan; now = s.now; phase = s.phase; places = s.places; zeroed = s.zeroed; values = vs; waiting = js; next = s.next; present = s.present; steps = s.steps; ended = s.ended; coming = s.coming }

abbrev pub with_triggers : List Bool → List Trigger → State → State
with_triggers ps ts s = record { plan = s.plan; now = s.now; phase = s.phase; places = s.places; zeroed = s.zeroed; values = s.values; waiting = s.waiting; next = s.next; present = ps; steps = s.steps; ended = s.ended; coming = ts }

abbrev pub stopped : State → State
stopped s = record { plan = s.plan; now = s.now; phase = s.phase; places = s.places; zeroed = s.zeroed; values = s.values; waiting = s.waiting; next = s.next; present = s.present; steps = s.steps; ended = true; coming = s.coming }
