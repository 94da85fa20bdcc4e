-- Open edges, the foremost one, and what taking one changes.
use Rattle.std.specs.Prelude.{◌≡◌, ℕ, ◌+◌, ◌<◌, Bool, true, false, cond, not, ◌&&◌, List, [], ◌∷◌, ℤ, Some, None, Option, ◌==◌, slice_index_or, slice_set}
use Rattle.std.specs.List.{slice_get}
use Rattle.jobs.specs.declared.job.JobKey.{JobKey}
use Rattle.parts.specs.declared.part.Reset.{Reset}
use Rattle.parts.specs.declared.part.Label.{Label}
use Rattle.parts.specs.declared.part.Label.TheVariants as label
use Rattle.parts.specs.declared.part.Edge.{Edge}
use Rattle.sequence.specs.Plan.{Plan}
use Rattle.runs.specs.State.{State, automaton}
use Rattle.runs.specs.Guards.{guard_holds}
use Rattle.runs.specs.Jobs.{Queue, release_edges}

abbrev pub is_at : Option ℕ → ℕ → Bool
is_at None l = false
is_at (Some m) l = m == l

-- an edge leaves the current location of its automaton
abbrev pub leaves_current : Plan → List ℕ → Edge → Bool
leaves_current p places d = is_at (slice_get places (automaton p d.from)) d.from

-- ready: it leaves a current location, and its guard holds
abbrev pub ready : State → Edge → Bool
ready s d = leaves_current s.plan s.places d && guard_holds s.zeroed s.values s.now d.guard

-- a label that asks for no partner and has what it asks for
abbrev pub goes_alone : List Bool → Label → Bool
goes_alone present label.Internal = true
goes_alone present (label.Trigger x) = slice_index_or present x false
goes_alone present (label.Send c) = false
goes_alone present (label.Receive c) = false

-- one sends and the other receives on one channel
abbrev pub opposite : Label → Label → Bool
opposite label.Internal m = false
opposite (label.Trigger x) m = false
opposite (label.Send c) label.Internal = false
opposite (label.Send c) (label.Trigger x) = false
opposite (label.Send c) (label.Send e) = false
opposite (label.Send c) (label.Receive e) = c == e
opposite (label.Receive c) label.Internal = false
opposite (label.Receive c) (label.Trigger x) = false
opposite (label.Receive c) (label.Send e) = c == e
opposite (label.Receive c) (label.Receive e) = false

-- c is a fitting partner of d: a ready edge of another automaton with the opposite label
abbrev pub fits : State → Edge → Edge → Bool
fits s d c = not (automaton s.plan d.from == automaton s.plan c.from) && (ready s c && opposite d.label c.label)

-- with which partner an edge may be taken, or with none
abbrev pub Joins : State → Edge → Option ℕ → Option Edge → Type 0
Joins s d None None = goes_alone s.present d.label ≡ true
Joins s d None (Some c) = ⊥
Joins s d (Some p) None = ⊥
Joins s d (Some p) (Some c) = (slice_get s.plan.edges p ≡ Some c) × (fits s d c ≡ true)

-- the edge e is open, with a partner or with none
pub record Open (s : State) (e : ℕ) (p : Option ℕ) (d : Edge) (c : Option Edge) : Type 0 where
  pub found : slice_get s.plan.edges e ≡ Some d
  pub is_ready : ready s d ≡ true
  pub joins : Joins s d p c

abbrev pub Shut : State → ℕ → Type 0
Shut s e = (p : Option ℕ) (d : Edge) (c : Option Edge) → Open s e p d c → ⊥

abbrev pub NoneOpen : State → Type 0
NoneOpen s = (k : ℕ) → Shut s k

-- no partner with a lower number
abbrev pub LowestPartner : State → ℕ → Option ℕ → Type 0
LowestPartner s e None = Unit {0}
LowestPartner s e (Some p) = (k : ℕ) (d : Edge) (c : Option Edge) → k < p → Open s e (Some k) d c → ⊥

-- no edge with a lower number is open, and no lower partner fits
pub record Foremost (s : State) (e : ℕ) (p : Option ℕ) : Type 0 where
  pub lowest : (k : ℕ) → k < e → Shut s k
  pub partner : LowestPartner s e p

-- the edge e is the foremost open one, with the partner p
pub record Found (s : State) (e : ℕ) (p : Option ℕ) : Type 0 where
  pub edge : Edge
  pub mate : Option Edge
  pub opens : Open s e p edge mate
  pub foremost : Foremost s e p

-- what a search for the foremost open edge and its partner answers
abbrev pub Finds : State → Option (ℕ × Option ℕ) → Type 0
Finds s None = NoneOpen s
Finds s (Some x) = Found s x.0 x.1

-- ---- taking an edge

abbrev pub receives : Label → Bool
receives label.Internal = false
receives (label.Trigger x) = false
receives (label.Send c) = false
receives (label.Receive c) = true

-- the edges of a step: the sender's, then the receiver's
abbrev pub sides : Edge → Option Edge → List Edge
sides d None = d ∷ []
sides d (Some c) = cond (receives d.label) (c ∷ d ∷ []) (d ∷ c ∷ [])

abbrev pub reset_one : ℕ → Option Reset → List ℕ → List ℕ
reset_one tick None zeroed = zeroed
reset_one tick (Some r) zeroed = slice_set zeroed r.clock tick

abbrev pub reset_all : ℕ → List (Option Reset) → List ℕ → List ℕ
reset_all tick [] zeroed = zeroed
reset_all tick (r ∷ rs) zeroed = reset_all tick rs (reset_one tick r zeroed)

abbrev pub reset_edges : ℕ → List Edge → List ℕ → List ℕ
reset_edges tick [] zeroed = zeroed
reset_edges tick (d ∷ ds) zeroed = reset_edges tick ds (reset_all tick d.resets zeroed)

abbrev pub move_edges : Plan → List Edge → List ℕ → List ℕ
move_edges p [] places = places
move_edges p (d ∷ ds) places = move_edges p ds (slice_set places (automaton p d.from) d.to)

-- the trigger of an edge is taken
abbrev pub take_trigger : Label → List Bool → List Bool
take_trigger label.Internal present = present
take_trigger (label.Trigger x) present = slice_set present x false
take_trigger (label.Send c) present = present
take_trigger (label.Receive c) present = present

abbrev pub released : (JobKey → JobKey → Bool) → List Edge → State → Queue
released g ds s = release_edges g s.plan s.now ds (record { next = s.next; jobs = s.waiting })

abbrev pub taken : Label → List Edge → List ℤ → Queue → State → State
taken l ds values q s = record {
  plan = s.plan;
  now = s.now;
  phase = s.phase;
  places = move_edges s.plan ds s.places;
  zeroed = reset_edges s.now ds s.zeroed;
  values = values;
  waiting = q.jobs;
  next = q.next;
  present = take_trigger l s.present;
  steps = s.steps + 1;
  ended = s.ended;
  coming = s.coming;
}
