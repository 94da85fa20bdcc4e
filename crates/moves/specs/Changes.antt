-- Changes of one part of a state, and what one side of a step changes.
use Rattle.std.specs.Prelude.{ℕ, ◌+◌, Bool, List, [], ◌∷◌, Some, None, Option, slice_set}
use Rattle.std.specs.List.{slice_get}
use Rattle.jobs.specs.declared.job.JobKey.{JobKey}
use Rattle.parts.specs.declared.part.Task.{Task}
use Rattle.parts.specs.declared.part.Edge.{Edge}
use Rattle.sequence.specs.Plan.{Plan}
use Rattle.runs.specs.State.{State, automaton}
use Rattle.runs.specs.Jobs.{Queue, task_in, release_number}
use Rattle.runs.specs.Edges.{reset_all}

abbrev pub with_zeroed : List ℕ → State → State
with_zeroed zs s = record { plan = s.plan; now = s.now; phase = s.phase; places = s.places; zeroed = zs; values = s.values; waiting = s.waiting; next = s.next; present = s.present; steps = s.steps; ended = s.ended; coming = s.coming }

abbrev pub with_places : List ℕ → State → State
with_places ps s = record { plan = s.plan; now = s.now; phase = s.phase; places = ps; zeroed = s.zeroed; values = s.values; waiting = s.waiting; next = s.next; present = s.present; steps = s.steps; ended = s.ended; coming = s.coming }

abbrev pub with_queue : Queue → State → State
with_queue q s = record { plan = s.plan; now = s.now; phase = s.phase; places = s.places; zeroed = s.zeroed; values = s.values; waiting = q.jobs; next = q.next; present = s.present; steps = s.steps; ended = s.ended; coming = s.coming }

-- one step more in this tick, and some triggers are present
abbrev pub stepped : List Bool → State → State
stepped ps s = record { plan = s.plan; now = s.now; phase = s.phase; places = s.places; zeroed = s.zeroed; values = s.values; waiting = s.waiting; next = s.next; present = ps; steps = s.steps + 1; ended = s.ended; coming = s.coming }

-- the queue of a state
abbrev pub queue_of : State → Queue
queue_of s = record { next = s.next; jobs = s.waiting }

-- the task of a location is released
abbrev pub location_released : (JobKey → JobKey → Bool) → ℕ → State → State
location_released g l s = with_queue (release_number g s.plan.tasks s.now (task_in (slice_get s.plan.locations l)) (queue_of s)) s

-- one side of a step: its clocks are zeroed, its automaton moves, the task of the new location is released
abbrev pub side_taken : (JobKey → JobKey → Bool) → Edge → State → State
side_taken g d s =
    location_released g d.to (with_places (slice_set s.places (automaton s.plan d.from) d.to) (with_zeroed (reset_all s.now d.resets s.zeroed) s))

-- the sides of a step, one behind the other
abbrev pub sides_taken : (JobKey → JobKey → Bool) → List Edge → State → State
sides_taken g [] s = s
sides_taken g (d ∷ ds) s = sides_taken g ds (side_taken g d s)

-- how many jobs a release makes
abbrev pub one_if : Option Task → ℕ
one_if None = 0
one_if (Some t) = 1

abbrev pub releases_of : List Task → Option ℕ → ℕ
releases_of ts None = 0
releases_of ts (Some i) = one_if (slice_get ts i)

abbrev pub releases_at : Plan → ℕ → ℕ
releases_at p l = releases_of p.tasks (task_in (slice_get p.locations l))

-- how many jobs a step releases
abbrev pub releases : Plan → List Edge → ℕ
releases p [] = 0
releases p (d ∷ ds) = releases_at p d.to + releases p ds
