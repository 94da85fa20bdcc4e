-- The last part of a kind grows: one more assignment, invariant, condition or clock to zero in the first free place of its group.
use Rattle.std.specs.Prelude.{◌≡◌, ℕ, Bool, cond, ◌&&◌, List, [], ◌∷◌, length, Some, None, Ok, Err, Option, Result, nat_lt}
use Rattle.parts.specs.declared.part.Assignment.{Assignment}
use Rattle.parts.specs.declared.part.Reset.{Reset}
use Rattle.parts.specs.declared.part.Condition.{Condition}
use Rattle.parts.specs.declared.part.Invariant.{Invariant}
use Rattle.parts.specs.declared.part.Task.{Task}
use Rattle.parts.specs.declared.part.Location.{Location}
use Rattle.parts.specs.declared.part.Edge.{Edge}
use Rattle.parts.specs.declared.part.Rule.{Rule}
use Rattle.parts.specs.declared.part.Rule.TheVariants.{OutOfTurn, TooMany, BadTask, BadLocation, BadEdge}
use Rattle.parts.specs.Limits.{assignment_fits, reset_fits, invariant_fits, condition_fits}
use Rattle.sequence.specs.Plan.{Plan, scope}
use Rattle.sequence.specs.Building.{none}

-- the parts of a group, in their order
abbrev pub used : {X : Type 0} → List (Option X) → List X
used [] = []
used (None ∷ xs) = used xs
used (Some x ∷ xs) = x ∷ used xs

-- a part put into the first free place of a group
abbrev pub fill : {X : Type 0} → X → List (Option X) → List (Option X)
fill x [] = []
fill x (None ∷ xs) = Some x ∷ xs
fill x (Some y ∷ xs) = Some y ∷ fill x xs

abbrev pub last_of : {X : Type 0} → List X → Option X
last_of [] = None
last_of (x ∷ []) = Some x
last_of (x ∷ y ∷ ys) = last_of (y ∷ ys)

-- the last of a list changed
abbrev pub change_last : {X : Type 0} → (X → X) → List X → List X
change_last f [] = []
change_last f (x ∷ []) = f x ∷ []
change_last f (x ∷ y ∷ ys) = x ∷ change_last f (y ∷ ys)

-- a group has one of n places left
abbrev pub has_room : {X : Type 0} → ℕ → List (Option X) → Bool
has_room n xs = nat_lt (length (used xs)) n

-- ---- the parts, one larger

abbrev pub assigning_task : Assignment → Task → Task
assigning_task a t = record { cost = t.cost; deadline = t.deadline; priority = t.priority; assignments = fill a t.assignments }

abbrev pub limited : Invariant → Location → Location
limited i l = record { automaton = l.automaton; task = l.task; invariants = fill i l.invariants }

abbrev pub guarded : Condition → Edge → Edge
guarded c e = record { from = e.from; to = e.to; label = e.label; guard = fill c e.guard; resets = e.resets; assignments = e.assignments }

abbrev pub resetting : Reset → Edge → Edge
resetting r e = record { from = e.from; to = e.to; label = e.label; guard = e.guard; resets = fill r e.resets; assignments = e.assignments }

abbrev pub assigning_edge : Assignment → Edge → Edge
assigning_edge a e = record { from = e.from; to = e.to; label = e.label; guard = e.guard; resets = e.resets; assignments = fill a e.assignments }

-- ---- plans with their last part changed

abbrev pub with_last_task : (Task → Task) → Plan → Plan
with_last_task f p = record { counts = p.counts; variables = p.variables; tasks = change_last f p.tasks; locations = p.locations; edges = p.edges }

abbrev pub with_last_location : (Location → Location) → Plan → Plan
with_last_location f p = record { counts = p.counts; variables = p.variables; tasks = p.tasks; locations = change_last f p.locations; edges = p.edges }

abbrev pub with_last_edge : (Edge → Edge) → Plan → Plan
with_last_edge f p = record { counts = p.counts; variables = p.variables; tasks = p.tasks; locations = p.locations; edges = change_last f p.edges }

-- ---- growing: there has to be a last part and nothing behind it, its group has room, and what is added fits

abbrev pub grown : {X Y : Type 0} → Option X → (room : X → Bool) → (fits : Bool) → Y → Rule → Result Y Rule
grown None room fits y rule = Err OutOfTurn
grown (Some x) room fits y rule = cond (room x) (cond fits (Ok y) (Err rule)) (Err TooMany)

-- the last of a list grows
abbrev pub last_grown : {X : Type 0} → (room : X → Bool) → (fits : Bool) → (X → X) → Rule → List X → Result (List X) Rule
last_grown room fits more rule xs = grown (last_of xs) room fits (change_last more xs) rule

-- a list became what the outcome says, or its rule is named and nothing changed
abbrev pub Becomes : {Y : Type 0} → (outcome : Result Y Rule) → (before after : Y) → Result Unit Rule → Type 0
Becomes outcome before after (Ok _) = outcome ≡ Ok after
Becomes outcome before after (Err rule) = (outcome ≡ Err rule) × (after ≡ before)

abbrev pub add_task_assignment : Plan → Assignment → Result Plan Rule
add_task_assignment p a =
    cond (none p.locations && none p.edges)
    (grown (last_of p.tasks) (λ t. has_room 4 t.assignments) (assignment_fits (scope p) a) (with_last_task (assigning_task a) p) BadTask)
    (Err OutOfTurn)

abbrev pub add_invariant : Plan → Invariant → Result Plan Rule
add_invariant p i =
    cond (none p.edges)
    (grown (last_of p.locations) (λ l. has_room 2 l.invariants) (invariant_fits (scope p) i) (with_last_location (limited i) p) BadLocation)
    (Err OutOfTurn)

abbrev pub add_condition : Plan → Condition → Result Plan Rule
add_condition p c = grown (last_of p.edges) (λ e. has_room 4 e.guard) (condition_fits (scope p) c) (with_last_edge (guarded c) p) BadEdge

abbrev pub add_reset : Plan → Reset → Result Plan Rule
add_reset p r = grown (last_of p.edges) (λ e. has_room 4 e.resets) (reset_fits (scope p) r) (with_last_edge (resetting r) p) BadEdge

abbrev pub add_edge_assignment : Plan → Assignment → Result Plan Rule
add_edge_assignment p a = grown (last_of p.edges) (λ e. has_room 4 e.assignments) (assignment_fits (scope p) a) (with_last_edge (assigning_edge a) p) BadEdge
