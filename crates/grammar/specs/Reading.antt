-- Reading: the first bad line decides, and on it the first check that fails.
use Rattle.std.specs.Prelude.{ℕ, ◌+◌, Bool, true, false, cond, ◌&&◌, ◌||◌, List, [], ◌∷◌, length, replicate, Some, None, Ok, Err, Option, Result, ◌==◌, nat_le, nat_lt}
use Rattle.parts.specs.declared.part.Counts.{Counts}
use Rattle.parts.specs.declared.part.Variable.{Variable}
use Rattle.parts.specs.declared.part.Assignment.{Assignment}
use Rattle.parts.specs.declared.part.Invariant.{Invariant}
use Rattle.parts.specs.declared.part.Condition.{Condition}
use Rattle.parts.specs.declared.part.Condition.TheVariants as condition
use Rattle.parts.specs.declared.part.Task.{Task as TaskPart}
use Rattle.parts.specs.declared.part.Location.{Location}
use Rattle.parts.specs.declared.part.Edge.{Edge as EdgePart}
use Rattle.sequence.specs.Plan.{Plan, complete, ends_fit}
use Rattle.sequence.specs.Building.{begun, none, next_automaton, with_variable, with_task, with_location, with_edge}
use Rattle.sequence.specs.Growing.{used, last_of, has_room, assigning_task, limited, guarded, resetting, assigning_edge, with_last_task, with_last_location, with_last_edge}
use Rattle.lexical.specs.declared.fault.Place.{Place}
use Rattle.lexical.specs.declared.fault.LineFault.TheVariants.{Malformed, KeyNotAllowed}
use Rattle.lexical.specs.declared.fault.SequenceFault.{SequenceFault}
use Rattle.lexical.specs.declared.fault.SequenceFault.TheVariants.{Line, TextTooLong, TooManyLines, WrongAutomaton, WrongEdgeCount}
use Rattle.lexical.specs.declared.key.Key.{Key}
use Rattle.lexical.specs.declared.key.Key.TheVariants.{Form, Autos, Clocks, Triggers, Chans, Var, Task, Set, Loc, Inv, Edge, Clk, Dif, Val, Zero, Edges}
use Rattle.lexical.specs.Bytes.{pieces, join, cut, same, comma, equals, newline}
use Rattle.lexical.specs.Faults.{place}
use Rattle.lexical.specs.Keys.{key_bytes, key_named}
use Rattle.lexical.specs.Fields.{on, one, count}
use Rattle.grammar.specs.declared.stage.Stage.{Stage}
use Rattle.grammar.specs.declared.stage.Stage.TheVariants.{Variables, Tasks, Locations, Guard, Resets, Assignments}
use Rattle.grammar.specs.Lines.{Fields, row, there}

-- the longest text
abbrev pub longest_text : ℕ
longest_text = 40960

abbrev pub malformed : {A : Type 0} → ℕ → Result A SequenceFault
malformed n = Err (Line (Malformed (place n 1)))

abbrev pub not_allowed : {A : Type 0} → ℕ → Result A SequenceFault
not_allowed n = Err (Line (KeyNotAllowed (place n 1)))

-- ---- the key and the value of a line

abbrev pub keyed : ℕ → Option (List ℕ × List ℕ) → Result (List ℕ × List ℕ) SequenceFault
keyed n None = malformed n
keyed n (Some p) = cond (nat_le 1 (length p.0) && nat_le (length p.0) 8) (Ok p) (malformed n)

-- what stands before and behind the first `=` of line n, with a key of 1 to 8 bytes
abbrev pub key_and_value : ℕ → List ℕ → Result (List ℕ × List ℕ) SequenceFault
key_and_value n l = keyed n (cut equals l)

-- where the value of line n stands
abbrev pub value_place : ℕ → List ℕ → Place
value_place n key = place n (length key + 2)

-- ---- the five lines of counts

-- line n has to have this key and a number from low to high
abbrev pub counted : (k : Key) (low high n : ℕ) → List ℕ × List ℕ → Result ℕ SequenceFault
counted k low high n p = cond (same p.0 (key_bytes k)) ((one (count low high)).parse (value_place n p.0) (pieces comma p.1)) (not_allowed n)

-- the number of the first line, and the other lines; what stands behind the last newline is no line
abbrev pub count_line : (k : Key) (low high n : ℕ) → List (List ℕ) → Result (ℕ × List (List ℕ)) SequenceFault
count_line k low high n [] = malformed n
count_line k low high n (l ∷ []) = malformed n
count_line k low high n (l ∷ m ∷ ls) = on (on (key_and_value n l) (counted k low high n)) (λ v. Ok (v, m ∷ ls))

abbrev pub read_counts : List (List ℕ) → Result (Counts × List (List ℕ)) SequenceFault
read_counts ls =
    on (count_line Form 1 1 1 ls) (λ f.
    on (count_line Autos 1 8 2 f.1) (λ a.
    on (count_line Clocks 0 16 3 a.1) (λ c.
    on (count_line Triggers 0 16 4 c.1) (λ t.
    on (count_line Chans 0 8 5 t.1) (λ h.
    Ok (record { automata = a.0; clocks = c.0; triggers = t.0; channels = h.0 }, h.1))))))

-- ---- which lines may follow

abbrev pub edge_stage : Option EdgePart → Stage
edge_stage None = Guard
edge_stage (Some e) = cond (none (used e.assignments)) (cond (none (used e.resets)) Guard Resets) Assignments

abbrev pub stage_of : Plan → Stage
stage_of p =
    cond (none p.edges)
    (cond (none p.locations) (cond (none p.tasks) Variables Tasks) Locations)
    (edge_stage (last_of p.edges))

-- the stages in their order
abbrev pub stage_rank : Stage → ℕ
stage_rank Variables = 0
stage_rank Tasks = 1
stage_rank Locations = 2
stage_rank Guard = 3
stage_rank Resets = 4
stage_rank Assignments = 5

-- edges need that every automaton has a location
abbrev pub allowed_at : Key → (rank : ℕ) (whole : Bool) → Bool
allowed_at Form r whole = false
allowed_at Autos r whole = false
allowed_at Clocks r whole = false
allowed_at Triggers r whole = false
allowed_at Chans r whole = false
allowed_at Var r whole = r == 0
allowed_at Task r whole = nat_le r 1
allowed_at Set r whole = r == 1 || nat_le 3 r
allowed_at Loc r whole = nat_le r 2
allowed_at Inv r whole = r == 2
allowed_at Edge r whole = nat_le 2 r && whole
allowed_at Clk r whole = r == 3
allowed_at Dif r whole = r == 3
allowed_at Val r whole = r == 3
allowed_at Zero r whole = r == 3 || r == 4
allowed_at Edges r whole = nat_le 2 r && whole

abbrev pub allowed : Key → Plan → Bool
allowed k p = allowed_at k (stage_rank (stage_of p)) (complete p)

-- ---- whether one more line of the kind has room

abbrev pub room_of : {X : Type 0} → (X → Bool) → Option X → Bool
room_of f None = false
room_of f (Some x) = f x

-- the assignments of the last task, or of the last edge where there is one
abbrev pub set_room : Plan → Bool
set_room p = cond (none p.edges) (room_of (λ t. has_room 4 t.assignments) (last_of p.tasks)) (room_of (λ e. has_room 4 e.assignments) (last_of p.edges))

abbrev pub guard_room : Plan → Bool
guard_room p = room_of (λ e. has_room 4 e.guard) (last_of p.edges)

abbrev pub room : Key → Plan → Bool
room Form p = true
room Autos p = true
room Clocks p = true
room Triggers p = true
room Chans p = true
room Var p = nat_lt (length p.variables) 16
room Task p = nat_lt (length p.tasks) 16
room Set p = set_room p
room Loc p = nat_lt (length p.locations) 64
room Inv p = room_of (λ l. has_room 2 l.invariants) (last_of p.locations)
room Edge p = nat_lt (length p.edges) 128
room Clk p = guard_room p
room Dif p = guard_room p
room Val p = guard_room p
room Zero p = room_of (λ e. has_room 4 e.resets) (last_of p.edges)
room Edges p = true

-- ---- what a line with good fields does

abbrev pub variable_of : Fields Var → Variable
variable_of f = record { low = f.0; high = f.1; start = f.2 }

-- begun with no assignment
abbrev pub task_of : Fields Task → TaskPart
task_of f = record { cost = f.0; deadline = f.1; priority = f.2; assignments = replicate 4 None }

abbrev pub assignment_of : Fields Set → Assignment
assignment_of f = record { target = f.0; source = f.1; constant = f.2 }

-- begun with no invariant
abbrev pub location_of : Fields Loc → Location
location_of f = record { automaton = f.0; task = f.1; invariants = replicate 2 None }

abbrev pub invariant_of : Fields Inv → Invariant
invariant_of f = record { clock = f.0; strict = f.1; bound = f.2 }

-- begun with no guard, no clock to zero and no assignment
abbrev pub edge_of : Fields Edge → EdgePart
edge_of f = record { from = f.0; to = f.1; label = f.2; guard = replicate 4 None; resets = replicate 4 None; assignments = replicate 4 None }

abbrev pub clock_condition : Fields Clk → Condition
clock_condition f = condition.Clock f.0 f.1 f.2

abbrev pub difference_condition : Fields Dif → Condition
difference_condition f = condition.Difference f.0 f.1 f.2 f.3

abbrev pub variable_condition : Fields Val → Condition
variable_condition f = condition.Variable f.0 f.1 f.2

-- an assignment goes to the last task, or to the last edge where there is one
abbrev pub with_assignment : Assignment → Plan → Plan
with_assignment a p = cond (none p.edges) (with_last_task (assigning_task a) p) (with_last_edge (assigning_edge a) p)

-- a line leads to a further plan, or was the last one
pub data Step : Type 0 where
  more : Plan → Step
  done : Step

abbrev pub wrong_automaton : {A : Type 0} → Place → Result A SequenceFault
wrong_automaton at = Err (WrongAutomaton at)

abbrev pub take_fields : (k : Key) → Plan → Place → Fields k → Result Step SequenceFault
take_fields Form p at f = Ok (more p)
take_fields Autos p at f = Ok (more p)
take_fields Clocks p at f = Ok (more p)
take_fields Triggers p at f = Ok (more p)
take_fields Chans p at f = Ok (more p)
take_fields Var p at f = Ok (more (with_variable p (variable_of f)))
take_fields Task p at f = Ok (more (with_task p (task_of f)))
take_fields Set p at f = Ok (more (with_assignment (assignment_of f) p))
take_fields Loc p at f = cond (next_automaton p f.0) (Ok (more (with_location p (location_of f)))) (wrong_automaton at)
take_fields Inv p at f = Ok (more (with_last_location (limited (invariant_of f)) p))
take_fields Edge p at f = cond (ends_fit p.locations (edge_of f)) (Ok (more (with_edge p (edge_of f)))) (wrong_automaton at)
take_fields Clk p at f = Ok (more (with_last_edge (guarded (clock_condition f)) p))
take_fields Dif p at f = Ok (more (with_last_edge (guarded (difference_condition f)) p))
take_fields Val p at f = Ok (more (with_last_edge (guarded (variable_condition f)) p))
take_fields Zero p at f = Ok (more (with_last_edge (resetting (record { clock = f })) p))
take_fields Edges p at f = cond (f == length p.edges) (Ok done) (Err (WrongEdgeCount at))

-- ---- one line behind the counts: key, room, fields and what they do, in this order

abbrev pub take_value : (k : Key) → Plan → Place → List ℕ → Result Step SequenceFault
take_value k p at value = on ((row (there p) k).parse at (pieces comma value)) (take_fields k p at)

abbrev pub take_key : Option Key → Plan → ℕ → List ℕ × List ℕ → Result Step SequenceFault
take_key None p n l = not_allowed n
take_key (Some k) p n l =
    cond (allowed k p)
    (cond (room k p) (take_value k p (value_place n l.0) l.1) (Err (TooManyLines (place n 1))))
    (not_allowed n)

abbrev pub take_line : Plan → ℕ → List ℕ → Result Step SequenceFault
take_line p n line = on (key_and_value n line) (λ l. take_key (key_named l.0) p n l)

-- ---- line after line

abbrev pub go_on : {X : Type 0} → Result Step SequenceFault → Plan → X → (Plan → Result (Plan × X) SequenceFault) → Result (Plan × X) SequenceFault
go_on (Err e) p rest f = Err e
go_on (Ok (more q)) p rest f = f q
go_on (Ok done) p rest f = Ok (p, rest)

-- from line n on, up to the line `edges`; what stands behind the last newline is no line
abbrev pub read_lines : Plan → ℕ → List (List ℕ) → Result (Plan × List (List ℕ)) SequenceFault
read_lines p n [] = malformed n
read_lines p n (l ∷ []) = malformed n
read_lines p n (l ∷ m ∷ ls) = go_on (take_line p n l) p (m ∷ ls) (λ q. read_lines q (n + 1) (m ∷ ls))

abbrev pub read_all : List (List ℕ) → Result (Plan × List (List ℕ)) SequenceFault
read_all ls = on (read_counts ls) (λ c. read_lines (begun c.0) 6 c.1)

-- a text is read as a sequence and the rest behind it, or refused
abbrev pub read_text : List ℕ → Result (Plan × List ℕ) SequenceFault
read_text t = cond (nat_lt longest_text (length t)) (Err TextTooLong) (on (read_all (pieces newline t)) (λ r. Ok (r.0, join newline r.1)))
