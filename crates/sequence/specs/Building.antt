-- A plan built part by part: what each part needs, and the rule that is named where it is refused.
use Rattle.std.specs.Prelude.{ℕ, Bool, cond, ◌&&◌, List, [], ◌∷◌, ◌++◌, length, Ok, Err, Result, ◌==◌, nat_lt}
use Rattle.parts.specs.declared.part.Variable.{Variable}
use Rattle.parts.specs.declared.part.Task.{Task}
use Rattle.parts.specs.declared.part.Location.{Location}
use Rattle.parts.specs.declared.part.Edge.{Edge}
use Rattle.parts.specs.declared.part.Counts.{Counts}
use Rattle.parts.specs.declared.part.Rule.{Rule}
use Rattle.parts.specs.declared.part.Rule.TheVariants.{BadCounts, OutOfTurn, TooMany, BadVariable, BadTask, BadLocation, BadAutomaton, BadEnds, BadEdge}
use Rattle.parts.specs.Limits.{counts_fit, variable_fits, task_fits, location_fits, edge_fits}
use Rattle.sequence.specs.Plan.{Plan, scope, ends_fit, reached, next_of}

-- nothing but counts
abbrev pub begun : Counts → Plan
begun c = record { counts = c; variables = []; tasks = []; locations = []; edges = [] }

abbrev pub none : {X : Type 0} → List X → Bool
none xs = length xs == 0

-- the next location's automaton: that of the last one, or the one behind it
abbrev pub next_automaton : Plan → ℕ → Bool
next_automaton p a = next_of (reached 0 p.locations) a && nat_lt a p.counts.automata

abbrev pub with_variable : Plan → Variable → Plan
with_variable p v = record { counts = p.counts; variables = p.variables ++ v ∷ []; tasks = p.tasks; locations = p.locations; edges = p.edges }

abbrev pub with_task : Plan → Task → Plan
with_task p t = record { counts = p.counts; variables = p.variables; tasks = p.tasks ++ t ∷ []; locations = p.locations; edges = p.edges }

abbrev pub with_location : Plan → Location → Plan
with_location p l = record { counts = p.counts; variables = p.variables; tasks = p.tasks; locations = p.locations ++ l ∷ []; edges = p.edges }

abbrev pub with_edge : Plan → Edge → Plan
with_edge p e = record { counts = p.counts; variables = p.variables; tasks = p.tasks; locations = p.locations; edges = p.edges ++ e ∷ [] }

-- each part is tried against its rules in this order, and the first that it breaks is named
abbrev pub begin : Counts → Result Plan Rule
begin c = cond (counts_fit c) (Ok (begun c)) (Err BadCounts)

abbrev pub add_variable : Plan → Variable → Result Plan Rule
add_variable p v =
    cond (none p.tasks && (none p.locations && none p.edges))
    (cond (nat_lt (length p.variables) 16) (cond (variable_fits v) (Ok (with_variable p v)) (Err BadVariable)) (Err TooMany))
    (Err OutOfTurn)

abbrev pub add_task : Plan → Task → Result Plan Rule
add_task p t =
    cond (none p.locations && none p.edges)
    (cond (nat_lt (length p.tasks) 16) (cond (task_fits (scope p) t) (Ok (with_task p t)) (Err BadTask)) (Err TooMany))
    (Err OutOfTurn)

abbrev pub add_location : Plan → Location → Result Plan Rule
add_location p l =
    cond (none p.edges)
    (cond (nat_lt (length p.locations) 64)
    (cond (location_fits (scope p) l)
    (cond (next_automaton p l.automaton) (Ok (with_location p l)) (Err BadAutomaton))
    (Err BadLocation))
    (Err TooMany))
    (Err OutOfTurn)

abbrev pub add_edge : Plan → Edge → Result Plan Rule
add_edge p e =
    cond (nat_lt (length p.edges) 128)
    (cond (edge_fits (scope p) e)
    (cond (ends_fit p.locations e) (Ok (with_edge p e)) (Err BadEnds))
    (Err BadEdge))
    (Err TooMany)
