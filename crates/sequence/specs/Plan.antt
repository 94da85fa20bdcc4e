-- A sequence as the lists of its parts, and when it is valid.
use Rattle.std.specs.Prelude.{◌≡◌, ℕ, ◌+◌, Bool, true, false, ◌&&◌, ◌||◌, List, [], ◌∷◌, length, Some, None, Option, ◌==◌, nat_le}
use Rattle.std.specs.List.{slice_get}
use Rattle.parts.specs.declared.part.Variable.{Variable}
use Rattle.parts.specs.declared.part.Task.{Task}
use Rattle.parts.specs.declared.part.Location.{Location}
use Rattle.parts.specs.declared.part.Edge.{Edge}
use Rattle.parts.specs.declared.part.Counts.{Counts}
use Rattle.parts.specs.declared.part.Scope.{Scope}
use Rattle.parts.specs.Limits.{counts_fit, variable_fits, task_fits, location_fits, edge_fits}

pub record Plan : Type 0 where
  pub counts : Counts
  pub variables : List Variable
  pub tasks : List Task
  pub locations : List Location
  pub edges : List Edge

-- what the parts may refer to
abbrev pub scope : Plan → Scope
scope p = record { counts = p.counts; variables = length p.variables; tasks = length p.tasks }

-- every one of the list fits
abbrev pub each : {X : Type 0} → (X → Bool) → List X → Bool
each fits [] = true
each fits (x ∷ xs) = fits x && each fits xs

-- the automaton of a location that is there
abbrev pub automaton_of : Option Location → Option ℕ
automaton_of None = None
automaton_of (Some l) = Some l.automaton

-- both there, and the same
abbrev pub same_there : Option ℕ → Option ℕ → Bool
same_there None b = false
same_there (Some a) None = false
same_there (Some a) (Some b) = a == b

-- both ends of an edge are there and of one automaton
abbrev pub ends_fit : List Location → Edge → Bool
ends_fit ls e = same_there (automaton_of (slice_get ls e.from)) (automaton_of (slice_get ls e.to))

-- how many automata have a location, behind n of them, of locations in turn
abbrev pub reached : ℕ → List Location → ℕ
reached n [] = n
reached n (l ∷ ls) = reached (l.automaton + 1) ls

-- of the last automaton that has a location, or of the one behind it
abbrev pub next_of : ℕ → ℕ → Bool
next_of n a = a + 1 == n || a == n

-- the locations go automaton by automaton, behind n automata that have one
abbrev pub in_turn : ℕ → List Location → Bool
in_turn n [] = true
in_turn n (l ∷ ls) = next_of n l.automaton && in_turn (l.automaton + 1) ls

-- every automaton has a location
abbrev pub complete : Plan → Bool
complete p = reached 0 p.locations == p.counts.automata

-- no limit is broken, whether or not all parts are there yet
abbrev pub sound : Plan → Bool
sound p =
    counts_fit p.counts
    && (nat_le (length p.variables) 16 && (each variable_fits p.variables
    && (nat_le (length p.tasks) 16 && (each (task_fits (scope p)) p.tasks
    && (nat_le (length p.locations) 64 && (each (location_fits (scope p)) p.locations
    && (in_turn 0 p.locations && (nat_le (reached 0 p.locations) p.counts.automata
    && (nat_le (length p.edges) 128 && (each (edge_fits (scope p)) p.edges
    && each (ends_fit p.locations) p.edges))))))))))

-- a sequence: sound, and every automaton has a location
abbrev pub Valid : Plan → Type 0
Valid p = (sound p ≡ true) × (complete p ≡ true)
