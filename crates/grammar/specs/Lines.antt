-- The lines of a sequence text: the fields of each key.
use Rattle.std.specs.Prelude.{ℕ, Bool, List, [], ◌∷◌, ◌++◌, length, ℤ, pos, negsuc, Option}
use Rattle.parts.specs.declared.part.Relation.{Relation}
use Rattle.parts.specs.declared.part.Label.{Label}
use Rattle.parts.specs.Limits.{last_tick, longest}
use Rattle.sequence.specs.Plan.{Plan}
use Rattle.lexical.specs.declared.key.Key.{Key}
use Rattle.lexical.specs.declared.key.Key.TheVariants.{Form, Autos, Clocks, Triggers, Chans, Var, Task, Set, Loc, Inv, Edge, Clk, Dif, Val, Zero, Edges}
use Rattle.lexical.specs.Bytes.{join, comma, equals, newline}
use Rattle.lexical.specs.Keys.{key_bytes}
use Rattle.lexical.specs.Fields.{Row, one, two, three, four, integer, count, reference, optional, relation, strictness, label}

-- what the fields of a line say, by its key
abbrev pub Fields : Key → Type 0
Fields Form = ℕ
Fields Autos = ℕ
Fields Clocks = ℕ
Fields Triggers = ℕ
Fields Chans = ℕ
-- low, high, start
Fields Var = ℤ × ℤ × ℤ
-- C, D, P
Fields Task = ℕ × ℕ × ℕ
-- variable, source or none, constant
Fields Set = ℕ × Option ℕ × ℤ
-- automaton, task or none
Fields Loc = ℕ × Option ℕ
-- clock, strict or not, bound
Fields Inv = ℕ × Bool × ℕ
-- from, to, label
Fields Edge = ℕ × ℕ × Label
-- clock, relation, constant
Fields Clk = ℕ × Relation × ℕ
-- two clocks, relation, constant
Fields Dif = ℕ × ℕ × Relation × ℤ
-- variable, relation, constant
Fields Val = ℕ × Relation × ℤ
-- clock
Fields Zero = ℕ
-- how many edges there are
Fields Edges = ℕ

-- the least and the greatest value of a variable and of a constant for variables
abbrev pub lowest : ℤ
lowest = negsuc 32767

abbrev pub highest : ℤ
highest = pos 32767

-- how many there are of what a line may refer to
pub record There : Type 0 where
  pub automata : ℕ
  pub clocks : ℕ
  pub triggers : ℕ
  pub channels : ℕ
  pub variables : ℕ
  pub tasks : ℕ
  pub locations : ℕ

abbrev pub there : Plan → There
there p = record {
  automata = p.counts.automata;
  clocks = p.counts.clocks;
  triggers = p.counts.triggers;
  channels = p.counts.channels;
  variables = length p.variables;
  tasks = length p.tasks;
  locations = length p.locations;
}

-- the row of fields of each key
abbrev pub row : There → (k : Key) → Row (Fields k)
row n Form = one (count 1 1)
row n Autos = one (count 1 8)
row n Clocks = one (count 0 16)
row n Triggers = one (count 0 16)
row n Chans = one (count 0 8)
row n Var = three (integer lowest highest) (λ low. integer low highest) (λ low high. integer low high)
row n Task = three (count 1 longest) (λ c. count c longest) (λ c d. count 0 255)
row n Set = three (reference n.variables) (λ v. optional (reference n.variables)) (λ v w. integer lowest highest)
row n Loc = two (reference n.automata) (optional (reference n.tasks))
row n Inv = three (reference n.clocks) (λ c. strictness) (λ c r. count 0 last_tick)
row n Edge = three (reference n.locations) (λ f. reference n.locations) (λ f t. label n.triggers n.channels)
row n Clk = three (reference n.clocks) (λ c. relation) (λ c r. count 0 last_tick)
row n Dif = four (reference n.clocks) (reference n.clocks) relation (integer (negsuc 999999999) (pos last_tick))
row n Val = three (reference n.variables) (λ v. relation) (λ v r. integer lowest highest)
row n Zero = one (reference n.clocks)
row n Edges = one (count 0 128)

abbrev pub nothing_there : There
nothing_there = record { automata = 0; clocks = 0; triggers = 0; channels = 0; variables = 0; tasks = 0; locations = 0 }

-- a line by its key and what its fields say
abbrev pub Item : Type 0
Item = (k : Key) × Fields k

-- its bytes, without the newline; they do not depend on what is there
abbrev pub line_of : Item → List ℕ
line_of i = key_bytes i.0 ++ (equals ∷ join comma ((row nothing_there i.0).print i.1))

-- lines, each with its newline
abbrev pub text_of : List Item → List ℕ
text_of [] = []
text_of (i ∷ is) = line_of i ++ (newline ∷ text_of is)
