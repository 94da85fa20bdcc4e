-- The text of a sequence.
use Rattle.std.specs.Prelude.{ℕ, List, [], ◌∷◌, ◌++◌, map, length}
use Rattle.std.specs.List.{flat_map}
use Rattle.parts.specs.declared.part.Counts.{Counts}
use Rattle.parts.specs.declared.part.Variable.{Variable}
use Rattle.parts.specs.declared.part.Assignment.{Assignment}
use Rattle.parts.specs.declared.part.Reset.{Reset}
use Rattle.parts.specs.declared.part.Invariant.{Invariant}
use Rattle.parts.specs.declared.part.Condition.{Condition}
use Rattle.parts.specs.declared.part.Condition.TheVariants as condition
use Rattle.parts.specs.declared.part.Task.{Task as TaskPart}
use Rattle.parts.specs.declared.part.Location.{Location}
use Rattle.parts.specs.declared.part.Edge.{Edge as EdgePart}
use Rattle.sequence.specs.Plan.{Plan}
use Rattle.sequence.specs.Growing.{used}
use Rattle.lexical.specs.declared.key.Key.TheVariants.{Form, Autos, Clocks, Triggers, Chans, Var, Task, Set, Loc, Inv, Edge, Clk, Dif, Val, Zero, Edges}
use Rattle.grammar.specs.Lines.{Item, text_of}

abbrev pub count_items : Counts → List Item
count_items c = (Form, 1) ∷ (Autos, c.automata) ∷ (Clocks, c.clocks) ∷ (Triggers, c.triggers) ∷ (Chans, c.channels) ∷ []

abbrev pub variable_item : Variable → Item
variable_item v = (Var, (v.low, v.high, v.start))

abbrev pub assignment_item : Assignment → Item
assignment_item a = (Set, (a.target, a.source, a.constant))

abbrev pub invariant_item : Invariant → Item
invariant_item i = (Inv, (i.clock, i.strict, i.bound))

abbrev pub condition_item : Condition → Item
condition_item (condition.Clock c r k) = (Clk, (c, r, k))
condition_item (condition.Difference c d r k) = (Dif, (c, d, r, k))
condition_item (condition.Variable v r k) = (Val, (v, r, k))

abbrev pub reset_item : Reset → Item
reset_item r = (Zero, r.clock)

abbrev pub task_items : TaskPart → List Item
task_items t = (Task, (t.cost, t.deadline, t.priority)) ∷ map assignment_item (used t.assignments)

abbrev pub location_items : Location → List Item
location_items l = (Loc, (l.automaton, l.task)) ∷ map invariant_item (used l.invariants)

abbrev pub edge_items : EdgePart → List Item
edge_items e =
    (Edge, (e.from, e.to, e.label))
    ∷ (map condition_item (used e.guard) ++ (map reset_item (used e.resets) ++ map assignment_item (used e.assignments)))

-- the lines of the parts, behind those of the counts
abbrev pub part_items : Plan → List Item
part_items p = map variable_item p.variables ++ (flat_map task_items p.tasks ++ (flat_map location_items p.locations ++ flat_map edge_items p.edges))

abbrev pub last_item : Plan → Item
last_item p = (Edges, length p.edges)

-- all lines, the last one too
abbrev pub items_of : Plan → List Item
items_of p = count_items p.counts ++ (part_items p ++ (last_item p ∷ []))

-- the text of a sequence
abbrev pub written : Plan → List ℕ
written p = text_of (items_of p)
