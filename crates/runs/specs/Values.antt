-- What assignments make of the variables.
use Rattle.std.specs.Prelude.{ℕ, Bool, cond, ◌&&◌, List, [], ◌∷◌, length, ℤ, pos, ◌+ℤ◌, Some, None, Option, int_le, nat_lt, slice_index_or, slice_set}
use Rattle.parts.specs.declared.part.Assignment.{Assignment}
use Rattle.parts.specs.declared.part.Variable.{Variable}
use Rattle.parts.specs.declared.part.Edge.{Edge}

-- what the constant is added to: nothing, or a variable's value
abbrev pub base : List ℤ → Option ℕ → ℤ
base values None = pos 0
base values (Some w) = slice_index_or values w (pos 0)

abbrev pub assigned_value : List ℤ → Assignment → ℤ
assigned_value values a = base values a.source +ℤ a.constant

-- stands where no variable is
abbrev pub no_variable : Variable
no_variable = record { low = pos 0; high = pos 0; start = pos 0 }

abbrev pub in_range : Variable → ℤ → Bool
in_range v z = int_le v.low z && int_le z v.high

-- the values after one assignment, none where it leaves the variable's range
abbrev pub assign : List Variable → Option Assignment → List ℤ → Option (List ℤ)
assign vars None values = Some values
assign vars (Some a) values =
    cond (nat_lt a.target (length values) && in_range (slice_index_or vars a.target no_variable) (assigned_value values a))
    (Some (slice_set values a.target (assigned_value values a))) None

abbrev pub and_then : Option (List ℤ) → (List ℤ → Option (List ℤ)) → Option (List ℤ)
and_then None next = None
and_then (Some values) next = next values

-- the values after all of a group, in order, each seeing those before it
abbrev pub assign_all : List Variable → List (Option Assignment) → List ℤ → Option (List ℤ)
assign_all vars [] values = Some values
assign_all vars (a ∷ as') values = and_then (assign vars a values) (assign_all vars as')

-- the values after the assignments of some edges, one edge behind the other
abbrev pub assign_edges : List Variable → List Edge → List ℤ → Option (List ℤ)
assign_edges vars [] values = Some values
assign_edges vars (d ∷ ds) values = and_then (assign_all vars d.assignments values) (assign_edges vars ds)
