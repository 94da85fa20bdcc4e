-- The lines of a place of a group.
use Rattle.std.specs.Prelude.{List, [], Some, None, Option}
use Rattle.grammar.specs.Lines.{Item}

-- a free place has no line
abbrev pub place_items : {X : Type 0} → (X → List Item) → Option X → List Item
place_items f None = []
place_items f (Some x) = f x
