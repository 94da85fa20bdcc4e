-- What memory for a sequence is.
use Rattle.std.specs.Prelude.{◌≡◌, ◌≤◌, [], vec_items, vec_capacity}
use Rattle.sequence.specs.declared.memory.Memory.{Memory}

-- nothing in it, and places for 16 variables, 16 tasks, 64 locations and 128 edges
pub record RoomyAndEmpty (m : Memory) : Type 0 where
  pub variables : (vec_items m.lists.variables ≡ []) × (16 ≤ vec_capacity m.lists.variables)
  pub tasks : (vec_items m.lists.tasks ≡ []) × (16 ≤ vec_capacity m.lists.tasks)
  pub locations : (vec_items m.lists.locations ≡ []) × (64 ≤ vec_capacity m.lists.locations)
  pub edges : (vec_items m.lists.edges ≡ []) × (128 ≤ vec_capacity m.lists.edges)
