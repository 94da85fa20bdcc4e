-- What lists of parts hold.
use Rattle.std.specs.Prelude.{◌≡◌, [], vec_items}
use Rattle.parts.specs.declared.part.Counts.{Counts}
use Rattle.sequence.specs.declared.lists.Lists.{Lists}
use Rattle.sequence.specs.Plan.{Plan}

-- nothing in them
pub record Empty (l : Lists) : Type 0 where
  pub variables : vec_items l.variables ≡ []
  pub tasks : vec_items l.tasks ≡ []
  pub locations : vec_items l.locations ≡ []
  pub edges : vec_items l.edges ≡ []

-- the plan of these parts
abbrev pub plan_at : Counts → Lists → Plan
plan_at c l = record { counts = c; variables = vec_items l.variables; tasks = vec_items l.tasks; locations = vec_items l.locations; edges = vec_items l.edges }
