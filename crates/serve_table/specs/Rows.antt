-- When a line of the release table can be used.
use Rattle.std.specs.Prelude.{◌≡◌, ℕ, ◌<◌, ◌≤◌, Ok, Err, Result}
use Rattle.serve_table.specs.declared.row.Row.{Row}
use Rattle.serve_table.specs.declared.row.Fault.{Fault}

-- the limits of a row, behind one with release tick `last`
pub record Within (last release cost deadline priority : ℕ) : Type 0 where
  pub rises : last ≤ release
  pub tick : release ≤ 1000000000
  pub some : 0 < cost
  pub enough : cost ≤ deadline
  pub short : deadline ≤ 1000000
  pub rank : priority ≤ 255

-- accepted as it stands exactly within the limits
abbrev pub Checks : (last release cost deadline priority : ℕ) → Result Row Fault → Type 0
Checks last release cost deadline priority (Ok row) =
    Within last release cost deadline priority
    × (row ≡ record { release = release; cost = cost; deadline = deadline; priority = priority })
Checks last release cost deadline priority (Err _) = Within last release cost deadline priority → ⊥
