-- Two states in which the same edges are open.
use Rattle.std.specs.Prelude.{◌≡◌}
use Rattle.runs.specs.State.{State}

-- u shows all of s that decides which edges are open
pub record Shows (s u : State) : Type 0 where
  pub edges : u.plan.edges ≡ s.plan.edges
  pub locations : u.plan.locations ≡ s.plan.locations
  pub now : u.now ≡ s.now
  pub places : u.places ≡ s.places
  pub zeroed : u.zeroed ≡ s.zeroed
  pub values : u.values ≡ s.values
  pub present : u.present ≡ s.present
