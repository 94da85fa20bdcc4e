-- The laws of an order on jobs, beside those of every order on records.
use Rattle.std.specs.Prelude.{◌≡◌, Bool, true, false, not, ◌≢◌}
use Rattle.jobs.specs.declared.job.JobKey.{JobKey}
use Rattle.jobs.specs.Jobs.{marked}

pub record JobOrder (g : JobKey → JobKey → Bool) : Type 0 where
  -- no job goes before itself
  pub irreflexive : (a : JobKey) → g a a ≡ false
  -- of two jobs with different numbers exactly one goes before the other
  pub total : (a b : JobKey) → (a.number ≢ b.number) → g a b ≡ not (g b a)
  -- a job that goes before another does so once it is marked started
  pub started : (a b : JobKey) → g a b ≡ true → g (marked a) b ≡ true
