-- A started job of priority 1 waits, and one of priority 9 comes.
use Rattle.std.specs.Prelude.{◌≡◌, true, false, [], ◌∷◌}
use Rattle.precedence.specs.Sorted.{put}
use Rattle.jobs.specs.declared.job.Job.{Job}
use Rattle.jobs.specs.Jobs.{job_before}
use Rattle.jobs.specs.Orders.{fp_before, hold_before}

-- `fp` puts the new one first, and hold over `fp` keeps the old one first
abbrev pub PreemptsUnlessHeld : Type 0
PreemptsUnlessHeld =
    (old new : Job) → old.started ≡ true → old.priority ≡ 1 → new.started ≡ false → new.priority ≡ 9 →
    (put (job_before fp_before) new (old ∷ []) ≡ new ∷ old ∷ [])
    × (put (job_before (hold_before fp_before)) new (old ∷ []) ≡ old ∷ new ∷ [])
