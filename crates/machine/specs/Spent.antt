-- Waiting jobs that have had all their ticks.
use Rattle.std.specs.Prelude.{ℕ, ◌+◌, cond, List, [], ◌∷◌, ◌==◌}
use Rattle.jobs.specs.declared.job.Job.{Job}

-- how many jobs have nothing remaining
abbrev pub spent : List Job → ℕ
spent [] = 0
spent (j ∷ js) = cond (j.remaining == 0) 1 0 + spent js

-- the waiting jobs once the first has left, if nothing remained to it
abbrev pub without_finished : List Job → List Job
without_finished [] = []
without_finished (j ∷ js) = cond (j.remaining == 0) js (j ∷ js)
