-- The waiting jobs as a list, the first one in front.
use Rattle.std.specs.Prelude.{ℕ, List, [], ◌∷◌, Option, ◌≢◌}
use Rattle.std.specs.List.{find, AllByRecursion}
use Rattle.precedence.specs.Bounded.{records}
use Rattle.jobs.specs.declared.job.Job.{Job}
use Rattle.jobs.specs.Jobs.{late, worked}
use Rattle.ready_queue.specs.declared.queue.ReadyQueue.{ReadyQueue}

abbrev pub waiting : ReadyQueue → List Job
waiting q = records q.jobs

-- all but the first
abbrev pub rest : List Job → List Job
rest [] = []
rest (j ∷ js) = js

-- the first works for a tick
abbrev pub serve_first : List Job → List Job
serve_first [] = []
serve_first (j ∷ js) = worked j ∷ js

-- the first in the queue's order that is late at a tick
abbrev pub first_late : ℕ → List Job → Option Job
first_late t = find (late t)

-- no job of the list has this one's number
abbrev pub NewNumber : Job → List Job → Type 0
NewNumber j js = AllByRecursion (λ k. k.number ≢ j.number) js

-- no two jobs have one number
abbrev pub NumbersApart : List Job → Type 0
NumbersApart [] = Unit {0}
NumbersApart (j ∷ js) = NewNumber j js × NumbersApart js
