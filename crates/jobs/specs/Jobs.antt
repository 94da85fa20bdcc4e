-- What of a job is read, and what becomes of it.
use Rattle.std.specs.Prelude.{ℕ, ◌-◌, Bool, true, false, nat_lt}
use Rattle.precedence.specs.Sorted.{by_key}
use Rattle.jobs.specs.declared.job.Job.{Job}
use Rattle.jobs.specs.declared.job.JobKey.{JobKey}

-- all that an order may read of a job
abbrev pub key_of : Job → JobKey
key_of j = record { number = j.number; priority = j.priority; deadline = j.deadline; release = j.release; started = j.started }

-- the same key, marked started
abbrev pub marked : JobKey → JobKey
marked a = record { number = a.number; priority = a.priority; deadline = a.deadline; release = a.release; started = true }

-- a new job: all of its cost remains, and it has not started
abbrev pub released_job : (number task cost deadline priority release : ℕ) → Job
released_job number task cost deadline priority release =
    record { number = number; task = task; cost = cost; deadline = deadline; priority = priority; release = release; remaining = cost; started = false }

-- a job that worked for one tick: marked started, one tick less to go, all else as it was
abbrev pub worked : Job → Job
worked j = record { number = j.number; task = j.task; cost = j.cost; deadline = j.deadline; priority = j.priority; release = j.release; remaining = j.remaining - 1; started = true }

-- an order on jobs, by what it may read of them
abbrev pub job_before : (JobKey → JobKey → Bool) → Job → Job → Bool
job_before = by_key key_of

-- at this tick the job is past its deadline: more than D ticks have gone since its release
abbrev pub late : ℕ → Job → Bool
late tick j = nat_lt j.deadline (tick - j.release)
