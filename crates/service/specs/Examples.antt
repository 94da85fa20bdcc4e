-- Worked facts about jobs: deadlines met and missed, releases, a task's assignments, and one whole run.
use Rattle.std.specs.Prelude.{ℕ, false, List, [], ◌∷◌, ◌++◌, replicate, pos, Some, None}
use Rattle.jobs.specs.Orders.{fp_before}
use Rattle.sources.specs.declared.trigger.Trigger.{Trigger}
use Rattle.parts.specs.declared.part.Relation.TheVariants.{Ge}
use Rattle.parts.specs.declared.part.Condition.TheVariants.{Clock, Variable}
use Rattle.parts.specs.declared.part.Location.{Location}
use Rattle.parts.specs.declared.part.Label.TheVariants as label
use Rattle.sequence.specs.Plan.{Plan}
use Rattle.runs.specs.declared.event.Cause.TheVariants.{Deadline, TaskRange, Overload}
use Rattle.runs.specs.declared.event.Line.TheVariants as line
use Rattle.runs.specs.Examples.{Shows, place, edge, guarded, set_to, add_to}

abbrev pub working : ℕ → ℕ → Location
working a task = record { automaton = a; task = Some task; invariants = [] }

-- trigger 0 releases task 1 (C 3, D 5, P 1), trigger 1 releases task 0 (C as given, D 9, P 9)
abbrev pub two_tasks : ℕ → Plan
two_tasks c = record {
  counts = record { automata = 1; clocks = 0; triggers = 2; channels = 0 };
  variables = [];
  tasks = record { cost = c; deadline = 9; priority = 9; assignments = [] } ∷ record { cost = 3; deadline = 5; priority = 1; assignments = [] } ∷ [];
  locations = place 0 [] ∷ working 0 1 ∷ working 0 0 ∷ [];
  edges = edge 0 1 (label.Trigger 0) [] [] ∷ edge 1 2 (label.Trigger 1) [] [] ∷ [];
}

abbrev pub at_6_and_7 : List Trigger
at_6_and_7 = record { tick = 6; number = 0 } ∷ record { tick = 7; number = 1 } ∷ []

-- sender and receiver release a task each; the receiver is the foremost edge
abbrev pub release_plan : Plan
release_plan = record {
  counts = record { automata = 2; clocks = 0; triggers = 0; channels = 1 };
  variables = [];
  tasks = record { cost = 1; deadline = 9; priority = 5; assignments = [] } ∷ record { cost = 1; deadline = 9; priority = 5; assignments = [] } ∷ [];
  locations = place 0 [] ∷ working 0 1 ∷ place 1 [] ∷ working 1 0 ∷ [];
  edges = edge 2 3 (label.Receive 0) [] [] ∷ edge 0 1 (label.Send 0) [] [] ∷ [];
}

-- a task whose assignment leaves the range of its variable
abbrev pub spoil_plan : Plan
spoil_plan = record {
  counts = record { automata = 1; clocks = 0; triggers = 0; channels = 0 };
  variables = record { low = pos 0; high = pos 1; start = pos 0 } ∷ [];
  tasks = record { cost = 1; deadline = 9; priority = 0; assignments = [] } ∷ record { cost = 1; deadline = 9; priority = 0; assignments = add_to 0 (pos 1) ∷ add_to 0 (pos 1) ∷ [] } ∷ [];
  locations = place 0 [] ∷ working 0 1 ∷ [];
  edges = edge 0 1 label.Internal [] [] ∷ [];
}

-- every step releases a job
abbrev pub overload_plan : Plan
overload_plan = record {
  counts = record { automata = 1; clocks = 0; triggers = 0; channels = 0 };
  variables = [];
  tasks = record { cost = 1; deadline = 9; priority = 1; assignments = [] } ∷ [];
  locations = working 0 0 ∷ [];
  edges = edge 0 0 label.Internal [] [] ∷ [];
}

-- a trigger starts a wait of four ticks, then a task of three that counts its jobs, then all begins anew
abbrev pub exposure_plan : Plan
exposure_plan = record {
  counts = record { automata = 1; clocks = 1; triggers = 1; channels = 0 };
  variables = record { low = pos 0; high = pos 2; start = pos 0 } ∷ [];
  tasks = record { cost = 3; deadline = 5; priority = 1; assignments = add_to 0 (pos 1) ∷ [] } ∷ [];
  locations = place 0 [] ∷ place 0 (Some (record { clock = 0; strict = false; bound = 4 }) ∷ []) ∷ working 0 0 ∷ [];
  edges = edge 0 1 (label.Trigger 0) (Some (record { clock = 0 }) ∷ []) []
      ∷ guarded 1 2 (Some (Clock 0 Ge 4) ∷ []) [] []
      ∷ guarded 2 0 (Some (Variable 0 Ge (pos 1)) ∷ []) [] (set_to 0 (pos 0) ∷ []) ∷ [];
}

pub record ServiceFacts : Type 0 where
  -- C 3, D 5, released at 6: preempted for two ticks, the job is done at 11
  pub in_time : Shows fp_before (two_tasks 2) at_6_and_7 (line.Edge 6 0 None ∷ line.Edge 7 1 None ∷ line.Done 9 0 1 ∷ line.Done 11 1 0 ∷ []) [] (2 ∷ [])
  -- preempted for three, it still waits at 12
  pub late : Shows fp_before (two_tasks 3) at_6_and_7 (line.Edge 6 0 None ∷ line.Edge 7 1 None ∷ line.Done 10 0 1 ∷ line.End 12 Deadline 0 ∷ []) [] (2 ∷ [])
  -- the sender's task is released first: job 0 is task 1
  pub sender_released_first : Shows fp_before release_plan [] (line.Edge 0 0 (Some 1) ∷ line.Done 1 1 0 ∷ line.Done 2 0 1 ∷ []) [] (1 ∷ 3 ∷ [])
  -- nothing of a task's assignments stands where one of them leaves its range
  pub spoiled : Shows fp_before spoil_plan [] (line.Edge 0 0 None ∷ line.End 1 TaskRange 0 ∷ []) (pos 0 ∷ []) (1 ∷ [])
  -- 32 jobs wait, and a 33rd ends the run at the edge
  pub overload : Shows fp_before overload_plan [] (replicate 32 (line.Edge 0 0 None) ++ line.End 0 Overload 0 ∷ []) [] (0 ∷ [])
  -- a whole run: triggers at 2 and 3, closed at 20
  pub exposure : Shows fp_before exposure_plan (record { tick = 2; number = 0 } ∷ record { tick = 3; number = 0 } ∷ [])
      (line.Edge 2 0 None ∷ line.Miss 3 0 ∷ line.Edge 6 1 None ∷ line.Done 9 0 0 ∷ line.Edge 9 2 None ∷ []) (pos 0 ∷ []) (0 ∷ [])
