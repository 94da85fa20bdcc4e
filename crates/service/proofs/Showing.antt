-- The worked facts, by computation.
use Rattle.std.proofs.Common.{[], ◌∷◌}
use Rattle.jobs.specs.Orders.{fp_before}
use Rattle.runs.proofs.Showing.{shown}
use Rattle.service.specs.Examples.{ServiceFacts, two_tasks, at_6_and_7, release_plan, spoil_plan, overload_plan, exposure_plan}

pub service_facts : ServiceFacts
service_facts = record {
  in_time = shown fp_before 80 (two_tasks 2) at_6_and_7;
  late = shown fp_before 84 (two_tasks 3) at_6_and_7;
  sender_released_first = shown fp_before 20 release_plan [];
  spoiled = shown fp_before 12 spoil_plan [];
  overload = shown fp_before 36 overload_plan [];
  exposure = shown fp_before 131 exposure_plan (record { tick = 2; number = 0 } ∷ record { tick = 3; number = 0 } ∷ []);
}
