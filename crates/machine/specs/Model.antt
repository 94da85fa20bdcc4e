-- An engine's inner state as a state of a run.
use Rattle.std.specs.Prelude.{List, length, take}
use Rattle.sources.specs.declared.trigger.Trigger.{Trigger}
use Rattle.ready_queue.specs.Waiting.{waiting}
use Rattle.sequence.specs.Whole.{plan}
use Rattle.runs.specs.State.{State}
use Rattle.machine.specs.declared.engine_core.Core.{Core}

-- with the triggers that its source still gives
abbrev pub model : List Trigger → Core → State
model ts c = record {
  plan = plan c.sequence;
  now = c.now;
  phase = c.phase;
  places = take (plan c.sequence).counts.automata c.places;
  zeroed = take (plan c.sequence).counts.clocks c.zeroed;
  values = take (length (plan c.sequence).variables) c.values;
  waiting = waiting c.queue;
  next = c.next;
  present = take (plan c.sequence).counts.triggers c.present;
  steps = c.steps;
  ended = c.ended;
  coming = ts;
}
