-- An engine's inner state as a state of a run, but for the triggers that its source still gives.
use Rattle.std.specs.Prelude.{[]}
use Rattle.runs.specs.State.{State}
use Rattle.machine.specs.Model.{model}
use Rattle.moves.specs.declared.engine.Engine.{Engine}

abbrev pub state : Engine → State
state e = model [] e.core
