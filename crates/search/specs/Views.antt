-- A view as a state of a run: what no edge depends on is empty.
use Rattle.std.specs.Prelude.{◌≡◌, ℕ, ◌<◌, true, false, List, [], Some}
use Rattle.std.specs.List.{slice_get}
use Rattle.parts.specs.declared.part.Edge.{Edge}
use Rattle.runs.specs.declared.event.Phase.TheVariants.{Edges}
use Rattle.runs.specs.State.{State}
use Rattle.runs.specs.Edges.{leaves_current}
use Rattle.search.specs.declared.view.View.{View}

abbrev pub state_of : View → State
state_of v = record {
  plan = record { counts = record { automata = 0; clocks = 0; triggers = 0; channels = 0 }; variables = []; tasks = []; locations = v.locations.now; edges = v.edges.now };
  now = v.now;
  phase = Edges;
  places = v.places.now;
  zeroed = v.valuation.zeroed.now;
  values = v.valuation.values.now;
  waiting = [];
  next = 0;
  present = v.present.now;
  steps = 0;
  ended = false;
  coming = [];
}

-- a list of candidates: numbers of edges, rising, and every edge that leaves a current location is among them
abbrev pub Covers : State → List ℕ → Type 0
Covers s cs = (e : ℕ) (d : Edge) → slice_get s.plan.edges e ≡ Some d → leaves_current s.plan s.places d ≡ true → (i : ℕ) × (slice_get cs i ≡ Some e)

abbrev pub Rises : List ℕ → Type 0
Rises cs = (i j e f : ℕ) → i < j → slice_get cs i ≡ Some e → slice_get cs j ≡ Some f → e < f
