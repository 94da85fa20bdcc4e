-- Which edges are open depends on edges, locations, tick, places, clocks, variables and triggers alone.
use Rattle.std.proofs.Common.{◌≡◌, ℕ, Bool, false, List, [], ℤ, Some, None, Option, subst}
use Rattle.parts.specs.declared.part.Edge.{Edge}
use Rattle.parts.specs.declared.part.Location.{Location}
use Rattle.runs.specs.declared.event.Phase.TheVariants.{Edges}
use Rattle.runs.specs.State.{State}
use Rattle.runs.specs.Edges.{Open, Joins, LowestPartner, Finds}
use Rattle.machine.specs.Views.{Shows}

-- a state with nothing else in it
abbrev bare : List Edge → List Location → ℕ → (places zeroed : List ℕ) → List ℤ → List Bool → State
bare es ls now places zeroed values present = record {
  plan = record { counts = record { automata = 0; clocks = 0; triggers = 0; channels = 0 }; variables = []; tasks = []; locations = ls; edges = es };
  now = now;
  phase = Edges;
  places = places;
  zeroed = zeroed;
  values = values;
  waiting = [];
  next = 0;
  present = present;
  steps = 0;
  ended = false;
  coming = [];
}

abbrev bared : State → State
bared s = bare s.plan.edges s.plan.locations s.now s.places s.zeroed s.values s.present

joins_bare : (s : State) (d : Edge) (p : Option ℕ) (c : Option Edge) → Joins s d p c → Joins (bared s) d p c
joins_bare s d None None h = h
joins_bare s d None (Some c) h = h
joins_bare s d (Some p) None h = h
joins_bare s d (Some p) (Some c) h = h

joins_full : (s : State) (d : Edge) (p : Option ℕ) (c : Option Edge) → Joins (bared s) d p c → Joins s d p c
joins_full s d None None h = h
joins_full s d None (Some c) h = h
joins_full s d (Some p) None h = h
joins_full s d (Some p) (Some c) h = h

open_bare : (s : State) (e : ℕ) (p : Option ℕ) (d : Edge) (c : Option Edge) → Open s e p d c → Open (bared s) e p d c
open_bare s e p d c o = record { found = o.found; is_ready = o.is_ready; joins = joins_bare s d p c o.joins }

open_full : (s : State) (e : ℕ) (p : Option ℕ) (d : Edge) (c : Option Edge) → Open (bared s) e p d c → Open s e p d c
open_full s e p d c o = record { found = o.found; is_ready = o.is_ready; joins = joins_full s d p c o.joins }

partner_bare : (s : State) (e : ℕ) (p : Option ℕ) → LowestPartner s e p → LowestPartner (bared s) e p
partner_bare s e None h = tt
partner_bare s e (Some p) h = λ k d c l o. h k d c l (open_full s e (Some k) d c o)

partner_full : (s : State) (e : ℕ) (p : Option ℕ) → LowestPartner (bared s) e p → LowestPartner s e p
partner_full s e None h = tt
partner_full s e (Some p) h = λ k d c l o. h k d c l (open_bare s e (Some k) d c o)

finds_bare : (s : State) (r : Option (ℕ × Option ℕ)) → Finds s r → Finds (bared s) r
finds_bare s None n = λ k p d c o. n k p d c (open_full s k p d c o)
finds_bare s (Some x) f = record {
  edge = f.edge;
  mate = f.mate;
  opens = open_bare s x.0 x.1 f.edge f.mate f.opens;
  foremost = record { lowest = λ k l p d c o. f.foremost.lowest k l p d c (open_full s k p d c o); partner = partner_bare s x.0 x.1 f.foremost.partner };
}

finds_full : (s : State) (r : Option (ℕ × Option ℕ)) → Finds (bared s) r → Finds s r
finds_full s None n = λ k p d c o. n k p d c (open_bare s k p d c o)
finds_full s (Some x) f = record {
  edge = f.edge;
  mate = f.mate;
  opens = open_full s x.0 x.1 f.edge f.mate f.opens;
  foremost = record { lowest = λ k l p d c o. f.foremost.lowest k l p d c (open_bare s k p d c o); partner = partner_full s x.0 x.1 f.foremost.partner };
}

bared_same : (s u : State) → Shows s u → bared u ≡ bared s
bared_same s u h =
    let a = h.edges in let b = h.locations in let c = h.now in let d = h.places in let e = h.zeroed in let f = h.values in let g = h.present in
    simp (a, b, c, d, e, f, g)

pub finds_shown : (s u : State) (r : Option (ℕ × Option ℕ)) → Shows s u → Finds u r → Finds s r
finds_shown s u r h f = finds_full s r (subst (λ x. Finds x r) (bared_same s u h) (finds_bare u r f))
