-- The parts of a sequence have good fields.
use Rattle.std.proofs.Common.{◌≡◌, ℕ, zero, suc, ◌<◌, ◌≤◌, Bool, true, ◌&&◌, ltb, leb, List, [], ◌∷◌, length, ℤ, pos, negsuc, Some, None, Option, sym, refl, arith}
use lib.Signed.{le_z}
use Rattle.std.specs.List.{slice_get}
use Rattle.std.proofs.lemmas.Bool.{and_parts, and_from, leb-true, le-leb, ltb-true, lt-ltb}
use Rattle.parts.specs.declared.part.Scope.{Scope}
use Rattle.parts.specs.declared.part.Variable.{Variable}
use Rattle.parts.specs.declared.part.Assignment.{Assignment}
use Rattle.parts.specs.declared.part.Reset.{Reset}
use Rattle.parts.specs.declared.part.Invariant.{Invariant}
use Rattle.parts.specs.declared.part.Condition.{Condition}
use Rattle.parts.specs.declared.part.Condition.TheVariants as condition
use Rattle.parts.specs.declared.part.Label.{Label}
use Rattle.parts.specs.declared.part.Label.TheVariants.{Internal, Trigger, Send, Receive}
use Rattle.parts.specs.declared.part.Task.{Task as TaskPart}
use Rattle.parts.specs.declared.part.Location.{Location}
use Rattle.parts.specs.declared.part.Edge.{Edge as EdgePart}
use Rattle.parts.specs.Limits.{last_tick, longest, present_or_none, counts_fit, variable_fits, assignment_fits, reset_fits, invariant_fits, condition_fits, label_fits, task_fits, location_fits, edge_fits}
use Rattle.sequence.specs.Plan.{automaton_of, same_there, ends_fit}
use Rattle.lexical.specs.declared.key.Key.TheVariants.{Task, Loc, Edge}
use Rattle.lexical.specs.Fields.{reference, optional, label}
use Rattle.grammar.specs.Lines.{lowest, highest, There, row, Item}
use Rattle.grammar.specs.Writing.{variable_item, assignment_item, invariant_item, condition_item, reset_item}
use Rattle.grammar.specs.Widths.{for_variables, variable_in_widths, assignment_in_widths, group_in_widths, task_in_widths, location_in_widths, edge_in_widths}
use Rattle.grammar.proofs.Spelling.{never}
use Rattle.grammar.proofs.Narrow.{narrow_variable, narrow_assignment, narrow_condition, narrow_task, narrow_location, narrow_edge}

-- a line with good fields
abbrev pub good_item : There → Item → Bool
good_item n i = (row n i.0).good i.1

-- what a scope lets lines refer to, with so many locations
abbrev pub seen : Scope → ℕ → There
seen s l = record {
  automata = s.counts.automata;
  clocks = s.counts.clocks;
  triggers = s.counts.triggers;
  channels = s.counts.channels;
  variables = s.variables;
  tasks = s.tasks;
  locations = l;
}

-- all that lines refer to has numbers of a byte
pub record Few (s : Scope) : Type 0 where
  pub automata : s.counts.automata ≤ 255
  pub clocks : s.counts.clocks ≤ 255
  pub triggers : s.counts.triggers ≤ 255
  pub channels : s.counts.channels ≤ 255
  pub variables : s.variables ≤ 255
  pub tasks : s.tasks ≤ 255

pub few_of : (s : Scope) → counts_fit s.counts ≡ true → s.variables ≤ 16 → s.tasks ≤ 16 → Few s
few_of s h v t =
    let n = s.counts in
    let a = and_parts (leb 1 n.automata) (leb n.automata 8 && (leb n.clocks 16 && (leb n.triggers 16 && leb n.channels 8))) h in
    let b = and_parts (leb n.automata 8) (leb n.clocks 16 && (leb n.triggers 16 && leb n.channels 8)) a.1 in
    let c = and_parts (leb n.clocks 16) (leb n.triggers 16 && leb n.channels 8) b.1 in
    let d = and_parts (leb n.triggers 16) (leb n.channels 8) c.1 in
    record {
      automata = omega (arith, leb-true n.automata 8 b.0);
      clocks = omega (arith, leb-true n.clocks 16 c.0);
      triggers = omega (arith, leb-true n.triggers 16 d.0);
      channels = omega (arith, leb-true n.channels 8 d.1);
      variables = omega arith;
      tasks = omega arith;
    }

pub leZ_through : (a b c : ℤ) → le_z a b ≡ true → le_z b c ≡ true → le_z a c ≡ true
leZ_through (pos a) (pos b) (pos c) h k = le-leb a c (omega (arith, leb-true a b h, leb-true b c k))
leZ_through (pos a) (pos b) (negsuc c) h k = k
leZ_through (pos a) (negsuc b) c h k = never (sym h)
leZ_through (negsuc a) b (pos c) h k = refl
leZ_through (negsuc a) (pos b) (negsuc c) h k = never (sym k)
leZ_through (negsuc a) (negsuc b) (negsuc c) h k = le-leb c a (omega (arith, leb-true b a h, leb-true c b k))

good_reference : (many n : ℕ) → many ≤ 255 → ltb n many ≡ true → (reference many).good n ≡ true
good_reference many n f h = and_from _ _ (le-leb n 255 (omega (arith, ltb-true n many h))) h

good_optional : (many : ℕ) (o : Option ℕ) → many ≤ 255 → present_or_none o many ≡ true → (optional (reference many)).good o ≡ true
good_optional many None f h = refl
good_optional many (Some n) f h = good_reference many n f h

upto : (n high : ℕ) → leb n high ≡ true → (leb 0 n && leb n high) ≡ true
upto n high h = and_from _ _ (le-leb 0 n (omega arith)) h

pub good_variable : (n : There) (v : Variable) → narrow_variable v ≡ true → good_item n (variable_item v) ≡ true
good_variable n v h =
    let x = and_parts (variable_fits v) (variable_in_widths v) h in
    let fits = and_parts (le_z v.low v.start) (le_z v.start v.high) x.0 in
    let low = and_parts (for_variables v.low) (for_variables v.start && for_variables v.high) x.1 in
    let high = and_parts (le_z lowest v.high) (le_z v.high highest) (and_parts (for_variables v.start) (for_variables v.high) low.1).1 in
    and_from _ _ low.0 (and_from _ _ (and_from _ _ (leZ_through v.low v.start v.high fits.0 fits.1) high.1) (and_from _ _ fits.0 fits.1))

pub good_task : (n : There) (s : Scope) (t : TaskPart) → narrow_task s t ≡ true → good_item n (Task, (t.cost, t.deadline, t.priority)) ≡ true
good_task n s t h =
    let x = and_parts (task_fits s t) (task_in_widths t) h in
    let a = and_parts _ _ x.0 in
    let b = and_parts _ _ a.1 in
    let c = and_parts _ _ b.1 in
    let d = and_parts (leb t.priority 255) (group_in_widths 4 assignment_in_widths t.assignments) x.1 in
    let e : t.cost ≤ longest = omega (arith, leb-true t.cost t.deadline b.0, leb-true t.deadline longest c.0) in
    and_from _ _ (and_from _ _ a.0 (le-leb _ _ e)) (and_from _ _ (and_from _ _ b.0 c.0) (upto t.priority 255 d.0))

module _ (s : Scope) (f : Few s) (l : ℕ) where
  pub good_assignment : (a : Assignment) → narrow_assignment s a ≡ true → good_item (seen s l) (assignment_item a) ≡ true
  good_assignment a h =
      let x = and_parts (assignment_fits s a) (assignment_in_widths a) h in
      let p = and_parts (ltb a.target s.variables) (present_or_none a.source s.variables) x.0 in
      and_from _ _ (good_reference s.variables a.target f.variables p.0) (and_from _ _ (good_optional s.variables a.source f.variables p.1) x.1)

  pub good_location : (x : Location) → ltb x.automaton s.counts.automata ≡ true → narrow_location s x ≡ true → good_item (seen s l) (Loc, (x.automaton, x.task)) ≡ true
  good_location x h k =
      and_from _ _ (good_reference s.counts.automata x.automaton f.automata h) (good_optional s.tasks x.task f.tasks (and_parts _ _ (and_parts (location_fits s x) (location_in_widths x) k).0).0)

  pub good_invariant : (i : Invariant) → invariant_fits s i ≡ true → good_item (seen s l) (invariant_item i) ≡ true
  good_invariant i h =
      let p = and_parts _ _ h in
      and_from _ _ (good_reference s.counts.clocks i.clock f.clocks p.0) (and_from true _ refl (upto i.bound last_tick p.1))

  pub good_condition : (c : Condition) → narrow_condition s c ≡ true → good_item (seen s l) (condition_item c) ≡ true
  good_condition (condition.Clock c r k) h =
      let p = and_parts _ _ (and_parts (condition_fits s (condition.Clock c r k)) true h).0 in
      and_from _ _ (good_reference s.counts.clocks c f.clocks p.0) (and_from true _ refl (upto k last_tick p.1))
  good_condition (condition.Difference c d r k) h =
      let p = and_parts _ _ (and_parts (condition_fits s (condition.Difference c d r k)) true h).0 in
      let q = and_parts _ _ p.1 in
      and_from _ _ (good_reference s.counts.clocks c f.clocks p.0) (and_from _ _ (good_reference s.counts.clocks d f.clocks q.0) (and_from true _ refl q.1))
  good_condition (condition.Variable v r k) h =
      let p = and_parts (ltb v s.variables) (for_variables k) h in
      and_from _ _ (good_reference s.variables v f.variables p.0) (and_from true _ refl p.1)

  pub good_reset : (r : Reset) → reset_fits s r ≡ true → good_item (seen s l) (reset_item r) ≡ true
  good_reset r h = good_reference s.counts.clocks r.clock f.clocks h

  good_label : (x : Label) → label_fits s x ≡ true → (label s.counts.triggers s.counts.channels).good x ≡ true
  good_label Internal h = refl
  good_label (Trigger n) h = good_reference s.counts.triggers n f.triggers h
  good_label (Send n) h = good_reference s.counts.channels n f.channels h
  good_label (Receive n) h = good_reference s.counts.channels n f.channels h

  pub good_edge : (e : EdgePart) → l ≤ 255 → e.from < l → e.to < l → narrow_edge s e ≡ true → good_item (seen s l) (Edge, (e.from, e.to, e.label)) ≡ true
  good_edge e b i j h =
      and_from _ _ (good_reference l e.from b (lt-ltb _ _ i)) (and_from _ _ (good_reference l e.to b (lt-ltb _ _ j)) (good_label e.label (and_parts _ _ (and_parts (edge_fits s e) (edge_in_widths e) h).0).0))

-- both ends of an edge are there
pub ends_below : (ls : List Location) (e : EdgePart) → ends_fit ls e ≡ true → (e.from < length ls) × (e.to < length ls)
ends_below ls e h = let p = both (automaton_of (slice_get ls e.from)) (automaton_of (slice_get ls e.to)) h in (below ls e.from p.0 p.1, below ls e.to p.2 p.3)
  where
    both : (a b : Option ℕ) → same_there a b ≡ true → (x : ℕ) × (a ≡ Some x) × (y : ℕ) × (b ≡ Some y)
    both None b h = never (sym h)
    both (Some a) None h = never (sym h)
    both (Some a) (Some b) h = (a, refl, b, refl)

    below : (ls : List Location) (i x : ℕ) → automaton_of (slice_get ls i) ≡ Some x → i < length ls
    below [] i x e = absurd (let z : ◌≡◌ {A = ℕ} 0 1 = cc in omega arith)
    below (l ∷ ls) zero x e = omega arith
    below (l ∷ ls) (suc i) x e = omega (arith, below ls i x e)
