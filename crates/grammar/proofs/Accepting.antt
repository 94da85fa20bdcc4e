-- What a line that is accepted shows, and what its stage says of the plan.
use Rattle.std.proofs.Common.{◌≡◌, ℕ, ◌≤◌, Bool, true, false, cond, ◌&&◌, leb, List, ◌∷◌, ◌++◌, length, Some, None, Ok, Err, Option, sym, refl, ap, ◌∙◌, subst, arith}
use Rattle.std.proofs.lemmas.Bool.{eqb-true}
use Rattle.parts.specs.declared.part.Edge.{Edge as EdgePart}
use Rattle.sequence.specs.Plan.{Plan}
use Rattle.sequence.specs.Building.{none}
use Rattle.sequence.specs.Growing.{used, last_of}
use Rattle.lexical.specs.declared.fault.Place.{Place}
use Rattle.lexical.specs.declared.fault.LineFault.TheVariants.{Malformed, KeyNotAllowed}
use Rattle.lexical.specs.declared.fault.SequenceFault.TheVariants.{Line, TooManyLines}
use Rattle.lexical.specs.declared.key.Key.{Key}
use Rattle.lexical.specs.Bytes.{pieces, join, cut, comma, equals}
use Rattle.lexical.specs.Faults.{place}
use Rattle.lexical.specs.Keys.{key_bytes, key_named}
use Rattle.grammar.specs.declared.stage.Stage.{Stage}
use Rattle.grammar.specs.declared.stage.Stage.TheVariants.{Variables, Tasks, Locations, Guard, Resets, Assignments}
use Rattle.grammar.specs.Lines.{Fields, row, there, nothing_there, line_of}
use Rattle.grammar.specs.Reading.{Step, keyed, key_and_value, value_place, edge_stage, stage_of, stage_rank, allowed, room_of, room, take_fields, take_value, take_key, take_line}
use Rattle.grammar.proofs.Parsing.{never, not_ok, on_ok, cond_ok, join_pieces, cut_back, key_back, row_back, print_same}

-- ---- a line with a key and a value

pub keyed_back : (n : ℕ) (l : List ℕ) (p : List ℕ × List ℕ) → key_and_value n l ≡ Ok p → l ≡ p.0 ++ (equals ∷ p.1)
keyed_back n l p e = go (cut equals l) refl e
  where
    go : (o : Option (List ℕ × List ℕ)) → cut equals l ≡ o → keyed n o ≡ Ok p → l ≡ p.0 ++ (equals ∷ p.1)
    go None f h = not_ok (Line (Malformed (place n 1))) p h
    go (Some q) f h =
        let a = cond_ok (leb 1 (length q.0) && leb (length q.0) 8) (Ok q) (Line (Malformed (place n 1))) p h in
        let b = a.1 in
        let s : q ≡ p = cc in
        subst (λ (r : List ℕ × List ℕ). l ≡ r.0 ++ (equals ∷ r.1)) s (cut_back equals l q f)

pub record Taken (p : Plan) (l : List ℕ) (s : Step) : Type 0 where
  pub key : Key
  pub fields : Fields key
  pub at : Place
  pub line : l ≡ line_of (key, fields)
  pub here : allowed key p ≡ true
  pub fits : room key p ≡ true
  pub good : (row (there p) key).good fields ≡ true
  pub does : take_fields key p at fields ≡ Ok s

pub take_back : (p : Plan) (n : ℕ) (l : List ℕ) (s : Step) → take_line p n l ≡ Ok s → Taken p l s
take_back p n l s e =
    let a = on_ok (key_and_value n l) (λ v. take_key (key_named v.0) p n v) s e in
    by_key a.0 (keyed_back n l a.0 a.1) (key_named a.0.0) refl a.2
  where
    by_key : (v : List ℕ × List ℕ) → l ≡ v.0 ++ (equals ∷ v.1) → (o : Option Key) → key_named v.0 ≡ o → take_key o p n v ≡ Ok s → Taken p l s
    by_key v i None f h = not_ok (Line (KeyNotAllowed (place n 1))) s h
    by_key v i (Some k) f h =
        let at = value_place n v.0 in
        let r = (row (there p) k).parse at (pieces comma v.1) in
        let a = cond_ok (allowed k p) (cond (room k p) (take_value k p at v.1) (Err (TooManyLines (place n 1)))) (Line (KeyNotAllowed (place n 1))) s h in
        let b = cond_ok (room k p) (take_value k p at v.1) (TooManyLines (place n 1)) s a.1 in
        let c = on_ok r (take_fields k p at) s b.1 in
        let w = row_back (there p) k at (pieces comma v.1) c.0 c.1 in
        let x : v.1 ≡ join comma ((row nothing_there k).print c.0) = sym (join_pieces comma v.1) ∙ ap (join comma) (sym w.0 ∙ print_same (there p) k c.0) in
        record {
          key = k;
          fields = c.0;
          at = at;
          line = i ∙ (ap (λ (y : List ℕ). y ++ (equals ∷ v.1)) (key_back v.0 k f) ∙ ap (λ (y : List ℕ). key_bytes k ++ (equals ∷ y)) x);
          here = a.0;
          fits = b.0;
          good = w.1;
          does = c.2;
        }

-- ---- what a stage says

abbrev staged : (edges locations tasks : Bool) → Stage → Stage
staged a b c s = cond a (cond b (cond c Variables Tasks) Locations) s

late : (o : Option EdgePart) → 3 ≤ stage_rank (edge_stage o)
late None = omega arith
late (Some e) = go (none (used e.assignments)) (none (used e.resets))
  where
    go : (a r : Bool) → 3 ≤ stage_rank (cond a (cond r Guard Resets) Assignments)
    go true true = omega arith
    go true false = omega arith
    go false r = omega arith

by_two : (a b c : Bool) (s : Stage) → 3 ≤ stage_rank s → stage_rank (staged a b c s) ≤ 2 → a ≡ true
by_two true b c s l h = refl
by_two false b c s l h = absurd (omega arith)

by_one : (a b c : Bool) (s : Stage) → 3 ≤ stage_rank s → stage_rank (staged a b c s) ≤ 1 → b ≡ true
by_one true true c s l h = refl
by_one true false c s l h = absurd (omega arith)
by_one false b c s l h = absurd (omega arith)

by_none : (a b c : Bool) (s : Stage) → 3 ≤ stage_rank s → stage_rank (staged a b c s) ≤ 0 → c ≡ true
by_none true true true s l h = refl
by_none true true false s l h = absurd (omega arith)
by_none true false c s l h = absurd (omega arith)
by_none false b c s l h = absurd (omega arith)

by_three : (a b c : Bool) (s : Stage) → 3 ≤ stage_rank (staged a b c s) → (a ≡ false) × (staged a b c s ≡ s)
by_three true true true s h = absurd (omega arith)
by_three true true false s h = absurd (omega arith)
by_three true false c s h = absurd (omega arith)
by_three false b c s h = (refl, refl)

edge_two : (a r : Bool) → stage_rank (cond a (cond r Guard Resets) Assignments) ≤ 4 → a ≡ true
edge_two true r h = refl
edge_two false r h = absurd (omega arith)

edge_one : (a r : Bool) → stage_rank (cond a (cond r Guard Resets) Assignments) ≤ 3 → r ≡ true
edge_one true true h = refl
edge_one true false h = absurd (omega arith)
edge_one false r h = absurd (omega arith)

module _ (p : Plan) where
  pub no_edges : stage_rank (stage_of p) ≤ 2 → length p.edges ≡ 0
  no_edges h = eqb-true (length p.edges) 0 (by_two (none p.edges) (none p.locations) (none p.tasks) (edge_stage (last_of p.edges)) (late (last_of p.edges)) h)

  pub no_locations : stage_rank (stage_of p) ≤ 1 → length p.locations ≡ 0
  no_locations h = eqb-true (length p.locations) 0 (by_one (none p.edges) (none p.locations) (none p.tasks) (edge_stage (last_of p.edges)) (late (last_of p.edges)) h)

  pub no_tasks : stage_rank (stage_of p) ≤ 0 → length p.tasks ≡ 0
  no_tasks h = eqb-true (length p.tasks) 0 (by_none (none p.edges) (none p.locations) (none p.tasks) (edge_stage (last_of p.edges)) (late (last_of p.edges)) h)

  -- the stages of the last edge
  pub in_edge : 3 ≤ stage_rank (stage_of p) → (none p.edges ≡ false) × (stage_of p ≡ edge_stage (last_of p.edges))
  in_edge h = by_three (none p.edges) (none p.locations) (none p.tasks) (edge_stage (last_of p.edges)) h

  in_last : (e : EdgePart) → last_of p.edges ≡ Some e → 3 ≤ stage_rank (stage_of p) → stage_rank (stage_of p) ≡ stage_rank (edge_stage (Some e))
  in_last e s h = ap stage_rank ((in_edge h).1 ∙ ap edge_stage s)

  pub no_assignments : (e : EdgePart) → last_of p.edges ≡ Some e → 3 ≤ stage_rank (stage_of p) → stage_rank (stage_of p) ≤ 4 → length (used e.assignments) ≡ 0
  no_assignments e s h k =
      let i = in_last e s h in
      eqb-true (length (used e.assignments)) 0 (edge_two (none (used e.assignments)) (none (used e.resets)) (omega arith))

  pub no_resets : (e : EdgePart) → last_of p.edges ≡ Some e → 3 ≤ stage_rank (stage_of p) → stage_rank (stage_of p) ≤ 3 → length (used e.resets) ≡ 0
  no_resets e s h k =
      let i = in_last e s h in
      eqb-true (length (used e.resets)) 0 (edge_one (none (used e.assignments)) (none (used e.resets)) (omega arith))

-- room is left in what is there
pub room_back : {X : Type 0} (f : X → Bool) (o : Option X) → room_of f o ≡ true → (x : X) × (o ≡ Some x) × (f x ≡ true)
room_back f None h = never (sym h)
room_back f (Some x) h = (x, refl, h)
