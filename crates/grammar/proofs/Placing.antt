-- A fault lies in the line that it names.
use Rattle.std.proofs.Common.{◌≡◌, ℕ, suc, ◌+◌, ◌<◌, ◌≤◌, Bool, true, false, cond, ◌&&◌, eqb, ltb, leb, ◌⊎◌, List, [], ◌∷◌, ◌++◌, length, ℤ, pos, negsuc, Some, None, Ok, Err, codes, Option, Result, sym, refl, ap, ◌∙◌, subst, inl, inr, arith}
use lib.Signed.{le_z}
use Rattle.std.specs.List.{slice_get}
use Rattle.std.proofs.lemmas.List.{length-append}
use Rattle.std.proofs.lemmas.Bool.{ltb-true, ltb-false}
use Rattle.parts.specs.declared.part.Relation.TheVariants.{Lt, Le, Eq, Ge, Gt}
use Rattle.parts.specs.declared.part.Counts.{Counts}
use Rattle.parts.specs.declared.part.Label.{Label}
use Rattle.parts.specs.declared.part.Label.TheVariants.{Trigger, Send, Receive}
use Rattle.parts.specs.Limits.{last_tick, longest}
use Rattle.sequence.specs.Plan.{Plan, ends_fit}
use Rattle.sequence.specs.Building.{begun, next_automaton}
use Rattle.lexical.specs.declared.fault.Place.{Place}
use Rattle.lexical.specs.declared.fault.NumberFault.{NumberFault}
use Rattle.lexical.specs.declared.fault.NumberFault.TheVariants.{Misspelt, OutOfRange}
use Rattle.lexical.specs.declared.fault.LineFault.TheVariants.{Malformed, KeyNotAllowed, FieldCount, UnknownWord}
use Rattle.lexical.specs.declared.fault.SequenceFault.{SequenceFault}
use Rattle.lexical.specs.declared.fault.SequenceFault.TheVariants.{Line, TextTooLong, TooManyLines, WrongAutomaton, WrongEdgeCount}
use Rattle.lexical.specs.declared.key.Key.{Key}
use Rattle.lexical.specs.declared.key.Key.TheVariants.{Form, Autos, Clocks, Triggers, Chans, Var, Task, Set, Loc, Inv, Edge, Clk, Dif, Val, Zero, Edges}
use Rattle.lexical.specs.Bytes.{pieces, join, cut, same, comma, equals, newline}
use Rattle.lexical.specs.Numbers.{spelt_signed, said, natural, natural_of}
use Rattle.lexical.specs.Faults.{place, sequence_report}
use Rattle.lexical.specs.Keys.{key_bytes, key_named}
use Rattle.lexical.specs.Fields.{on, numeral, behind, Codec, Row, integer, count, known, reference, some_of, optional, relation_word, relation, strictness, labelled, lettered, label, one, two, three, four}
use Rattle.grammar.specs.Lines.{Fields, lowest, highest, There, row, there}
use Rattle.grammar.specs.Reading.{longest_text, keyed, key_and_value, value_place, counted, count_line, read_counts, allowed, room, Step, more, done, edge_of, take_fields, take_value, take_key, take_line, go_on, read_lines, read_all}
use Rattle.grammar.specs.Laws.{InText, FaultsLieInTheText}
use Rattle.grammar.proofs.Parsing.{never, not_ok, on_ok, some, pieces_some, join_pieces}
use Rattle.grammar.proofs.Accepting.{keyed_back}
use Rattle.grammar.proofs.Reread.{rejoined}

-- ---- what holds of the fault of a result, where it has one

abbrev Faulty : {A : Type 0} → (SequenceFault → Type 0) → Result A SequenceFault → Type 0
Faulty P (Ok a) = Unit {0}
Faulty P (Err e) = P e

module _ (P : SequenceFault → Type 0) where
  faulty_cond : {A : Type 0} (c : Bool) (r s : Result A SequenceFault) → Faulty P r → Faulty P s → Faulty P (cond c r s)
  faulty_cond true r s h k = h
  faulty_cond false r s h k = k

  faulty_on : {A B : Type 0} (r : Result A SequenceFault) (f : A → Result B SequenceFault) → Faulty P r → ((a : A) → r ≡ Ok a → Faulty P (f a)) → Faulty P (on r f)
  faulty_on (Ok a) f h k = k a refl
  faulty_on (Err e) f h k = h

  faulty_some : {A : Type 0} (r : Result A SequenceFault) → Faulty P r → Faulty P (some_of r)
  faulty_some (Ok a) h = tt
  faulty_some (Err e) h = h

  faulty_labelled : (f : ℕ → Label) (r : Result ℕ SequenceFault) → Faulty P r → Faulty P (labelled f r)
  faulty_labelled f (Ok a) h = tt
  faulty_labelled f (Err e) h = h

  faulty_numeral : {A : Type 0} (c : Bool) (r s : Result A NumberFault) → Faulty P (numeral r) → Faulty P (numeral s) → Faulty P (numeral (cond c r s))
  faulty_numeral true r s h k = h
  faulty_numeral false r s h k = k

  -- and of the fault itself
  fault_of : {A : Type 0} (r : Result A SequenceFault) (e : SequenceFault) → Faulty P r → r ≡ Err e → P e
  fault_of (Ok a) e h k = not_ok e a (sym k)
  fault_of (Err d) e h k = let i : d ≡ e = cc in subst P i h

faulty_more : {A : Type 0} (P Q : SequenceFault → Type 0) → ((e : SequenceFault) → P e → Q e) → (r : Result A SequenceFault) → Faulty P r → Faulty Q r
faulty_more P Q w (Ok a) h = tt
faulty_more P Q w (Err e) h = w e h

-- ---- fields

-- a fault at a place
abbrev At : Place → SequenceFault → Type 0
At at e = ((sequence_report e).line ≡ at.line) × ((sequence_report e).column ≡ at.column)

-- a codec's faults are at its field's place
abbrev Placed : {A : Type 0} → Codec A → Type 0
Placed k = (at : Place) (bs : List ℕ) → Faulty (At at) (k.parse at bs)

integer_placed : (low high : ℤ) → Placed (integer low high)
integer_placed low high at bs =
    faulty_numeral (At at) (spelt_signed bs) (cond (le_z low (said bs) && le_z (said bs) high) (Ok (said bs)) (Err (OutOfRange at))) (Err (Misspelt at))
    (faulty_numeral (At at) (le_z low (said bs) && le_z (said bs) high) (Ok (said bs)) (Err (OutOfRange at)) tt (refl, refl)) (refl, refl)

natural_placed : (low high : ℕ) (at : Place) (bs : List ℕ) → Faulty (At at) (numeral (natural_of low high at bs))
natural_placed low high at bs = faulty_numeral (At at) (spelt_signed bs) (natural low high at (said bs)) (Err (Misspelt at)) (by (said bs)) (refl, refl)
  where
    by : (z : ℤ) → Faulty (At at) (numeral (natural low high at z))
    by (pos n) = faulty_numeral (At at) (leb low n && leb n high) (Ok n) (Err (OutOfRange at)) tt (refl, refl)
    by (negsuc n) = (refl, refl)

count_placed : (low high : ℕ) → Placed (count low high)
count_placed low high = natural_placed low high

reference_placed : (many : ℕ) → Placed (reference many)
reference_placed many at bs = faulty_on (At at) (numeral (natural_of 0 255 at bs)) (known many at) (natural_placed 0 255 at bs) (λ n _. faulty_cond (At at) (ltb n many) _ _ tt (refl, refl))

optional_placed : {A : Type 0} (k : Codec A) → Placed k → Placed (optional k)
optional_placed k w at bs = faulty_cond (At at) (same bs (codes "-")) _ _ tt (faulty_some (At at) (k.parse at bs) (w at bs))

unknown_at : (at : Place) → At at (Line (UnknownWord at))
unknown_at at = (refl, refl)

relation_placed : Placed relation
relation_placed at bs =
    faulty_cond (At at) (same bs (relation_word Lt)) _ _ tt (faulty_cond (At at) (same bs (relation_word Le)) _ _ tt (faulty_cond (At at) (same bs (relation_word Eq)) _ _ tt
    (faulty_cond (At at) (same bs (relation_word Ge)) _ _ tt (faulty_cond (At at) (same bs (relation_word Gt)) _ _ tt (unknown_at at)))))

strictness_placed : Placed strictness
strictness_placed at bs = faulty_cond (At at) (same bs (relation_word Lt)) _ _ tt (faulty_cond (At at) (same bs (relation_word Le)) _ _ tt (unknown_at at))

label_placed : (triggers channels : ℕ) → Placed (label triggers channels)
label_placed triggers channels at bs = faulty_cond (At at) (same bs (codes "-")) _ _ tt (letters bs)
  where
    letters : (t : List ℕ) → Faulty (At at) (lettered triggers channels at t)
    letters [] = (refl, refl)
    letters (b ∷ t) =
        faulty_cond (At at) (eqb b 116) _ _ (faulty_labelled (At at) Trigger ((reference triggers).parse at t) (reference_placed triggers at t))
        (faulty_cond (At at) (eqb b 115) _ _ (faulty_labelled (At at) Send ((reference channels).parse at t) (reference_placed channels at t))
        (faulty_cond (At at) (eqb b 114) _ _ (faulty_labelled (At at) Receive ((reference channels).parse at t) (reference_placed channels at t)) (refl, refl)))

-- ---- rows

-- a fault on the line of a place, at its column or up to so many bytes behind it
pub record Lies (at : Place) (bytes : ℕ) (e : SequenceFault) : Type 0 where
  pub line : (sequence_report e).line ≡ at.line
  pub from : at.column ≤ (sequence_report e).column
  pub to : (sequence_report e).column ≤ at.column + bytes

lies_at : (at : Place) (bytes : ℕ) (e : SequenceFault) → At at e → Lies at bytes e
lies_at at bytes e h = let c = h.1 in record { line = h.0; from = omega arith; to = omega arith }

-- behind the field x
lies_behind : (at : Place) (x y : List ℕ) (e : SequenceFault) → Lies (behind at x) (length y) e → Lies at (length (x ++ (comma ∷ y))) e
lies_behind at x y e h = let n = length-append x (comma ∷ y) in record { line = h.line; from = omega (arith, h.from); to = omega (arith, h.to) }

abbrev RowPlaced : {A : Type 0} → Row A → Type 0
RowPlaced k = (at : Place) (fs : List (List ℕ)) → Faulty (Lies at (length (join comma fs))) (k.parse at fs)

first_placed : {A : Type 0} (k : Codec A) → Placed k → (at : Place) (x : List ℕ) (bytes : ℕ) → Faulty (Lies at bytes) (k.parse at x)
first_placed k w at x bytes = faulty_more (At at) (Lies at bytes) (lies_at at bytes) (k.parse at x) (w at x)

then_placed : {A : Type 0} (at : Place) (x y : List ℕ) (r : Result A SequenceFault) → Faulty (Lies (behind at x) (length y)) r → Faulty (Lies at (length (x ++ (comma ∷ y)))) r
then_placed at x y r h = faulty_more (Lies (behind at x) (length y)) (Lies at (length (x ++ (comma ∷ y)))) (lies_behind at x y) r h

miscounted : (at : Place) (bytes : ℕ) → Lies at bytes (Line (FieldCount at))
miscounted at bytes = lies_at at bytes (Line (FieldCount at)) (refl, refl)

one_placed : {A : Type 0} (k : Codec A) → Placed k → RowPlaced (one k)
one_placed k w at [] = miscounted at _
one_placed k w at (x ∷ []) = first_placed k w at x (length x)
one_placed k w at (x ∷ y ∷ fs) = miscounted at _

two_placed : {A B : Type 0} (k : Codec A) (l : Codec B) → Placed k → Placed l → RowPlaced (two k l)
two_placed k l wk wl at [] = miscounted at _
two_placed k l wk wl at (x ∷ []) = miscounted at _
two_placed k l wk wl at (x ∷ y ∷ z ∷ fs) = miscounted at _
two_placed k l wk wl at (x ∷ y ∷ []) =
    faulty_on (Lies at (length (x ++ (comma ∷ y)))) (k.parse at x) _ (first_placed k wk at x (length (x ++ (comma ∷ y)))) (λ a _.
    then_placed at x y _ (faulty_on (Lies (behind at x) (length y)) (l.parse (behind at x) y) _ (first_placed l wl (behind at x) y (length y)) (λ b _. tt)))

three_placed : {A B C : Type 0} (k : Codec A) (l : A → Codec B) (m : A → B → Codec C) → Placed k → ((a : A) → Placed (l a)) → ((a : A) (b : B) → Placed (m a b)) → RowPlaced (three k l m)
three_placed k l m wk wl wm at [] = miscounted at _
three_placed k l m wk wl wm at (x ∷ []) = miscounted at _
three_placed k l m wk wl wm at (x ∷ y ∷ []) = miscounted at _
three_placed k l m wk wl wm at (x ∷ y ∷ z ∷ w ∷ fs) = miscounted at _
three_placed k l m wk wl wm at (x ∷ y ∷ z ∷ []) =
    let at2 = behind at x in
    let at3 = behind at2 y in
    let yz = y ++ (comma ∷ z) in
    faulty_on (Lies at (length (x ++ (comma ∷ yz)))) (k.parse at x) _ (first_placed k wk at x (length (x ++ (comma ∷ yz)))) (λ a _. then_placed at x yz _
    (faulty_on (Lies at2 (length yz)) ((l a).parse at2 y) _ (first_placed (l a) (wl a) at2 y (length yz)) (λ b _. then_placed at2 y z _
    (faulty_on (Lies at3 (length z)) ((m a b).parse at3 z) _ (first_placed (m a b) (wm a b) at3 z (length z)) (λ c _. tt)))))

four_placed : {A B C D : Type 0} (k : Codec A) (l : Codec B) (m : Codec C) (n : Codec D) → Placed k → Placed l → Placed m → Placed n → RowPlaced (four k l m n)
four_placed k l m n wk wl wm wn at [] = miscounted at _
four_placed k l m n wk wl wm wn at (x ∷ []) = miscounted at _
four_placed k l m n wk wl wm wn at (x ∷ y ∷ []) = miscounted at _
four_placed k l m n wk wl wm wn at (x ∷ y ∷ z ∷ []) = miscounted at _
four_placed k l m n wk wl wm wn at (x ∷ y ∷ z ∷ w ∷ v ∷ fs) = miscounted at _
four_placed k l m n wk wl wm wn at (x ∷ y ∷ z ∷ w ∷ []) =
    let at2 = behind at x in
    let at3 = behind at2 y in
    let at4 = behind at3 z in
    let zw = z ++ (comma ∷ w) in
    let yzw = y ++ (comma ∷ zw) in
    faulty_on (Lies at (length (x ++ (comma ∷ yzw)))) (k.parse at x) _ (first_placed k wk at x (length (x ++ (comma ∷ yzw)))) (λ a _. then_placed at x yzw _
    (faulty_on (Lies at2 (length yzw)) (l.parse at2 y) _ (first_placed l wl at2 y (length yzw)) (λ b _. then_placed at2 y zw _
    (faulty_on (Lies at3 (length zw)) (m.parse at3 z) _ (first_placed m wm at3 z (length zw)) (λ c _. then_placed at3 z w _
    (faulty_on (Lies at4 (length w)) (n.parse at4 w) _ (first_placed n wn at4 w (length w)) (λ d _. tt)))))))

row_placed : (n : There) (k : Key) → RowPlaced (row n k)
row_placed n Form = one_placed (count 1 1) (count_placed 1 1)
row_placed n Autos = one_placed (count 1 8) (count_placed 1 8)
row_placed n Clocks = one_placed (count 0 16) (count_placed 0 16)
row_placed n Triggers = one_placed (count 0 16) (count_placed 0 16)
row_placed n Chans = one_placed (count 0 8) (count_placed 0 8)
row_placed n Var = three_placed (integer lowest highest) (λ low. integer low highest) (λ low high. integer low high) (integer_placed lowest highest) (λ low. integer_placed low highest) (λ low high. integer_placed low high)
row_placed n Task = three_placed (count 1 longest) (λ c. count c longest) (λ c d. count 0 255) (count_placed 1 longest) (λ c. count_placed c longest) (λ c d. count_placed 0 255)
row_placed n Set =
    three_placed (reference n.variables) (λ v. optional (reference n.variables)) (λ v w. integer lowest highest) (reference_placed n.variables)
    (λ v. optional_placed (reference n.variables) (reference_placed n.variables)) (λ v w. integer_placed lowest highest)
row_placed n Loc = two_placed (reference n.automata) (optional (reference n.tasks)) (reference_placed n.automata) (optional_placed (reference n.tasks) (reference_placed n.tasks))
row_placed n Inv = three_placed (reference n.clocks) (λ c. strictness) (λ c r. count 0 last_tick) (reference_placed n.clocks) (λ c. strictness_placed) (λ c r. count_placed 0 last_tick)
row_placed n Edge = three_placed (reference n.locations) (λ f. reference n.locations) (λ f t. label n.triggers n.channels) (reference_placed n.locations) (λ f. reference_placed n.locations) (λ f t. label_placed n.triggers n.channels)
row_placed n Clk = three_placed (reference n.clocks) (λ c. relation) (λ c r. count 0 last_tick) (reference_placed n.clocks) (λ c. relation_placed) (λ c r. count_placed 0 last_tick)
row_placed n Dif = four_placed (reference n.clocks) (reference n.clocks) relation (integer (negsuc 999999999) (pos last_tick)) (reference_placed n.clocks) (reference_placed n.clocks) relation_placed (integer_placed (negsuc 999999999) (pos last_tick))
row_placed n Val = three_placed (reference n.variables) (λ v. relation) (λ v r. integer lowest highest) (reference_placed n.variables) (λ v. relation_placed) (λ v r. integer_placed lowest highest)
row_placed n Zero = one_placed (reference n.clocks) (reference_placed n.clocks)
row_placed n Edges = one_placed (count 0 128) (count_placed 0 128)

-- ---- one line

-- a fault in line n, or right behind its last byte
pub record InLine (n : ℕ) (l : List ℕ) (e : SequenceFault) : Type 0 where
  pub line : (sequence_report e).line ≡ n
  pub first : 1 ≤ (sequence_report e).column
  pub within : (sequence_report e).column ≤ length l + 1

-- at its first column
at_start : (n : ℕ) (l : List ℕ) (e : SequenceFault) → At (place n 1) e → InLine n l e
at_start n l e h = let c = h.1 in record { line = h.0; first = omega arith; within = omega arith }

-- in its value
in_value : (n : ℕ) (l key value : List ℕ) → l ≡ key ++ (equals ∷ value) → (e : SequenceFault) → Lies (value_place n key) (length value) e → InLine n l e
in_value n l key value i e h =
    let a = ap length i ∙ length-append key (equals ∷ value) in
    record { line = h.line; first = omega (arith, h.from); within = omega (arith, h.to) }

malformed_start : (n : ℕ) (l : List ℕ) → InLine n l (Line (Malformed (place n 1)))
malformed_start n l = at_start n l (Line (Malformed (place n 1))) (refl, refl)

barred_start : (n : ℕ) (l : List ℕ) → InLine n l (Line (KeyNotAllowed (place n 1)))
barred_start n l = at_start n l (Line (KeyNotAllowed (place n 1))) (refl, refl)

keyed_placed : (n : ℕ) (l : List ℕ) → Faulty (InLine n l) (key_and_value n l)
keyed_placed n l = by (cut equals l)
  where
    by : (o : Option (List ℕ × List ℕ)) → Faulty (InLine n l) (keyed n o)
    by None = malformed_start n l
    by (Some p) = faulty_cond (InLine n l) (leb 1 (length p.0) && leb (length p.0) 8) (Ok p) (Err (Line (Malformed (place n 1)))) tt (malformed_start n l)

-- the faults of a row over a value
value_placed : {A : Type 0} (k : Row A) → RowPlaced k → (n : ℕ) (l : List ℕ) (v : List ℕ × List ℕ) → l ≡ v.0 ++ (equals ∷ v.1) → Faulty (InLine n l) (k.parse (value_place n v.0) (pieces comma v.1))
value_placed k w n l v i =
    let at = value_place n v.0 in
    let r = k.parse at (pieces comma v.1) in
    faulty_more (Lies at (length v.1)) (InLine n l) (in_value n l v.0 v.1 i) r
    (subst (λ (x : List ℕ). Faulty (Lies at (length x)) r) (join_pieces comma v.1) (w at (pieces comma v.1)))

module _ (p : Plan) (n : ℕ) (l : List ℕ) where
  fields_placed : (v : List ℕ × List ℕ) → l ≡ v.0 ++ (equals ∷ v.1) → (k : Key) (f : Fields k) → Faulty (InLine n l) (take_fields k p (value_place n v.0) f)
  fields_placed v i Form f = tt
  fields_placed v i Autos f = tt
  fields_placed v i Clocks f = tt
  fields_placed v i Triggers f = tt
  fields_placed v i Chans f = tt
  fields_placed v i Var f = tt
  fields_placed v i Task f = tt
  fields_placed v i Set f = tt
  fields_placed v i Loc f = faulty_cond (InLine n l) (next_automaton p f.0) _ _ tt (in_value n l v.0 v.1 i (WrongAutomaton (value_place n v.0)) (lies_at (value_place n v.0) (length v.1) (WrongAutomaton (value_place n v.0)) (refl, refl)))
  fields_placed v i Inv f = tt
  fields_placed v i Edge f = faulty_cond (InLine n l) (ends_fit p.locations (edge_of f)) _ _ tt (in_value n l v.0 v.1 i (WrongAutomaton (value_place n v.0)) (lies_at (value_place n v.0) (length v.1) (WrongAutomaton (value_place n v.0)) (refl, refl)))
  fields_placed v i Clk f = tt
  fields_placed v i Dif f = tt
  fields_placed v i Val f = tt
  fields_placed v i Zero f = tt
  fields_placed v i Edges f = faulty_cond (InLine n l) (eqb f (length p.edges)) _ _ tt (in_value n l v.0 v.1 i (WrongEdgeCount (value_place n v.0)) (lies_at (value_place n v.0) (length v.1) (WrongEdgeCount (value_place n v.0)) (refl, refl)))

  key_placed : (v : List ℕ × List ℕ) → l ≡ v.0 ++ (equals ∷ v.1) → (o : Option Key) → Faulty (InLine n l) (take_key o p n v)
  key_placed v i None = barred_start n l
  key_placed v i (Some k) =
      let at = value_place n v.0 in
      faulty_cond (InLine n l) (allowed k p) (cond (room k p) (take_value k p at v.1) (Err (TooManyLines (place n 1)))) (Err (Line (KeyNotAllowed (place n 1))))
      (faulty_cond (InLine n l) (room k p) (take_value k p at v.1) (Err (TooManyLines (place n 1)))
      (faulty_on (InLine n l) ((row (there p) k).parse at (pieces comma v.1)) (take_fields k p at) (value_placed (row (there p) k) (row_placed (there p) k) n l v i) (λ f _. fields_placed v i k f))
      (at_start n l (TooManyLines (place n 1)) (refl, refl)))
      (barred_start n l)

  pub line_placed : Faulty (InLine n l) (take_line p n l)
  line_placed = faulty_on (InLine n l) (key_and_value n l) (λ v. take_key (key_named v.0) p n v) (keyed_placed n l) (λ v e. key_placed v (keyed_back n l v e) (key_named v.0))

-- ---- line after line

-- a fault in one of the lines, of which the first is line n
pub record InLines (n : ℕ) (ls : List (List ℕ)) (e : SequenceFault) : Type 0 where
  pub piece : List ℕ
  pub before : ℕ
  pub numbered : (sequence_report e).line ≡ n + before
  pub there : slice_get ls before ≡ Some piece
  pub first : 1 ≤ (sequence_report e).column
  pub within : (sequence_report e).column ≤ length piece + 1

in_first : (n : ℕ) (l : List ℕ) (ls : List (List ℕ)) (e : SequenceFault) → InLine n l e → InLines n (l ∷ ls) e
in_first n l ls e h = let m = h.line in record { piece = l; before = 0; numbered = omega arith; there = refl; first = h.first; within = h.within }

in_later : (n : ℕ) (l : List ℕ) (ls : List (List ℕ)) (e : SequenceFault) → InLines (n + 1) ls e → InLines n (l ∷ ls) e
in_later n l ls e h = let m = h.numbered in record { piece = h.piece; before = suc h.before; numbered = omega arith; there = h.there; first = h.first; within = h.within }

lines_placed : (l : List ℕ) (ls : List (List ℕ)) (p : Plan) (n : ℕ) → Faulty (InLines n (l ∷ ls)) (read_lines p n (l ∷ ls))
lines_placed l [] p n = in_first n l [] (Line (Malformed (place n 1))) (malformed_start n l)
lines_placed l (m ∷ ls) p n = by (take_line p n l) (line_placed p n l) (λ q. lines_placed m ls q (n + 1))
  where
    by : (r : Result Step SequenceFault) → Faulty (InLine n l) r → ((q : Plan) → Faulty (InLines (n + 1) (m ∷ ls)) (read_lines q (n + 1) (m ∷ ls))) → Faulty (InLines n (l ∷ m ∷ ls)) (go_on r p (m ∷ ls) (λ q. read_lines q (n + 1) (m ∷ ls)))
    by (Err e) h ih = in_first n l (m ∷ ls) e h
    by (Ok (more q)) h ih = faulty_more (InLines (n + 1) (m ∷ ls)) (InLines n (l ∷ m ∷ ls)) (in_later n l (m ∷ ls)) (read_lines q (n + 1) (m ∷ ls)) (ih q)
    by (Ok done) h ih = tt

-- lines that are left behind others: there is one, and a fault in them is one in all
record Left (n : ℕ) (ls : List (List ℕ)) (m : ℕ) (rest : List (List ℕ)) : Type 0 where
  any : some rest ≡ true
  lifts : (e : SequenceFault) → InLines m rest e → InLines n ls e

left_on : (n : ℕ) (ls : List (List ℕ)) (m : ℕ) (rs : List (List ℕ)) (o : ℕ) (rest : List (List ℕ)) → Left n ls m rs → Left m rs o rest → Left n ls o rest
left_on n ls m rs o rest a b = record { any = b.any; lifts = λ e h. a.lifts e (b.lifts e h) }

-- ---- the counts

counted_placed : (k : Key) (low high n : ℕ) (l : List ℕ) (v : List ℕ × List ℕ) → l ≡ v.0 ++ (equals ∷ v.1) → Faulty (InLine n l) (counted k low high n v)
counted_placed k low high n l v i =
    faulty_cond (InLine n l) (same v.0 (key_bytes k)) ((one (count low high)).parse (value_place n v.0) (pieces comma v.1)) (Err (Line (KeyNotAllowed (place n 1))))
    (value_placed (one (count low high)) (one_placed (count low high) (count_placed low high)) n l v i)
    (barred_start n l)

count_line_placed : (k : Key) (low high n : ℕ) (ls : List (List ℕ)) → some ls ≡ true → Faulty (InLines n ls) (count_line k low high n ls)
count_line_placed k low high n [] a = never (sym a)
count_line_placed k low high n (l ∷ []) a = in_first n l [] (Line (Malformed (place n 1))) (malformed_start n l)
count_line_placed k low high n (l ∷ m ∷ ls) a =
    faulty_more (InLine n l) (InLines n (l ∷ m ∷ ls)) (in_first n l (m ∷ ls)) (count_line k low high n (l ∷ m ∷ ls))
    (faulty_on (InLine n l) (on (key_and_value n l) (counted k low high n)) _
    (faulty_on (InLine n l) (key_and_value n l) (counted k low high n) (keyed_placed n l) (λ v e. counted_placed k low high n l v (keyed_back n l v e)))
    (λ v _. tt))

count_line_left : (k : Key) (low high n : ℕ) (ls : List (List ℕ)) (x : ℕ × List (List ℕ)) → count_line k low high n ls ≡ Ok x → Left n ls (n + 1) x.1
count_line_left k low high n [] x e = not_ok (Line (Malformed (place n 1))) x e
count_line_left k low high n (l ∷ []) x e = not_ok (Line (Malformed (place n 1))) x e
count_line_left k low high n (l ∷ m ∷ ls) x e =
    let a = on_ok (on (key_and_value n l) (counted k low high n)) _ x e in
    let f = a.2 in
    let i : (a.0, m ∷ ls) ≡ x = cc in
    subst (λ (y : ℕ × List (List ℕ)). Left n (l ∷ m ∷ ls) (n + 1) y.1) i (record { any = refl; lifts = in_later n l (m ∷ ls) })

-- a count line and what follows it
count_then : {B : Type 0} (k : Key) (low high o : ℕ) (n : ℕ) (ls rs : List (List ℕ)) (f : ℕ × List (List ℕ) → Result B SequenceFault) → Left n ls o rs → ((x : ℕ × List (List ℕ)) → Left n ls (o + 1) x.1 → Faulty (InLines n ls) (f x)) → Faulty (InLines n ls) (on (count_line k low high o rs) f)
count_then k low high o n ls rs f left follows =
    faulty_on (InLines n ls) (count_line k low high o rs) f
    (faulty_more (InLines o rs) (InLines n ls) left.lifts (count_line k low high o rs) (count_line_placed k low high o rs left.any))
    (λ x e. follows x (left_on n ls o rs (o + 1) x.1 left (count_line_left k low high o rs x e)))

all_left : (n : ℕ) (ls : List (List ℕ)) → some ls ≡ true → Left n ls n ls
all_left n ls a = record { any = a; lifts = λ e h. h }

counts_placed : (ls : List (List ℕ)) → some ls ≡ true → Faulty (InLines 1 ls) (read_counts ls)
counts_placed ls a =
    count_then Form 1 1 1 1 ls ls _ (all_left 1 ls a) (λ f lf.
    count_then Autos 1 8 2 1 ls f.1 _ lf (λ b lb.
    count_then Clocks 0 16 3 1 ls b.1 _ lb (λ c lc.
    count_then Triggers 0 16 4 1 ls c.1 _ lc (λ t lt.
    count_then Chans 0 8 5 1 ls t.1 _ lt (λ h lh. tt)))))

counts_left : (ls : List (List ℕ)) → some ls ≡ true → (x : Counts × List (List ℕ)) → read_counts ls ≡ Ok x → Left 1 ls 6 x.1
counts_left ls any x e =
    let af = on_ok (count_line Form 1 1 1 ls) _ x e in
    let aa = on_ok (count_line Autos 1 8 2 af.0.1) _ x af.2 in
    let ac = on_ok (count_line Clocks 0 16 3 aa.0.1) _ x aa.2 in
    let at = on_ok (count_line Triggers 0 16 4 ac.0.1) _ x ac.2 in
    let ah = on_ok (count_line Chans 0 8 5 at.0.1) _ x at.2 in
    let lf = count_line_left Form 1 1 1 ls af.0 af.1 in
    let la = left_on 1 ls 2 af.0.1 3 aa.0.1 lf (count_line_left Autos 1 8 2 af.0.1 aa.0 aa.1) in
    let lc = left_on 1 ls 3 aa.0.1 4 ac.0.1 la (count_line_left Clocks 0 16 3 aa.0.1 ac.0 ac.1) in
    let lt = left_on 1 ls 4 ac.0.1 5 at.0.1 lc (count_line_left Triggers 0 16 4 ac.0.1 at.0 at.1) in
    let lh = left_on 1 ls 5 at.0.1 6 ah.0.1 lt (count_line_left Chans 0 8 5 at.0.1 ah.0 ah.1) in
    let d : Counts = record { automata = aa.0.0; clocks = ac.0.0; triggers = at.0.0; channels = ah.0.0 } in
    let f = ah.2 in
    let pair : (d, ah.0.1) ≡ x = cc in
    subst (λ (y : Counts × List (List ℕ)). Left 1 ls 6 y.1) pair lh

rest_placed : (ls : List (List ℕ)) → some ls ≡ true → (p : Plan) (n : ℕ) → Faulty (InLines n ls) (read_lines p n ls)
rest_placed [] a p n = never (sym a)
rest_placed (l ∷ ls) a p n = lines_placed l ls p n

all_placed : (ls : List (List ℕ)) → some ls ≡ true → Faulty (InLines 1 ls) (read_all ls)
all_placed ls a =
    faulty_on (InLines 1 ls) (read_counts ls) (λ c. read_lines (begun c.0) 6 c.1) (counts_placed ls a) (λ c e.
    let left = counts_left ls a c e in
    faulty_more (InLines 6 c.1) (InLines 1 ls) left.lifts (read_lines (begun c.0) 6 c.1) (rest_placed c.1 left.any (begun c.0) 6))

-- ---- the law

in_text : (t : List ℕ) (e : SequenceFault) → InLines 1 (pieces newline t) e → InText t (sequence_report e).line (sequence_report e).column
in_text t e h = let m = h.numbered in record { piece = h.piece; before = h.before; numbered = omega arith; there = h.there; first = h.first; within = h.within }

pub faults_lie_in_the_text : FaultsLieInTheText
faults_lie_in_the_text t e h = go (ltb longest_text (length t)) refl h
  where
    go : (b : Bool) → ltb longest_text (length t) ≡ b → cond b (Err TextTooLong) (on (read_all (pieces newline t)) rejoined) ≡ Err e → ((e ≡ TextTooLong) × (longest_text < length t)) ⊎ ((length t ≤ longest_text) × InText t (sequence_report e).line (sequence_report e).column)
    go true l f = let i : e ≡ TextTooLong = cc in inl (i, ltb-true longest_text (length t) l)
    go false l f =
        inr (
          ltb-false longest_text (length t) l,
          in_text t e (fault_of (InLines 1 (pieces newline t)) (on (read_all (pieces newline t)) rejoined) e
              (faulty_on (InLines 1 (pieces newline t)) (read_all (pieces newline t)) rejoined (all_placed (pieces newline t) (pieces_some newline t)) (λ x _. tt)) f),
        )
