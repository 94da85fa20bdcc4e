-- One written line: it is read as what it says, holds no newline, and is short.
use Rattle.std.proofs.Common.{◌≡◌, ℕ, ◌+◌, ◌≤◌, true, cond, ◌&&◌, leb, List, [], ◌∷◌, length, ℤ, pos, negsuc, Some, Ok, Err, Option, Result, refl, ap, ◌∙◌, arith}
use lib.Signed.{mag}
use Rattle.std.proofs.lemmas.List.{length-append}
use Rattle.std.proofs.lemmas.Bool.{and_from, cond-true, eq-eqb}
use Rattle.parts.specs.Limits.{last_tick, longest}
use Rattle.sequence.specs.Plan.{Plan}
use Rattle.lexical.specs.declared.fault.Place.{Place}
use Rattle.lexical.specs.declared.fault.SequenceFault.{SequenceFault}
use Rattle.lexical.specs.declared.fault.SequenceFault.TheVariants.{TooManyLines}
use Rattle.lexical.specs.declared.key.Key.{Key}
use Rattle.lexical.specs.declared.key.Key.TheVariants.{Form, Autos, Clocks, Triggers, Chans, Var, Task, Set, Loc, Inv, Edge, Clk, Dif, Val, Zero, Edges}
use Rattle.lexical.specs.Bytes.{pieces, join, same, free, comma, equals, newline}
use Rattle.lexical.specs.Faults.{place}
use Rattle.lexical.specs.Keys.{key_bytes, key_named}
use Rattle.lexical.specs.Fields.{on, one, integer, count, reference, optional, relation, strictness, label}
use Rattle.grammar.specs.Lines.{Fields, There, there, row, nothing_there, lowest, highest, line_of}
use Rattle.grammar.specs.Reading.{keyed, key_and_value, value_place, counted, count_line, allowed, room, take_fields, take_value, take_key, take_line, not_allowed, malformed}
use Rattle.grammar.proofs.Bytewise.{some, cut_front, free_append}
use Rattle.grammar.proofs.Spelling.{mag_between}
use Rattle.grammar.proofs.Printing.{Printed, PrintedRow, printed_integer, printed_count, printed_reference, printed_optional, printed_relation, printed_strictness, printed_label, printed_one, printed_two, printed_three, printed_four}

-- how many bytes the fields of a line have at most
abbrev pub row_width : Key → ℕ
row_width Form = 1
row_width Autos = 1
row_width Clocks = 2
row_width Triggers = 2
row_width Chans = 1
row_width Var = 20
row_width Task = 19
row_width Set = 14
row_width Loc = 7
row_width Inv = 17
row_width Edge = 12
row_width Clk = 17
row_width Dif = 22
row_width Val = 13
row_width Zero = 3
row_width Edges = 3

-- a number between two of 16 bits
short : (low high : ℤ) → mag low ≤ 32767 → mag high ≤ 32767 → Printed (integer low high) 6
short low high l u = printed_integer low high 5 32767 l u (omega arith) (omega arith)

in_short : (z : ℤ) → (integer lowest highest).good z ≡ true → mag z ≤ 32767
in_short z g = mag_between lowest highest z 32767 g (omega arith) (omega arith)

pub printed_row : (n : There) (k : Key) → PrintedRow (row n k) (row_width k)
printed_row n Form = printed_one (count 1 1) 1 (printed_count 1 1 1 (omega arith) (omega arith) (omega arith))
printed_row n Autos = printed_one (count 1 8) 1 (printed_count 1 8 1 (omega arith) (omega arith) (omega arith))
printed_row n Clocks = printed_one (count 0 16) 2 (printed_count 0 16 2 (omega arith) (omega arith) (omega arith))
printed_row n Triggers = printed_one (count 0 16) 2 (printed_count 0 16 2 (omega arith) (omega arith) (omega arith))
printed_row n Chans = printed_one (count 0 8) 1 (printed_count 0 8 1 (omega arith) (omega arith) (omega arith))
printed_row n Var =
    printed_three (integer lowest highest) (λ low. integer low highest) (λ low high. integer low high) 6 6 6
    (short lowest highest (omega arith) (omega arith))
    (λ low g. short low highest (in_short low g) (omega arith))
    (λ low high g h. short low high (in_short low g) (mag_between low highest high 32767 h (in_short low g) (omega arith)))
printed_row n Task =
    printed_three (count 1 longest) (λ c. count c longest) (λ c d. count 0 255) 7 7 3
    (printed_count 1 longest 7 (omega arith) (omega arith) (omega arith))
    (λ c g. printed_count c longest 7 (omega arith) (omega arith) (omega arith))
    (λ c d g h. printed_count 0 255 3 (omega arith) (omega arith) (omega arith))
printed_row n Set =
    printed_three (reference n.variables) (λ v. optional (reference n.variables)) (λ v w. integer lowest highest) 3 3 6
    (printed_reference n.variables) (λ v g. printed_optional n.variables) (λ v w g h. short lowest highest (omega arith) (omega arith))
printed_row n Loc = printed_two (reference n.automata) (optional (reference n.tasks)) 3 3 (printed_reference n.automata) (printed_optional n.tasks)
printed_row n Inv =
    printed_three (reference n.clocks) (λ c. strictness) (λ c r. count 0 last_tick) 3 2 10
    (printed_reference n.clocks) (λ c g. printed_strictness) (λ c r g h. printed_count 0 last_tick 10 (omega arith) (omega arith) (omega arith))
printed_row n Edge =
    printed_three (reference n.locations) (λ f. reference n.locations) (λ f t. label n.triggers n.channels) 3 3 4
    (printed_reference n.locations) (λ f g. printed_reference n.locations) (λ f t g h. printed_label n.triggers n.channels)
printed_row n Clk =
    printed_three (reference n.clocks) (λ c. relation) (λ c r. count 0 last_tick) 3 2 10
    (printed_reference n.clocks) (λ c g. printed_relation) (λ c r g h. printed_count 0 last_tick 10 (omega arith) (omega arith) (omega arith))
printed_row n Dif =
    printed_four (reference n.clocks) (reference n.clocks) relation (integer (negsuc 999999999) (pos last_tick)) 3 3 2 11
    (printed_reference n.clocks) (printed_reference n.clocks) printed_relation
    (printed_integer (negsuc 999999999) (pos last_tick) 10 1000000000 (omega arith) (omega arith) (omega arith) (omega arith))
printed_row n Val =
    printed_three (reference n.variables) (λ v. relation) (λ v r. integer lowest highest) 3 2 6
    (printed_reference n.variables) (λ v g. printed_relation) (λ v r g h. short lowest highest (omega arith) (omega arith))
printed_row n Zero = printed_one (reference n.clocks) 3 (printed_reference n.clocks)
printed_row n Edges = printed_one (count 0 128) 3 (printed_count 0 128 3 (omega arith) (omega arith) (omega arith))

-- what is written does not depend on what is there
print_same : (n : There) (k : Key) (f : Fields k) → (row nothing_there k).print f ≡ (row n k).print f
print_same n Form f = refl
print_same n Autos f = refl
print_same n Clocks f = refl
print_same n Triggers f = refl
print_same n Chans f = refl
print_same n Var f = refl
print_same n Task f = refl
print_same n Set f = refl
print_same n Loc f = refl
print_same n Inv f = refl
print_same n Edge f = refl
print_same n Clk f = refl
print_same n Dif f = refl
print_same n Val f = refl
print_same n Zero f = refl
print_same n Edges f = refl

-- a key is known by its bytes, holds no `=` and no newline, and has 1 to 8 bytes
record KeyFacts (k : Key) : Type 0 where
  known : key_named (key_bytes k) ≡ Some k
  no_equals : free equals (key_bytes k) ≡ true
  no_newline : free newline (key_bytes k) ≡ true
  long : (leb 1 (length (key_bytes k)) && leb (length (key_bytes k)) 8) ≡ true

key_facts : (k : Key) → KeyFacts k
key_facts Form = record { known = refl; no_equals = refl; no_newline = refl; long = refl }
key_facts Autos = record { known = refl; no_equals = refl; no_newline = refl; long = refl }
key_facts Clocks = record { known = refl; no_equals = refl; no_newline = refl; long = refl }
key_facts Triggers = record { known = refl; no_equals = refl; no_newline = refl; long = refl }
key_facts Chans = record { known = refl; no_equals = refl; no_newline = refl; long = refl }
key_facts Var = record { known = refl; no_equals = refl; no_newline = refl; long = refl }
key_facts Task = record { known = refl; no_equals = refl; no_newline = refl; long = refl }
key_facts Set = record { known = refl; no_equals = refl; no_newline = refl; long = refl }
key_facts Loc = record { known = refl; no_equals = refl; no_newline = refl; long = refl }
key_facts Inv = record { known = refl; no_equals = refl; no_newline = refl; long = refl }
key_facts Edge = record { known = refl; no_equals = refl; no_newline = refl; long = refl }
key_facts Clk = record { known = refl; no_equals = refl; no_newline = refl; long = refl }
key_facts Dif = record { known = refl; no_equals = refl; no_newline = refl; long = refl }
key_facts Val = record { known = refl; no_equals = refl; no_newline = refl; long = refl }
key_facts Zero = record { known = refl; no_equals = refl; no_newline = refl; long = refl }
key_facts Edges = record { known = refl; no_equals = refl; no_newline = refl; long = refl }

pub key_known : (k : Key) → key_named (key_bytes k) ≡ Some k
key_known k = (key_facts k).known

pub same_self : (xs : List ℕ) → same xs xs ≡ true
same_self [] = refl
same_self (x ∷ xs) = and_from _ _ (eq-eqb x x refl) (same_self xs)

-- the fields of a line, as bytes
abbrev pub value_of : (k : Key) → Fields k → List ℕ
value_of k f = join comma ((row nothing_there k).print f)

cut_line : (n : ℕ) (k : Key) (f : Fields k) → key_and_value n (line_of (k, f)) ≡ Ok (key_bytes k, value_of k f)
cut_line n k f =
    let i = key_facts k in
    ap (keyed n) (cut_front equals (key_bytes k) (value_of k f) i.no_equals)
    ∙ cond-true (leb 1 (length (key_bytes k)) && leb (length (key_bytes k)) 8) (Ok (key_bytes k, value_of k f)) (malformed n) i.long

-- good fields are read back
pub fields_forth : (n : There) (k : Key) (f : Fields k) → (row n k).good f ≡ true → (at : Place) → (row n k).parse at (pieces comma (value_of k f)) ≡ Ok f
fields_forth n k f g at =
    let w = printed_row n k in
    let parts : pieces comma (value_of k f) ≡ (row n k).print f = ap (λ (t : List (List ℕ)). pieces comma (join comma t)) (print_same n k f) ∙ w.parted f g in
    ap ((row n k).parse at) parts ∙ w.forth at f g

pub take_line_forth : (p : Plan) (n : ℕ) (k : Key) (f : Fields k) → allowed k p ≡ true → room k p ≡ true → (row (there p) k).good f ≡ true → take_line p n (line_of (k, f)) ≡ take_fields k p (value_place n (key_bytes k)) f
take_line_forth p n k f a r g =
    let at = value_place n (key_bytes k) in
    let v = value_of k f in
    ap (λ (l : Result (List ℕ × List ℕ) SequenceFault). on l (λ l. take_key (key_named l.0) p n l)) (cut_line n k f)
    ∙ (ap (λ (o : Option Key). take_key o p n (key_bytes k, v)) (key_facts k).known
    ∙ (cond-true (allowed k p) (cond (room k p) (take_value k p at v) (Err (TooManyLines (place n 1)))) (not_allowed n) a
    ∙ (cond-true (room k p) (take_value k p at v) (Err (TooManyLines (place n 1))) r
    ∙ ap (λ (x : Result (Fields k) SequenceFault). on x (take_fields k p at)) (fields_forth (there p) k f g at))))

pub line_free : (n : There) (k : Key) (f : Fields k) → (row n k).good f ≡ true → free newline (line_of (k, f)) ≡ true
line_free n k f g =
    free_append newline (key_bytes k) (equals ∷ value_of k f) (key_facts k).no_newline
    (ap (λ (t : List (List ℕ)). free newline (join comma t)) (print_same n k f) ∙ (printed_row n k).no_newline f g)

-- how many bytes a line has at most, its newline among them
abbrev pub line_width : Key → ℕ
line_width k = length (key_bytes k) + row_width k + 2

pub line_wide : (n : There) (k : Key) (f : Fields k) → (row n k).good f ≡ true → length (line_of (k, f)) + 1 ≤ line_width k
line_wide n k f g =
    let e : length (value_of k f) ≡ length (join comma ((row n k).print f)) = ap (λ (t : List (List ℕ)). length (join comma t)) (print_same n k f) in
    omega (arith, length-append (key_bytes k) (equals ∷ value_of k f), (printed_row n k).wide f g)

-- a line of a count
pub count_forth : (k : Key) (low high n v : ℕ) (f : Fields k) (rest : List (List ℕ)) → (one (count low high)).parse (value_place n (key_bytes k)) (pieces comma (value_of k f)) ≡ Ok v → some rest ≡ true → count_line k low high n (line_of (k, f) ∷ rest) ≡ Ok (v, rest)
count_forth k low high n v f [] g s = absurd (let z : ◌≡◌ {A = ℕ} 0 1 = cc in omega arith)
count_forth k low high n v f (m ∷ ls) g s =
    ap (λ (l : Result (List ℕ × List ℕ) SequenceFault). on (on l (counted k low high n)) (λ w. Ok (w, m ∷ ls))) (cut_line n k f)
    ∙ ap (λ (x : Result ℕ SequenceFault). on x (λ w. Ok (w, m ∷ ls)))
    (cond-true (same (key_bytes k) (key_bytes k)) ((one (count low high)).parse (value_place n (key_bytes k)) (pieces comma (value_of k f))) (not_allowed n) (same_self (key_bytes k)) ∙ g)
