-- What a codec or a row writes of a good value is read as that value, parts at its commas, holds no newline and is short.
use Rattle.std.proofs.Common.{◌≡◌, ℕ, ◌+◌, ◌^◌, ◌<◌, ◌≤◌, Bool, true, false, cond, ◌&&◌, ltb, leb, List, [], ◌∷◌, ◌++◌, length, ℤ, pos, Some, None, Ok, Err, decimal, Option, Result, refl, ap, ◌∙◌, arith}
use lib.Signed.{le_z, mag}
use Rattle.std.specs.Fmt.{signed_decimal}
use Rattle.std.proofs.lemmas.List.{length-append}
use Rattle.std.proofs.lemmas.Fmt.{length-decimal-le, length_signed_le}
use Rattle.std.proofs.lemmas.Bool.{and_parts, and_from, cond-true, cond-false, leb-true, le-leb}
use Rattle.parts.specs.declared.part.Relation.{Relation}
use Rattle.parts.specs.declared.part.Relation.TheVariants.{Lt, Le, Eq, Ge, Gt}
use Rattle.parts.specs.declared.part.Label.{Label}
use Rattle.parts.specs.declared.part.Label.TheVariants.{Internal, Trigger, Send, Receive}
use Rattle.lexical.specs.declared.fault.Place.{Place}
use Rattle.lexical.specs.declared.fault.NumberFault.{NumberFault}
use Rattle.lexical.specs.declared.fault.NumberFault.TheVariants.{Misspelt, OutOfRange}
use Rattle.lexical.specs.declared.fault.SequenceFault.{SequenceFault}
use Rattle.lexical.specs.declared.fault.SequenceFault.TheVariants.{NothingThere}
use Rattle.lexical.specs.Bytes.{pieces, join, free, same, comma, newline}
use Rattle.lexical.specs.Numbers.{spelt_signed, said, natural, natural_of}
use Rattle.lexical.specs.Fields.{on, numeral, behind, Codec, Row, integer, count, known, reference, some_of, optional, relation, strictness, labelled, label, one, two, three, four}
use Rattle.grammar.proofs.Bytewise.{pieces_front, pieces_alone, free_append}
use Rattle.grammar.proofs.Spelling.{signed_spelt, free_decimal, free_signed, decimal_no_dash, mag_between}

-- what a codec writes of a good value, in at most so many bytes
pub record Printed {A : Type 0} (k : Codec A) (width : ℕ) : Type 0 where
  pub forth : (at : Place) (a : A) → k.good a ≡ true → k.parse at (k.print a) ≡ Ok a
  pub no_comma : (a : A) → k.good a ≡ true → free comma (k.print a) ≡ true
  pub no_newline : (a : A) → k.good a ≡ true → free newline (k.print a) ≡ true
  pub wide : (a : A) → k.good a ≡ true → length (k.print a) ≤ width

-- and a row
pub record PrintedRow {A : Type 0} (k : Row A) (width : ℕ) : Type 0 where
  pub forth : (at : Place) (a : A) → k.good a ≡ true → k.parse at (k.print a) ≡ Ok a
  pub parted : (a : A) → k.good a ≡ true → pieces comma (join comma (k.print a)) ≡ k.print a
  pub no_newline : (a : A) → k.good a ≡ true → free newline (join comma (k.print a)) ≡ true
  pub wide : (a : A) → k.good a ≡ true → length (join comma (k.print a)) ≤ width

-- ---- numbers

module _ (low high : ℤ) (w : ℕ) (m : ℕ) (l : mag low ≤ m) (u : mag high ≤ m) (small : m < 2 ^ 63) (few : m + 1 < 10 ^ w) where
  size : (z : ℤ) → (integer low high).good z ≡ true → mag z ≤ m
  size z g = mag_between low high z m g l u

  integer_forth : (at : Place) (z : ℤ) → (integer low high).good z ≡ true → (integer low high).parse at (signed_decimal z) ≡ Ok z
  integer_forth at z g =
      let s = size z g in
      let p = signed_spelt z (omega arith) in
      ap numeral (cond-true (spelt_signed (signed_decimal z)) (cond (le_z low (said (signed_decimal z)) && le_z (said (signed_decimal z)) high) (Ok (said (signed_decimal z))) (Err (OutOfRange at))) (Err (Misspelt at)) p.0
      ∙ (ap (λ (y : ℤ). cond (le_z low y && le_z y high) (Ok y) (Err (OutOfRange at))) p.1 ∙ cond-true (le_z low z && le_z z high) (Ok z) (Err (OutOfRange at)) g))

  pub printed_integer : Printed (integer low high) (w + 1)
  printed_integer = record {
    forth = integer_forth;
    no_comma = λ z g. let s = size z g in free_signed 44 z (omega arith) (omega arith);
    no_newline = λ z g. let s = size z g in free_signed 10 z (omega arith) (omega arith);
    wide = λ z g. let s = size z g in length_signed_le w z (omega arith) (omega arith);
  }

natural_forth : (low high : ℕ) → high < 2 ^ 63 → (at : Place) (n : ℕ) → (leb low n && leb n high) ≡ true → natural_of low high at (decimal n) ≡ Ok n
natural_forth low high u at n g =
    let b : n ≤ high = leb-true n high (and_parts (leb low n) (leb n high) g).1 in
    let p = signed_spelt (pos n) (omega arith) in
    cond-true (spelt_signed (decimal n)) (natural low high at (said (decimal n))) (Err (Misspelt at)) p.0 ∙ (ap (natural low high at) p.1 ∙ cond-true (leb low n && leb n high) (Ok n) (Err (OutOfRange at)) g)

module _ (low high : ℕ) (w : ℕ) (some : 0 < w) (small : high < 2 ^ 63) (few : high < 10 ^ w) where
  at_most : (n : ℕ) → (count low high).good n ≡ true → n ≤ high
  at_most n g = leb-true n high (and_parts (leb low n) (leb n high) g).1

  pub printed_count : Printed (count low high) w
  printed_count = record {
    forth = λ at n g. ap numeral (natural_forth low high small at n g);
    no_comma = λ n g. let s = at_most n g in free_decimal 44 n (omega arith) (omega arith);
    no_newline = λ n g. let s = at_most n g in free_decimal 10 n (omega arith) (omega arith);
    wide = λ n g. let s = at_most n g in length-decimal-le w n some (omega arith) (omega arith);
  }

byte : (many n : ℕ) → (reference many).good n ≡ true → n ≤ 255
byte many n g = leb-true n 255 (and_parts (leb n 255) (ltb n many) g).0

reference_forth : (many : ℕ) (at : Place) (n : ℕ) → (reference many).good n ≡ true → (reference many).parse at (decimal n) ≡ Ok n
reference_forth many at n g =
    let p = and_parts (leb n 255) (ltb n many) g in
    ap (λ (r : Result ℕ NumberFault). on (numeral r) (known many at)) (natural_forth 0 255 (omega arith) at n (and_from (leb 0 n) (leb n 255) (le-leb 0 n (omega arith)) p.0))
    ∙ cond-true (ltb n many) (Ok n) (Err (NothingThere at)) p.1

pub printed_reference : (many : ℕ) → Printed (reference many) 3
printed_reference many = record {
  forth = reference_forth many;
  no_comma = λ n g. let s = byte many n g in free_decimal 44 n (omega arith) (omega arith);
  no_newline = λ n g. let s = byte many n g in free_decimal 10 n (omega arith) (omega arith);
  wide = λ n g. let s = byte many n g in length-decimal-le 3 n (omega arith) (omega arith) (omega arith);
}

-- ---- dashes and words

pub printed_optional : (many : ℕ) → Printed (optional (reference many)) 3
printed_optional many = record { forth = forth; no_comma = no_comma; no_newline = no_newline; wide = wide }
  where
    k : Printed (reference many) 3
    k = printed_reference many

    forth : (at : Place) (o : Option ℕ) → (optional (reference many)).good o ≡ true → (optional (reference many)).parse at ((optional (reference many)).print o) ≡ Ok o
    forth at None g = refl
    forth at (Some n) g =
        let s = byte many n g in
        cond-false (same (decimal n) (45 ∷ [])) (Ok None) (some_of ((reference many).parse at (decimal n))) (decimal_no_dash n (omega arith)) ∙ ap some_of (k.forth at n g)

    no_comma : (o : Option ℕ) → (optional (reference many)).good o ≡ true → free comma ((optional (reference many)).print o) ≡ true
    no_comma None g = refl
    no_comma (Some n) g = k.no_comma n g

    no_newline : (o : Option ℕ) → (optional (reference many)).good o ≡ true → free newline ((optional (reference many)).print o) ≡ true
    no_newline None g = refl
    no_newline (Some n) g = k.no_newline n g

    wide : (o : Option ℕ) → (optional (reference many)).good o ≡ true → length ((optional (reference many)).print o) ≤ 3
    wide None g = omega arith
    wide (Some n) g = k.wide n g

pub printed_relation : Printed relation 2
printed_relation = record { forth = forth; no_comma = no_comma; no_newline = no_newline; wide = wide }
  where
    forth : (at : Place) (a : Relation) → true ≡ true → relation.parse at (relation.print a) ≡ Ok a
    forth at Lt g = refl
    forth at Le g = refl
    forth at Eq g = refl
    forth at Ge g = refl
    forth at Gt g = refl

    no_comma : (a : Relation) → true ≡ true → free comma (relation.print a) ≡ true
    no_comma Lt g = refl
    no_comma Le g = refl
    no_comma Eq g = refl
    no_comma Ge g = refl
    no_comma Gt g = refl

    no_newline : (a : Relation) → true ≡ true → free newline (relation.print a) ≡ true
    no_newline Lt g = refl
    no_newline Le g = refl
    no_newline Eq g = refl
    no_newline Ge g = refl
    no_newline Gt g = refl

    wide : (a : Relation) → true ≡ true → length (relation.print a) ≤ 2
    wide Lt g = omega arith
    wide Le g = omega arith
    wide Eq g = omega arith
    wide Ge g = omega arith
    wide Gt g = omega arith

pub printed_strictness : Printed strictness 2
printed_strictness = record { forth = forth; no_comma = no_comma; no_newline = no_newline; wide = wide }
  where
    forth : (at : Place) (a : Bool) → true ≡ true → strictness.parse at (strictness.print a) ≡ Ok a
    forth at true g = refl
    forth at false g = refl

    no_comma : (a : Bool) → true ≡ true → free comma (strictness.print a) ≡ true
    no_comma true g = refl
    no_comma false g = refl

    no_newline : (a : Bool) → true ≡ true → free newline (strictness.print a) ≡ true
    no_newline true g = refl
    no_newline false g = refl

    wide : (a : Bool) → true ≡ true → length (strictness.print a) ≤ 2
    wide true g = omega arith
    wide false g = omega arith

pub printed_label : (triggers channels : ℕ) → Printed (label triggers channels) 4
printed_label triggers channels = record { forth = forth; no_comma = no_comma; no_newline = no_newline; wide = wide }
  where
    t : Printed (reference triggers) 3
    t = printed_reference triggers

    c : Printed (reference channels) 3
    c = printed_reference channels

    forth : (at : Place) (a : Label) → (label triggers channels).good a ≡ true → (label triggers channels).parse at ((label triggers channels).print a) ≡ Ok a
    forth at Internal g = refl
    forth at (Trigger n) g = ap (labelled Trigger) (t.forth at n g)
    forth at (Send n) g = ap (labelled Send) (c.forth at n g)
    forth at (Receive n) g = ap (labelled Receive) (c.forth at n g)

    no_comma : (a : Label) → (label triggers channels).good a ≡ true → free comma ((label triggers channels).print a) ≡ true
    no_comma Internal g = refl
    no_comma (Trigger n) g = t.no_comma n g
    no_comma (Send n) g = c.no_comma n g
    no_comma (Receive n) g = c.no_comma n g

    no_newline : (a : Label) → (label triggers channels).good a ≡ true → free newline ((label triggers channels).print a) ≡ true
    no_newline Internal g = refl
    no_newline (Trigger n) g = t.no_newline n g
    no_newline (Send n) g = c.no_newline n g
    no_newline (Receive n) g = c.no_newline n g

    wide : (a : Label) → (label triggers channels).good a ≡ true → length ((label triggers channels).print a) ≤ 4
    wide Internal g = omega arith
    wide (Trigger n) g = omega (arith, t.wide n g)
    wide (Send n) g = omega (arith, c.wide n g)
    wide (Receive n) g = omega (arith, c.wide n g)

-- ---- rows

pub printed_one : {A : Type 0} (k : Codec A) (v : ℕ) → Printed k v → PrintedRow (one k) v
printed_one k v p = record {
  forth = λ at a g. p.forth at a g;
  parted = λ a g. pieces_alone comma (k.print a) (p.no_comma a g);
  no_newline = λ a g. p.no_newline a g;
  wide = λ a g. p.wide a g;
}

pub printed_two : {A B : Type 0} (k : Codec A) (l : Codec B) (v w : ℕ) → Printed k v → Printed l w → PrintedRow (two k l) (v + w + 1)
printed_two {A} {B} k l v w p q = record { forth = forth; parted = parted; no_newline = no_newline; wide = wide }
  where
    parts : (a : A × B) → (two k l).good a ≡ true → (k.good a.0 ≡ true) × (l.good a.1 ≡ true)
    parts a g = and_parts _ _ g

    forth : (at : Place) (a : A × B) → (two k l).good a ≡ true → (two k l).parse at ((two k l).print a) ≡ Ok a
    forth at a g =
        let h = parts a g in
        let x = k.print a.0 in
        let y = l.print a.1 in
        ap (λ (r : Result A SequenceFault). on r (λ c. on (l.parse (behind at x) y) (λ d. Ok (c, d)))) (p.forth at a.0 h.0)
        ∙ ap (λ (r : Result B SequenceFault). on r (λ d. Ok (a.0, d))) (q.forth (behind at x) a.1 h.1)

    parted : (a : A × B) → (two k l).good a ≡ true → pieces comma (join comma ((two k l).print a)) ≡ (two k l).print a
    parted a g =
        let h = parts a g in
        pieces_front comma (k.print a.0) (l.print a.1) (p.no_comma a.0 h.0)
        ∙ ap (λ (t : List (List ℕ)). k.print a.0 ∷ t) (pieces_alone comma (l.print a.1) (q.no_comma a.1 h.1))

    no_newline : (a : A × B) → (two k l).good a ≡ true → free newline (join comma ((two k l).print a)) ≡ true
    no_newline a g =
        let h = parts a g in
        free_append newline (k.print a.0) (comma ∷ l.print a.1) (p.no_newline a.0 h.0) (q.no_newline a.1 h.1)

    wide : (a : A × B) → (two k l).good a ≡ true → length (join comma ((two k l).print a)) ≤ v + w + 1
    wide a g =
        let h = parts a g in
        omega (arith, length-append (k.print a.0) (comma ∷ l.print a.1), p.wide a.0 h.0, q.wide a.1 h.1)

pub printed_three : {A B C : Type 0} (k : Codec A) (l : A → Codec B) (m : A → B → Codec C) (u v w : ℕ) → Printed k u → ((a : A) → k.good a ≡ true → Printed (l a) v) → ((a : A) (b : B) → k.good a ≡ true → (l a).good b ≡ true → Printed (m a b) w) → PrintedRow (three k l m) (u + v + w + 2)
printed_three {A} {B} {C} k l m u v w pk pl pm = record { forth = forth; parted = parted; no_newline = no_newline; wide = wide }
  where
    parts : (a : A × B × C) → (three k l m).good a ≡ true → (k.good a.0 ≡ true) × ((l a.0).good a.1 ≡ true) × ((m a.0 a.1).good a.2 ≡ true)
    parts a g =
        let x = and_parts _ _ g in
        let y = and_parts _ _ x.1 in
        (x.0, y.0, y.1)

    forth : (at : Place) (a : A × B × C) → (three k l m).good a ≡ true → (three k l m).parse at ((three k l m).print a) ≡ Ok a
    forth at a g =
        let h = parts a g in
        let x = k.print a.0 in
        let y = (l a.0).print a.1 in
        let z = (m a.0 a.1).print a.2 in
        ap (λ (r : Result A SequenceFault). on r (λ c. on ((l c).parse (behind at x) y) (λ d. on ((m c d).parse (behind (behind at x) y) z) (λ e. Ok (c, d, e))))) (pk.forth at a.0 h.0)
        ∙ (ap (λ (r : Result B SequenceFault). on r (λ d. on ((m a.0 d).parse (behind (behind at x) y) z) (λ e. Ok (a.0, d, e)))) ((pl a.0 h.0).forth (behind at x) a.1 h.1)
        ∙ ap (λ (r : Result C SequenceFault). on r (λ e. Ok (a.0, a.1, e))) ((pm a.0 a.1 h.0 h.1).forth (behind (behind at x) y) a.2 h.2))

    parted : (a : A × B × C) → (three k l m).good a ≡ true → pieces comma (join comma ((three k l m).print a)) ≡ (three k l m).print a
    parted a g =
        let h = parts a g in
        let x = k.print a.0 in
        let y = (l a.0).print a.1 in
        let z = (m a.0 a.1).print a.2 in
        pieces_front comma x (y ++ (comma ∷ z)) (pk.no_comma a.0 h.0)
        ∙ ap (λ (t : List (List ℕ)). x ∷ t) (pieces_front comma y z ((pl a.0 h.0).no_comma a.1 h.1) ∙ ap (λ (t : List (List ℕ)). y ∷ t) (pieces_alone comma z ((pm a.0 a.1 h.0 h.1).no_comma a.2 h.2)))

    no_newline : (a : A × B × C) → (three k l m).good a ≡ true → free newline (join comma ((three k l m).print a)) ≡ true
    no_newline a g =
        let h = parts a g in
        let x = k.print a.0 in
        let y = (l a.0).print a.1 in
        let z = (m a.0 a.1).print a.2 in
        free_append newline x (comma ∷ (y ++ (comma ∷ z))) (pk.no_newline a.0 h.0) (free_append newline y (comma ∷ z) ((pl a.0 h.0).no_newline a.1 h.1) ((pm a.0 a.1 h.0 h.1).no_newline a.2 h.2))

    wide : (a : A × B × C) → (three k l m).good a ≡ true → length (join comma ((three k l m).print a)) ≤ u + v + w + 2
    wide a g =
        let h = parts a g in
        let x = k.print a.0 in
        let y = (l a.0).print a.1 in
        let z = (m a.0 a.1).print a.2 in
        omega (arith, length-append x (comma ∷ (y ++ (comma ∷ z))), length-append y (comma ∷ z), pk.wide a.0 h.0, (pl a.0 h.0).wide a.1 h.1, (pm a.0 a.1 h.0 h.1).wide a.2 h.2)

pub printed_four : {A B C D : Type 0} (k : Codec A) (l : Codec B) (m : Codec C) (n : Codec D) (s u v w : ℕ) → Printed k s → Printed l u → Printed m v → Printed n w → PrintedRow (four k l m n) (s + u + v + w + 3)
printed_four {A} {B} {C} {D} k l m n s u v w pk pl pm pn = record { forth = forth; parted = parted; no_newline = no_newline; wide = wide }
  where
    parts : (a : A × B × C × D) → (four k l m n).good a ≡ true → (k.good a.0 ≡ true) × (l.good a.1 ≡ true) × (m.good a.2 ≡ true) × (n.good a.3 ≡ true)
    parts a g =
        let x = and_parts _ _ g in
        let y = and_parts _ _ x.1 in
        let z = and_parts _ _ y.1 in
        (x.0, y.0, z.0, z.1)

    forth : (at : Place) (a : A × B × C × D) → (four k l m n).good a ≡ true → (four k l m n).parse at ((four k l m n).print a) ≡ Ok a
    forth at a g =
        let h = parts a g in
        let x = k.print a.0 in
        let y = l.print a.1 in
        let z = m.print a.2 in
        let o = n.print a.3 in
        ap (λ (r : Result A SequenceFault). on r (λ c. on (l.parse (behind at x) y) (λ d. on (m.parse (behind (behind at x) y) z) (λ e. on (n.parse (behind (behind (behind at x) y) z) o) (λ f. Ok (c, d, e, f)))))) (pk.forth at a.0 h.0)
        ∙ (ap (λ (r : Result B SequenceFault). on r (λ d. on (m.parse (behind (behind at x) y) z) (λ e. on (n.parse (behind (behind (behind at x) y) z) o) (λ f. Ok (a.0, d, e, f))))) (pl.forth (behind at x) a.1 h.1)
        ∙ (ap (λ (r : Result C SequenceFault). on r (λ e. on (n.parse (behind (behind (behind at x) y) z) o) (λ f. Ok (a.0, a.1, e, f)))) (pm.forth (behind (behind at x) y) a.2 h.2)
        ∙ ap (λ (r : Result D SequenceFault). on r (λ f. Ok (a.0, a.1, a.2, f))) (pn.forth (behind (behind (behind at x) y) z) a.3 h.3)))

    parted : (a : A × B × C × D) → (four k l m n).good a ≡ true → pieces comma (join comma ((four k l m n).print a)) ≡ (four k l m n).print a
    parted a g =
        let h = parts a g in
        let x = k.print a.0 in
        let y = l.print a.1 in
        let z = m.print a.2 in
        let o = n.print a.3 in
        pieces_front comma x (y ++ (comma ∷ (z ++ (comma ∷ o)))) (pk.no_comma a.0 h.0)
        ∙ ap (λ (t : List (List ℕ)). x ∷ t) (pieces_front comma y (z ++ (comma ∷ o)) (pl.no_comma a.1 h.1)
        ∙ ap (λ (t : List (List ℕ)). y ∷ t) (pieces_front comma z o (pm.no_comma a.2 h.2) ∙ ap (λ (t : List (List ℕ)). z ∷ t) (pieces_alone comma o (pn.no_comma a.3 h.3))))

    no_newline : (a : A × B × C × D) → (four k l m n).good a ≡ true → free newline (join comma ((four k l m n).print a)) ≡ true
    no_newline a g =
        let h = parts a g in
        let x = k.print a.0 in
        let y = l.print a.1 in
        let z = m.print a.2 in
        let o = n.print a.3 in
        free_append newline x (comma ∷ (y ++ (comma ∷ (z ++ (comma ∷ o))))) (pk.no_newline a.0 h.0)
        (free_append newline y (comma ∷ (z ++ (comma ∷ o))) (pl.no_newline a.1 h.1) (free_append newline z (comma ∷ o) (pm.no_newline a.2 h.2) (pn.no_newline a.3 h.3)))

    wide : (a : A × B × C × D) → (four k l m n).good a ≡ true → length (join comma ((four k l m n).print a)) ≤ s + u + v + w + 3
    wide a g =
        let h = parts a g in
        let x = k.print a.0 in
        let y = l.print a.1 in
        let z = m.print a.2 in
        let o = n.print a.3 in
        omega (arith, length-append x (comma ∷ (y ++ (comma ∷ (z ++ (comma ∷ o))))), length-append y (comma ∷ (z ++ (comma ∷ o))), length-append z (comma ∷ o), pk.wide a.0 h.0, pl.wide a.1 h.1, pm.wide a.2 h.2, pn.wide a.3 h.3)
