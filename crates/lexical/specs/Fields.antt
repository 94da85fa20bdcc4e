-- Fields and rows of fields: how each is read, how it is written, and which values it can have.
use Rattle.std.specs.Prelude.{ℕ, ◌+◌, Bool, true, false, cond, ◌&&◌, List, [], ◌∷◌, length, ℤ, Some, None, Ok, Err, codes, decimal, Option, Result, ◌==◌, int_le, nat_le, nat_lt}
use Rattle.std.specs.Fmt.{signed_decimal}
use Rattle.parts.specs.declared.part.Relation.{Relation}
use Rattle.parts.specs.declared.part.Relation.TheVariants.{Lt, Le, Eq, Ge, Gt}
use Rattle.parts.specs.declared.part.Label.{Label}
use Rattle.parts.specs.declared.part.Label.TheVariants.{Internal, Trigger, Send, Receive}
use Rattle.lexical.specs.declared.fault.Place.{Place}
use Rattle.lexical.specs.declared.fault.NumberFault.{NumberFault}
use Rattle.lexical.specs.declared.fault.LineFault.TheVariants.{Number, FieldCount, UnknownWord}
use Rattle.lexical.specs.declared.fault.SequenceFault.{SequenceFault}
use Rattle.lexical.specs.declared.fault.SequenceFault.TheVariants.{Line, NothingThere}
use Rattle.lexical.specs.Bytes.{same}
use Rattle.lexical.specs.Numbers.{integer_of, natural_of}

-- goes on with an Ok
abbrev pub on : {A B E : Type 0} → Result A E → (A → Result B E) → Result B E
on (Ok x) f = f x
on (Err e) f = Err e

-- a lower layer's fault carried whole
abbrev pub carried : {A E F : Type 0} → (E → F) → Result A E → Result A F
carried f (Ok x) = Ok x
carried f (Err e) = Err (f e)

abbrev pub numeral : {A : Type 0} → Result A NumberFault → Result A SequenceFault
numeral r = carried (λ e. Line (Number e)) r

-- the place of the field behind one that stands at a place
abbrev pub behind : Place → List ℕ → Place
behind at bs = record { line = at.line; column = at.column + (length bs + 1) }

-- one field: read at a place, written, and which values there are
pub record Codec (A : Type 0) : Type 0 where
  pub parse : Place → List ℕ → Result A SequenceFault
  pub print : A → List ℕ
  pub good : A → Bool

-- the fields of one line
pub record Row (A : Type 0) : Type 0 where
  pub parse : Place → List (List ℕ) → Result A SequenceFault
  pub print : A → List (List ℕ)
  pub good : A → Bool

-- ---- kinds of fields

-- a whole number from low to high
abbrev pub integer : (low high : ℤ) → Codec ℤ
integer low high = record { parse = λ at bs. numeral (integer_of low high at bs); print = signed_decimal; good = λ z. int_le low z && int_le z high }

-- the same with no number below 0
abbrev pub count : (low high : ℕ) → Codec ℕ
count low high = record { parse = λ at bs. numeral (natural_of low high at bs); print = decimal; good = λ n. nat_le low n && nat_le n high }

abbrev pub known : ℕ → Place → ℕ → Result ℕ SequenceFault
known many at n = cond (nat_lt n many) (Ok n) (Err (NothingThere at))

-- the number of something that is there, of so many
abbrev pub reference : ℕ → Codec ℕ
reference many = record { parse = λ at bs. on (numeral (natural_of 0 255 at bs)) (known many at); print = decimal; good = λ n. nat_le n 255 && nat_lt n many }

abbrev pub some_of : {A : Type 0} → Result A SequenceFault → Result (Option A) SequenceFault
some_of (Ok x) = Ok (Some x)
some_of (Err e) = Err e

abbrev pub printed_or_dash : {A : Type 0} → (A → List ℕ) → Option A → List ℕ
printed_or_dash f None = codes "-"
printed_or_dash f (Some x) = f x

abbrev pub good_or_none : {A : Type 0} → (A → Bool) → Option A → Bool
good_or_none f None = true
good_or_none f (Some x) = f x

-- a dash for none, or what the codec reads
abbrev pub optional : {A : Type 0} → Codec A → Codec (Option A)
optional k = record { parse = λ at bs. cond (same bs (codes "-")) (Ok None) (some_of (k.parse at bs)); print = printed_or_dash k.print; good = good_or_none k.good }

abbrev pub relation_word : Relation → List ℕ
relation_word Lt = codes "lt"
relation_word Le = codes "le"
relation_word Eq = codes "eq"
relation_word Ge = codes "ge"
relation_word Gt = codes "gt"

abbrev pub unknown_word : {A : Type 0} → Place → Result A SequenceFault
unknown_word at = Err (Line (UnknownWord at))

abbrev pub relation_of : Place → List ℕ → Result Relation SequenceFault
relation_of at bs =
    cond (same bs (relation_word Lt)) (Ok Lt) (cond (same bs (relation_word Le)) (Ok Le) (cond (same bs (relation_word Eq)) (Ok Eq)
    (cond (same bs (relation_word Ge)) (Ok Ge) (cond (same bs (relation_word Gt)) (Ok Gt) (unknown_word at)))))

-- lt, le, eq, ge or gt
abbrev pub relation : Codec Relation
relation = record { parse = relation_of; print = relation_word; good = λ _. true }

abbrev pub strictness_of : Place → List ℕ → Result Bool SequenceFault
strictness_of at bs = cond (same bs (relation_word Lt)) (Ok true) (cond (same bs (relation_word Le)) (Ok false) (unknown_word at))

abbrev pub strictness_word : Bool → List ℕ
strictness_word true = relation_word Lt
strictness_word false = relation_word Le

-- an invariant's relation: lt is strict, le is not
abbrev pub strictness : Codec Bool
strictness = record { parse = strictness_of; print = strictness_word; good = λ _. true }

abbrev pub labelled : (ℕ → Label) → Result ℕ SequenceFault → Result Label SequenceFault
labelled f (Ok n) = Ok (f n)
labelled f (Err e) = Err e

-- behind the letters t, s and r stands the number of a trigger or a channel
abbrev pub lettered : (triggers channels : ℕ) → Place → List ℕ → Result Label SequenceFault
lettered triggers channels at [] = unknown_word at
lettered triggers channels at (b ∷ bs) =
    cond (b == 116) (labelled Trigger ((reference triggers).parse at bs))
    (cond (b == 115) (labelled Send ((reference channels).parse at bs))
    (cond (b == 114) (labelled Receive ((reference channels).parse at bs)) (unknown_word at)))

abbrev pub label_of : (triggers channels : ℕ) → Place → List ℕ → Result Label SequenceFault
label_of triggers channels at bs = cond (same bs (codes "-")) (Ok Internal) (lettered triggers channels at bs)

abbrev pub label_text : Label → List ℕ
label_text Internal = codes "-"
label_text (Trigger n) = 116 ∷ decimal n
label_text (Send n) = 115 ∷ decimal n
label_text (Receive n) = 114 ∷ decimal n

abbrev pub good_label : (triggers channels : ℕ) → Label → Bool
good_label triggers channels Internal = true
good_label triggers channels (Trigger n) = (reference triggers).good n
good_label triggers channels (Send n) = (reference channels).good n
good_label triggers channels (Receive n) = (reference channels).good n

-- a dash, or t, s or r and a number
abbrev pub label : (triggers channels : ℕ) → Codec Label
label triggers channels = record { parse = label_of triggers channels; print = label_text; good = good_label triggers channels }

-- ---- rows of one to four fields; what a field can be may depend on those before it

abbrev pub miscount : {A : Type 0} → Place → Result A SequenceFault
miscount at = Err (Line (FieldCount at))

abbrev pub if_one : {X B : Type 0} → List X → B → (X → B) → B
if_one [] e f = e
if_one (x ∷ []) e f = f x
if_one (x ∷ y ∷ xs) e f = e

abbrev pub if_two : {X B : Type 0} → List X → B → (X → X → B) → B
if_two [] e f = e
if_two (x ∷ []) e f = e
if_two (x ∷ y ∷ []) e f = f x y
if_two (x ∷ y ∷ z ∷ xs) e f = e

abbrev pub if_three : {X B : Type 0} → List X → B → (X → X → X → B) → B
if_three [] e f = e
if_three (x ∷ []) e f = e
if_three (x ∷ y ∷ []) e f = e
if_three (x ∷ y ∷ z ∷ []) e f = f x y z
if_three (x ∷ y ∷ z ∷ w ∷ xs) e f = e

abbrev pub if_four : {X B : Type 0} → List X → B → (X → X → X → X → B) → B
if_four [] e f = e
if_four (x ∷ []) e f = e
if_four (x ∷ y ∷ []) e f = e
if_four (x ∷ y ∷ z ∷ []) e f = e
if_four (x ∷ y ∷ z ∷ w ∷ []) e f = f x y z w
if_four (x ∷ y ∷ z ∷ w ∷ v ∷ xs) e f = e

abbrev pub one : {A : Type 0} → Codec A → Row A
one k = record { parse = λ at fs. if_one fs (miscount at) (k.parse at); print = λ a. k.print a ∷ []; good = k.good }

abbrev pub two_fields : {A B : Type 0} → Codec A → Codec B → Place → List ℕ → List ℕ → Result (A × B) SequenceFault
two_fields k l at x y = on (k.parse at x) (λ a. on (l.parse (behind at x) y) (λ b. Ok (a, b)))

abbrev pub two : {A B : Type 0} → Codec A → Codec B → Row (A × B)
two k l = record {
  parse = λ at fs. if_two fs (miscount at) (two_fields k l at);
  print = λ p. k.print p.0 ∷ l.print p.1 ∷ [];
  good = λ p. k.good p.0 && l.good p.1;
}

abbrev pub three_fields : {A B C : Type 0} → Codec A → (A → Codec B) → (A → B → Codec C) → Place → List ℕ → List ℕ → List ℕ → Result (A × B × C) SequenceFault
three_fields k l m at x y z =
    on (k.parse at x) (λ a. on ((l a).parse (behind at x) y) (λ b. on ((m a b).parse (behind (behind at x) y) z) (λ c. Ok (a, b, c))))

abbrev pub three : {A B C : Type 0} → Codec A → (A → Codec B) → (A → B → Codec C) → Row (A × B × C)
three k l m = record {
  parse = λ at fs. if_three fs (miscount at) (three_fields k l m at);
  print = λ p. k.print p.0 ∷ (l p.0).print p.1 ∷ (m p.0 p.1).print p.2 ∷ [];
  good = λ p. k.good p.0 && ((l p.0).good p.1 && (m p.0 p.1).good p.2);
}

abbrev pub four_fields : {A B C D : Type 0} → Codec A → Codec B → Codec C → Codec D → Place → List ℕ → List ℕ → List ℕ → List ℕ → Result (A × B × C × D) SequenceFault
four_fields k l m n at x y z w =
    on (k.parse at x) (λ a. on (l.parse (behind at x) y) (λ b. on (m.parse (behind (behind at x) y) z) (λ c. on (n.parse (behind (behind (behind at x) y) z) w) (λ d. Ok (a, b, c, d)))))

abbrev pub four : {A B C D : Type 0} → Codec A → Codec B → Codec C → Codec D → Row (A × B × C × D)
four k l m n = record {
  parse = λ at fs. if_four fs (miscount at) (four_fields k l m n at);
  print = λ p. k.print p.0 ∷ l.print p.1 ∷ m.print p.2 ∷ n.print p.3 ∷ [];
  good = λ p. k.good p.0 && (l.good p.1 && (m.good p.2 && n.good p.3));
}
