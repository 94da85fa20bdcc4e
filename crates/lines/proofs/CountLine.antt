-- A line that has to have a key and a number.
use Rattle.std.proofs.Common.{◌≡◌, ◌≢◌, ℕ, true, false, List, [], ◌∷◌, length, Ok, Err, Result, sym, refl, ap, ◌∙◌}
use Rattle.std.proofs.lemmas.Bool.{cond-true, cond-false}
use Rattle.lexical.specs.declared.key.Key.{Key}
use Rattle.lexical.specs.declared.fault.LineFault.TheVariants.{KeyNotAllowed, FieldCount}
use Rattle.lexical.specs.declared.fault.SequenceFault.{SequenceFault}
use Rattle.lexical.specs.declared.fault.SequenceFault.TheVariants.{Line}
use Rattle.lexical.specs.Bytes.{same, pieces, comma}
use Rattle.lexical.specs.Faults.{place}
use Rattle.lexical.specs.Fields.{on, one, count, if_one, miscount}
use Rattle.lexical.specs.Keys.{key_bytes}
use Rattle.grammar.specs.Reading.{key_and_value, value_place, counted}
use Rattle.fields.specs.declared.field.Field.{Field}
use Rattle.fields.specs.Splits.{OneField}

not_one : {B : Type 0} (ps : List (List ℕ)) (e : B) (f : List ℕ → B) → length ps ≢ 1 → e ≡ if_one ps e f
not_one [] e f n = refl
not_one (x ∷ []) e f n = absurd (n refl)
not_one (x ∷ y ∷ ps) e f n = refl

module _ (k : Key) (low high n : ℕ) (l name v : List ℕ) (e : key_and_value n l ≡ Ok (name, v)) where
  begun : on (key_and_value n l) (counted k low high n) ≡ counted k low high n (name, v)
  begun = ap (λ r. on r (counted k low high n)) e

  pub other_key : same name (key_bytes k) ≡ false → Err (Line (KeyNotAllowed (place n 1))) ≡ on (key_and_value n l) (counted k low high n)
  other_key h = sym (begun ∙ cond-false _ _ _ h)

  module _ (h : same name (key_bytes k) ≡ true) where
    right_key : on (key_and_value n l) (counted k low high n) ≡ (one (count low high)).parse (value_place n name) (pieces comma v)
    right_key = begun ∙ cond-true _ _ _ h

    pub other_count : length (pieces comma v) ≢ 1 → Err (Line (FieldCount (value_place n name))) ≡ on (key_and_value n l) (counted k low high n)
    other_count m = not_one (pieces comma v) (miscount (value_place n name)) ((count low high).parse (value_place n name)) m ∙ sym right_key

    pub one_number : {t : Field} (f : OneField v (value_place n name) t) (r : Result ℕ SequenceFault) → r ≡ (count low high).parse (value_place n name) f.x → r ≡ on (key_and_value n l) (counted k low high n)
    one_number f r i =
        i ∙ (ap (λ ps. if_one ps (miscount (value_place n name)) ((count low high).parse (value_place n name))) (sym f.split) ∙ sym right_key)
