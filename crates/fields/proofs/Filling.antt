-- The fields so far, and what is left.
use Rattle.std.proofs.Common.{◌≡◌, ◌≢◌, ℕ, ◌+◌, ◌<◌, ◌≤◌, List, [], ◌∷◌, ◌++◌, length, get_or, take, Some, None, Option, sym, refl, ap, subst, arith}
use Rattle.std.proofs.lemmas.List.{append_assoc, append-nil}
use Rattle.lexical.specs.Bytes.{pieces, comma}
use Rattle.lexical.specs.Fields.{behind}
use Rattle.fields.specs.declared.field.Field.{Field}
use Rattle.fields.specs.declared.text.FieldText.{FieldText}
use Rattle.fields.specs.Splits.{AllStand, FirstField, BeginsAt, fields_left}
use Rattle.fields.proofs.Splitting.{at_least_one}

-- fields stand for what is left
abbrev pub LeftStand : Option FieldText → List Field → Type 0
LeftStand None us = us ≡ []
LeftStand (Some t) us = AllStand t.at (pieces comma t.bytes.now) us

-- ts are the first n fields of a text, of which something is left
pub record Filled (text : FieldText) (left : Option FieldText) (ts : List Field) (n : ℕ) : Type 0 where
  pub stand : (us : List Field) → LeftStand left us → AllStand text.at (pieces comma text.bytes.now) (ts ++ us)
  pub count : length (pieces comma text.bytes.now) ≡ n + length (fields_left left)

pub filled_none : (text : FieldText) → Filled text (Some text) [] 0
filled_none text = record { stand = λ us h. h; count = omega arith }

stands : (t : FieldText) (f : Field) (left : Option FieldText) → FirstField t f left → (us : List Field) → LeftStand left us → AllStand t.at (pieces comma t.bytes.now) (f ∷ us)
stands t f left h us l = subst (λ (ps : List (List ℕ)). AllStand t.at ps (f ∷ us)) (sym h.split) (h.first, go left h.next us l)
  where
    go : (o : Option FieldText) → BeginsAt (behind t.at h.x) o → (us : List Field) → LeftStand o us → AllStand (behind t.at h.x) (fields_left o) us
    go None b us e = subst (AllStand (behind t.at h.x) []) (sym e) tt
    go (Some m) b us l = subst (λ p. AllStand p (pieces comma m.bytes.now) us) b l

pub filled_more : (text t : FieldText) (f : Field) (left : Option FieldText) (ts : List Field) (n : ℕ) → FirstField t f left → Filled text (Some t) ts n → Filled text left (ts ++ (f ∷ [])) (n + 1)
filled_more text t f left ts n h i =
    record {
      stand = λ us l. subst (AllStand text.at (pieces comma text.bytes.now)) (sym (append_assoc ts (f ∷ []) us)) (i.stand (f ∷ us) (stands t f left h us l));
      count = omega (arith, i.count, ap length h.split);
    }

-- the first places of a list of four
first_of_four : (fs : List Field) (d : Field) (n : ℕ) → length fs ≡ 4 → take n fs ≡ take n (get_or fs 0 d ∷ get_or fs 1 d ∷ get_or fs 2 d ∷ get_or fs 3 d ∷ [])
first_of_four [] d n l = absurd (omega (arith, l))
first_of_four (x ∷ []) d n l = absurd (omega (arith, l))
first_of_four (x ∷ y ∷ []) d n l = absurd (omega (arith, l))
first_of_four (x ∷ y ∷ z ∷ []) d n l = absurd (omega (arith, l))
first_of_four (x ∷ y ∷ z ∷ w ∷ []) d n l = refl
first_of_four (x ∷ y ∷ z ∷ w ∷ v ∷ fs) d n l = absurd (omega (arith, l))

filled_all : (text : FieldText) (ts : List Field) (n : ℕ) → Filled text None ts n → AllStand text.at (pieces comma text.bytes.now) ts
filled_all text ts n i = subst (AllStand text.at (pieces comma text.bytes.now)) (append-nil ts) (i.stand [] refl)

pub too_few : (text : FieldText) (ts : List Field) (n many : ℕ) → Filled text None ts n → n < many → length (pieces comma text.bytes.now) ≢ many
too_few text ts n many i h e = omega (arith, i.count, e, h)

pub too_many : (text t : FieldText) (ts : List Field) (n many : ℕ) → Filled text (Some t) ts n → many ≤ n → length (pieces comma text.bytes.now) ≢ many
too_many text t ts n many i h e = omega (arith, i.count, e, h, at_least_one comma t.bytes.now)

-- all the fields, in the first of four places
pub four_filled : (text : FieldText) (fs : List Field) (d : Field) (n many : ℕ) → length fs ≡ 4 → n ≡ many → Filled text None (take n fs) n → AllStand text.at (pieces comma text.bytes.now) (take many (get_or fs 0 d ∷ get_or fs 1 d ∷ get_or fs 2 d ∷ get_or fs 3 d ∷ []))
four_filled text fs d n many l e h =
    subst (AllStand text.at (pieces comma text.bytes.now)) (first_of_four fs d many l) (subst (λ m. AllStand text.at (pieces comma text.bytes.now) (take m fs)) e (filled_all text (take n fs) n h))
