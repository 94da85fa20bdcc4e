-- A value in a number of fields, each as a token at its line and column.
use Rattle.std.specs.Prelude.{◌≡◌, ℕ, List, [], ◌∷◌, length, Option, Some, None, ◌≢◌}
use Rattle.lexical.specs.declared.fault.Place.{Place}
use Rattle.lexical.specs.declared.fault.LineFault.{LineFault}
use Rattle.lexical.specs.declared.fault.LineFault.TheVariants.{FieldCount}
use Rattle.fields.specs.declared.field.Field.{Field}
use Rattle.fields.specs.declared.text.FieldText.{FieldText}
use Rattle.lexical.specs.Bytes.{pieces, comma}
use Rattle.lexical.specs.Fields.{behind}
use Rattle.lexical.specs.Tokens.{IsToken}

-- these bytes as a field, at a line and a column
abbrev pub IsField : (field : List ℕ) (line column : ℕ) → Field → Type 0
IsField field line column f = IsToken field column f.token × (f.line ≡ line)

-- the same at a place
abbrev pub Stands : Place → List ℕ → Field → Type 0
Stands at field f = IsField field at.line at.column f

-- a field for each piece, from a place on
abbrev pub AllStand : Place → List (List ℕ) → List Field → Type 0
AllStand at [] [] = Unit {0}
AllStand at [] (t ∷ ts) = ⊥
AllStand at (x ∷ xs) [] = ⊥
AllStand at (x ∷ xs) (t ∷ ts) = Stands at x t × AllStand (behind at x) xs ts

-- the fields that are left
abbrev pub fields_left : Option FieldText → List (List ℕ)
fields_left None = []
fields_left (Some text) = pieces comma text.bytes.now

-- what is left, if anything, begins at a place
abbrev pub BeginsAt : Place → Option FieldText → Type 0
BeginsAt at None = Unit {0}
BeginsAt at (Some text) = text.at ≡ at

-- the first field, and what is left behind its comma
pub record FirstField (text : FieldText) (t : Field) (left : Option FieldText) : Type 0 where
  pub x : List ℕ
  pub split : pieces comma text.bytes.now ≡ x ∷ fields_left left
  pub first : Stands text.at x t
  pub next : BeginsAt (behind text.at x) left

-- a value of one field
pub record OneField (value : List ℕ) (at : Place) (t : Field) : Type 0 where
  pub x : List ℕ
  pub split : pieces comma value ≡ x ∷ []
  pub first : Stands at x t

-- the fault of a value that has another number of fields
abbrev pub Miscounts : (many : ℕ) (value : List ℕ) → Place → LineFault → Type 0
Miscounts many value at e = (e ≡ FieldCount at) × (length (pieces comma value) ≢ many)
