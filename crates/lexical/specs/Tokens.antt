-- What a token is of a field, and of a key.
use Rattle.std.specs.Prelude.{◌≡◌, ℕ, Bool, true, false, ◌&&◌, ◌||◌, List, [], ◌∷◌, codes, ◌==◌, nat_le}
use Rattle.lexical.specs.declared.token.Token.{Token}
use Rattle.lexical.specs.declared.token.Token.TheVariants.{Key, Number, Word, Dash}
use Rattle.lexical.specs.Bytes.{same}

abbrev pub is_digit : ℕ → Bool
is_digit b = nat_le 48 b && nat_le b 57

-- the first byte is a digit or a minus sign
abbrev pub begins_number : List ℕ → Bool
begins_number [] = false
begins_number (b ∷ bs) = is_digit b || b == 45

-- a field's token: a dash, a number or a word, at its column
abbrev pub IsToken : (field : List ℕ) (column : ℕ) → Token → Type 0
IsToken field column (Key x c) = ⊥
IsToken field column (Number x c) = (x.now ≡ field) × (c ≡ column) × (same field (codes "-") ≡ false) × (begins_number field ≡ true)
IsToken field column (Word x c) = (x.now ≡ field) × (c ≡ column) × (begins_number field ≡ false)
IsToken field column (Dash c) = (c ≡ column) × (field ≡ codes "-")

-- the bytes of a token and the column where they begin
abbrev pub token_bytes : Token → List ℕ
token_bytes (Key x c) = x.now
token_bytes (Number x c) = x.now
token_bytes (Word x c) = x.now
token_bytes (Dash c) = codes "-"

abbrev pub token_column : Token → ℕ
token_column (Key x c) = c
token_column (Number x c) = c
token_column (Word x c) = c
token_column (Dash c) = c

abbrev pub is_key : Token → Bool
is_key (Key x c) = true
is_key (Number x c) = false
is_key (Word x c) = false
is_key (Dash c) = false

-- a key's token, at its column
abbrev pub KeyAt : ℕ → Token → Type 0
KeyAt column t = (is_key t ≡ true) × (token_column t ≡ column)
