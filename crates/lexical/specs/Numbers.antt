-- Numbers: how they are spelt, and what they say.
use Rattle.std.specs.Prelude.{ℕ, pred, ◌+◌, ◌-◌, ◌*◌, Bool, false, cond, not, ◌&&◌, List, [], ◌∷◌, ℤ, pos, negsuc, Ok, Err, Result, ◌==◌, int_le, nat_le}
use Rattle.std.specs.Str.{all_ascii_digits}
use Rattle.lexical.specs.declared.fault.Place.{Place}
use Rattle.lexical.specs.declared.fault.NumberFault.{NumberFault}
use Rattle.lexical.specs.declared.fault.NumberFault.TheVariants.{Misspelt, OutOfRange}

-- what digits say, behind a number
abbrev pub value : ℕ → List ℕ → ℕ
value n [] = n
value n (b ∷ bs) = value (10 * n + (b - 48)) bs

-- one digit, or more that begin with no zero
abbrev pub spelt : List ℕ → Bool
spelt [] = false
spelt (b ∷ []) = all_ascii_digits (b ∷ [])
spelt (b ∷ c ∷ bs) = not (b == 48) && all_ascii_digits (b ∷ c ∷ bs)

-- a minus sign stands only before digits other than 0
abbrev pub spelt_signed : List ℕ → Bool
spelt_signed [] = false
spelt_signed (b ∷ bs) = cond (b == 45) (spelt bs && not (value 0 bs == 0)) (spelt (b ∷ bs))

-- what a well spelt number says
abbrev pub said : List ℕ → ℤ
said [] = pos 0
said (b ∷ bs) = cond (b == 45) (negsuc (pred (value 0 bs))) (pos (value 0 (b ∷ bs)))

-- a number from low to high: spelt well first, in range second
abbrev pub integer_of : (low high : ℤ) → Place → List ℕ → Result ℤ NumberFault
integer_of low high at bs =
    cond (spelt_signed bs) (cond (int_le low (said bs) && int_le (said bs) high) (Ok (said bs)) (Err (OutOfRange at))) (Err (Misspelt at))

abbrev pub natural : (low high : ℕ) → Place → ℤ → Result ℕ NumberFault
natural low high at (pos n) = cond (nat_le low n && nat_le n high) (Ok n) (Err (OutOfRange at))
natural low high at (negsuc n) = Err (OutOfRange at)

-- the same where no number is below 0
abbrev pub natural_of : (low high : ℕ) → Place → List ℕ → Result ℕ NumberFault
natural_of low high at bs = cond (spelt_signed bs) (natural low high at (said bs)) (Err (Misspelt at))
