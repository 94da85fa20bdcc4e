-- What digits say, up to 32 bits.
use Rattle.std.specs.Prelude.{◌≡◌, ℕ, ◌<◌, ◌≤◌, ◌⊎◌, List, ℤ, pos, negsuc}
use Rattle.lexical.specs.Numbers.{value}

-- what digits say up to 32 bits, and some number beyond them where the digits say one
abbrev pub Capped : List ℕ → ℕ → Type 0
Capped bs n = (n ≤ 4294967295 → n ≡ value 0 bs) × (4294967295 < n → 4294967295 < value 0 bs) × (n ≤ 42949672959)

-- the same number, or two beyond 32 bits on the same side of 0
abbrev pub Near : ℤ → ℤ → Type 0
Near (pos m) (pos n) = (m ≡ n) ⊎ ((4294967295 < m) × (4294967295 < n))
Near (pos m) (negsuc n) = ⊥
Near (negsuc m) (pos n) = ⊥
Near (negsuc m) (negsuc n) = (m ≡ n) ⊎ ((4294967294 < m) × (4294967294 < n))
