-- What a field says in a type of numbers, beside what it says as an integer.
use Rattle.std.specs.Prelude.{◌≡◌, ℕ, Bool, true, false, cond, ◌&&◌, List, ℤ, pos, negsuc, Ok, Err, Result, int_le, nat_le}
use Rattle.lexical.specs.declared.fault.Place.{Place}
use Rattle.lexical.specs.declared.fault.NumberFault.{NumberFault}
use Rattle.lexical.specs.declared.fault.NumberFault.TheVariants.{Misspelt, OutOfRange}
use Rattle.lexical.specs.Numbers.{spelt_signed, said, natural, natural_of, integer_of}
use Rattle.std.proofs.Common.{refl}

-- the same number, or the same fault
abbrev pub SameRead : {A : Type 0} → (A → ℤ) → Result A NumberFault → Result ℤ NumberFault → Type 0
SameRead f (Ok x) (Ok z) = f x ≡ z
SameRead f (Ok x) (Err e) = ⊥
SameRead f (Err d) (Ok z) = ⊥
SameRead f (Err d) (Err e) = d ≡ e

pub same_self : (r : Result ℤ NumberFault) → SameRead (λ z. z) r r
same_self (Ok z) = refl
same_self (Err e) = refl

pub integer_reads : (low high : ℤ) (at : Place) (bs : List ℕ) → SameRead (λ z. z) (integer_of low high at bs) (integer_of low high at bs)
integer_reads low high at bs = same_self (integer_of low high at bs)

pub pos_injective : (x y : ℕ) → pos x ≡ pos y → x ≡ y
pos_injective x y e = cc

same_natural : (low high : ℕ) (at : Place) (z : ℤ) → SameRead pos (natural low high at z) (cond (int_le (pos low) z && int_le z (pos high)) (Ok z) (Err (OutOfRange at)))
same_natural low high at (pos n) = go (nat_le low n && nat_le n high)
  where
    go : (b : Bool) → SameRead pos (cond b (Ok n) (Err (OutOfRange at))) (cond b (Ok (pos n)) (Err (OutOfRange at)))
    go true = refl
    go false = refl
same_natural low high at (negsuc n) = refl

pub natural_reads : (low high : ℕ) (at : Place) (bs : List ℕ) → SameRead pos (natural_of low high at bs) (integer_of (pos low) (pos high) at bs)
natural_reads low high at bs = go (spelt_signed bs)
  where
    go : (b : Bool) → SameRead pos (cond b (natural low high at (said bs)) (Err (Misspelt at))) (cond b (cond (int_le (pos low) (said bs) && int_le (said bs) (pos high)) (Ok (said bs)) (Err (OutOfRange at))) (Err (Misspelt at)))
    go true = same_natural low high at (said bs)
    go false = refl
