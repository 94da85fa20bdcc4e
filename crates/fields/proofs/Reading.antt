-- A number read as an integer, in its own type.
use Rattle.std.proofs.Common.{◌≡◌, ℕ, ℤ, Ok, Err, Result, sym, ap, ◌∙◌, arith}
use Rattle.lexical.specs.declared.fault.NumberFault.{NumberFault}
use Rattle.fields.specs.Numerals.{SameRead}

pub read_ok : {A : Type 0} (f : A → ℤ) → ((x y : A) → f x ≡ f y → x ≡ y) → (r : Result A NumberFault) (i : Result ℤ NumberFault) (z : ℤ) (x : A) → SameRead f r i → Ok z ≡ i → f x ≡ z → Ok x ≡ r
read_ok f inj (Ok y) (Ok w) z x s e h = let w : z ≡ w = cc in ap Ok (inj x y (h ∙ (w ∙ sym s)))
read_ok f inj (Ok y) (Err d) z x s e h = absurd s
read_ok f inj (Err d) (Ok w) z x s e h = absurd s
read_ok f inj (Err d) (Err e') z x s e h = absurd (let z : ◌≡◌ {A = ℕ} 0 1 = cc in omega arith)
