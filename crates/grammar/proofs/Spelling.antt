-- Written numbers are well spelt, say the number again, hold only digits and a minus sign, and are short.
use Rattle.std.proofs.Common.{◌≡◌, ℕ, suc, pred, ◌^◌, ◌<◌, ◌≤◌, true, false, not, ◌&&◌, eqb, leb, List, [], ◌∷◌, length, get_or, ℤ, pos, negsuc, decimal, sym, refl, ap, ◌∙◌, ⊎_elim, arith, rules}
use lib.Signed.{le_z, mag}
use Rattle.std.specs.Char.{is_ascii_digit}
use Rattle.std.specs.Str.{all_ascii_digits}
use Rattle.std.specs.Fmt.{signed_decimal}
use Rattle.std.proofs.lemmas.Str.Parse.{IsNumeralModel, numerals_by_fold}
use Rattle.std.proofs.lemmas.Fmt.{digits_decimal, digits_value-decimal, decimal_nonempty, first_decimal, decimal_digit}
use Rattle.std.proofs.lemmas.Bool.{and_parts, and_from, and_left, cond-false, ne_eqb, leb-true, not_from_false, cases_lt}
use Rattle.lexical.specs.Bytes.{free, same}
use Rattle.lexical.specs.Numbers.{value, spelt, spelt_signed, said}

pub own : IsNumeralModel (λ ds. all_ascii_digits ds ≡ true) (value 0)
own = numerals_by_fold _ (search rules) value (search rules)

pub never : {X : Type 0} → true ≡ false → X
never e = absurd (let z : ◌≡◌ {A = ℕ} 0 1 = cc in omega arith)

spelt_from : (ds : List ℕ) → all_ascii_digits ds ≡ true → 0 < length ds → (get_or ds 0 0 ≡ 48 → length ds ≡ 1) → spelt ds ≡ true
spelt_from [] h l z = absurd (omega arith)
spelt_from (b ∷ []) h l z = h
spelt_from (b ∷ c ∷ bs) h l z = and_from (not (eqb b 48)) (all_ascii_digits (b ∷ c ∷ bs)) (not_from_false (eqb b 48) (ne_eqb b 48 (λ e. omega (arith, z e)))) h

decimal_spelt : (n : ℕ) → n < 2 ^ 64 → spelt (decimal n) ≡ true
decimal_spelt n h =
    spelt_from (decimal n) (digits_decimal own n h) (decimal_nonempty n h)
    (λ e. ⊎_elim (λ l. absurd (omega (arith, first_decimal n l h))) (λ l. let z : n ≡ 0 = omega arith in ap (λ k. length (decimal k)) z ∙ ap length (decimal_digit 0 (omega arith))) (cases_lt 0 n))

digit_low : (c : ℕ) → is_ascii_digit c ≡ true → 48 ≤ c
digit_low c e = leb-true 48 c (and_parts (leb 48 c) (leb c 57) e).0

-- digits begin with no minus sign
unsigned : (ds : List ℕ) → all_ascii_digits ds ≡ true → spelt ds ≡ true → (spelt_signed ds ≡ true) × (said ds ≡ pos (value 0 ds))
unsigned [] d h = never (sym h)
unsigned (b ∷ bs) d h =
    let n : eqb b 45 ≡ false = ne_eqb b 45 (λ e. omega (arith, digit_low b (and_parts (is_ascii_digit b) (all_ascii_digits bs) d).0)) in
    (cond-false (eqb b 45) (spelt bs && not (eqb (value 0 bs) 0)) (spelt (b ∷ bs)) n ∙ h, cond-false (eqb b 45) (negsuc (pred (value 0 bs))) (pos (value 0 (b ∷ bs))) n)

pub signed_spelt : (z : ℤ) → mag z < 2 ^ 63 → (spelt_signed (signed_decimal z) ≡ true) × (said (signed_decimal z) ≡ z)
signed_spelt (pos n) h =
    let u = unsigned (decimal n) (digits_decimal own n (omega arith)) (decimal_spelt n (omega arith)) in
    (u.0, u.1 ∙ ap pos (digits_value-decimal own n (omega arith)))
signed_spelt (negsuc n) h =
    let v : value 0 (decimal (suc n)) ≡ suc n = digits_value-decimal own (suc n) (omega arith) in
    (and_from (spelt (decimal (suc n))) (not (eqb (value 0 (decimal (suc n))) 0)) (decimal_spelt (suc n) (omega arith)) (not_from_false (eqb (value 0 (decimal (suc n))) 0) (ne_eqb (value 0 (decimal (suc n))) 0 (λ e. omega arith))), ap (λ k. negsuc (pred k)) v)

-- digits hold no byte below 48
free_digits : (b : ℕ) → b < 48 → (ds : List ℕ) → all_ascii_digits ds ≡ true → free b ds ≡ true
free_digits b l [] h = refl
free_digits b l (d ∷ ds) h =
    let p = and_parts (is_ascii_digit d) (all_ascii_digits ds) h in
    and_from (not (eqb d b)) (free b ds) (not_from_false (eqb d b) (ne_eqb d b (λ e. omega (arith, digit_low d p.0)))) (free_digits b l ds p.1)

pub free_decimal : (b n : ℕ) → b < 48 → n < 2 ^ 64 → free b (decimal n) ≡ true
free_decimal b n l h = free_digits b l (decimal n) (digits_decimal own n h)

pub free_signed : (b : ℕ) (z : ℤ) → b < 45 → mag z < 2 ^ 63 → free b (signed_decimal z) ≡ true
free_signed b (pos n) l h = free_decimal b n (omega arith) (omega arith)
free_signed b (negsuc n) l h = and_from (not (eqb 45 b)) (free b (decimal (suc n))) (not_from_false (eqb 45 b) (ne_eqb 45 b (λ e. omega arith))) (free_decimal b (suc n) (omega arith) (omega arith))

no_dash : (ds : List ℕ) → all_ascii_digits ds ≡ true → same ds (45 ∷ []) ≡ false
no_dash [] h = refl
no_dash (d ∷ ds) h = and_left (eqb d 45) (same ds []) (ne_eqb d 45 (λ e. omega (arith, digit_low d (and_parts (is_ascii_digit d) (all_ascii_digits ds) h).0)))

pub decimal_no_dash : (n : ℕ) → n < 2 ^ 64 → same (decimal n) (45 ∷ []) ≡ false
decimal_no_dash n h = no_dash (decimal n) (digits_decimal own n h)

-- a number between two is no larger than both
pub mag_between : (low high z : ℤ) (m : ℕ) → (le_z low z && le_z z high) ≡ true → mag low ≤ m → mag high ≤ m → mag z ≤ m
mag_between low (pos h) (pos n) m e l u = omega (arith, leb-true n h (and_parts (le_z low (pos n)) (leb n h) e).1)
mag_between low (negsuc h) (pos n) m e l u = never (sym (and_parts (le_z low (pos n)) false e).1)
mag_between (pos l) high (negsuc n) m e k u = never (sym (and_parts false (le_z (negsuc n) high) e).0)
mag_between (negsuc l) high (negsuc n) m e k u = omega (arith, leb-true n l (and_parts (leb n l) (le_z (negsuc n) high) e).0)
