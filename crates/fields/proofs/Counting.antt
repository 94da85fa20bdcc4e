-- Digits read one by one: those that are left, and the number so far.
use Rattle.std.proofs.Common.{◌≡◌, ℕ, ◌+◌, ◌-◌, ◌*◌, ◌<◌, ◌≤◌, true, false, ◌&&◌, ◌⊎◌, List, [], ◌∷◌, length, get_or, drop, sym, ap, ◌∙◌, subst, ⊎_elim, arith}
use Rattle.std.specs.Char.{is_ascii_digit}
use Rattle.std.specs.Str.{all_ascii_digits}
use Rattle.std.proofs.lemmas.List.{at_drop_more, at_drop_all}
use Rattle.std.proofs.lemmas.Bool.{and_from, and_left, and_right, le-leb, lt-leb}
use Rattle.lexical.specs.Numbers.{value}
use Rattle.fields.specs.Near.{Capped}

-- behind i digits with the number n, which stays where it is once it is beyond 32 bits
abbrev pub Left : List ℕ → ℕ → ℕ → Type 0
Left bs i n =
    (all_ascii_digits (drop i bs) ≡ all_ascii_digits bs) × (n ≤ 4294967295 → value n (drop i bs) ≡ value 0 bs) × (4294967295 < n → 4294967295 < value 0 bs) × (n ≤ 42949672959)

grows : (n : ℕ) (bs : List ℕ) → n ≤ value n bs
grows n [] = omega arith
grows n (b ∷ bs) = omega (arith, grows (10 * n + (b - 48)) bs)

is_digit : (d : ℕ) → 48 ≤ d → d ≤ 57 → is_ascii_digit d ≡ true
is_digit d l h = and_from _ _ (le-leb 48 d l) (le-leb d 57 h)

no_digit : (d : ℕ) → (d < 48) ⊎ (57 < d) → is_ascii_digit d ≡ false
no_digit d w = ⊎_elim (λ l. and_left _ _ (lt-leb 48 d l)) (λ h. and_right _ _ (lt-leb d 57 h)) w

pub left_stop : (bs : List ℕ) (i n : ℕ) → i < length bs → Left bs i n → (get_or bs i 0 < 48) ⊎ (57 < get_or bs i 0) → all_ascii_digits bs ≡ false
left_stop bs i n h inv w = sym inv.0 ∙ (at_drop_more all_ascii_digits bs i 0 h ∙ and_left _ _ (no_digit _ w))

digits_on : (bs : List ℕ) (i : ℕ) → i < length bs → 48 ≤ get_or bs i 0 → get_or bs i 0 ≤ 57 → all_ascii_digits (drop i bs) ≡ all_ascii_digits bs → all_ascii_digits (drop (i + 1) bs) ≡ all_ascii_digits bs
digits_on bs i h l u e = sym (at_drop_more all_ascii_digits bs i 0 h ∙ ap (λ t. t && all_ascii_digits (drop (i + 1) bs)) (is_digit _ l u)) ∙ e

pub left_more : (bs : List ℕ) (i n m : ℕ) → i < length bs → Left bs i n → 48 ≤ get_or bs i 0 → get_or bs i 0 ≤ 57 → n ≤ 4294967295 → m ≡ 10 * n + (get_or bs i 0 - 48) → Left bs (i + 1) m
left_more bs i n m h inv l u le e =
    let v : value m (drop (i + 1) bs) ≡ value 0 bs = ap (λ k. value k (drop (i + 1) bs)) e ∙ (sym (at_drop_more (value n) bs i 0 h) ∙ inv.1 le) in
    (digits_on bs i h l u inv.0, λ _. v, λ lt. omega (arith, v, grows m (drop (i + 1) bs)), omega arith)

left_past : (bs : List ℕ) (i n : ℕ) → i < length bs → Left bs i n → 48 ≤ get_or bs i 0 → get_or bs i 0 ≤ 57 → 4294967295 < n → Left bs (i + 1) n
left_past bs i n h inv l u lt = (digits_on bs i h l u inv.0, λ le. absurd (omega arith), inv.2, inv.3)

pub left_past_at : (bs : List ℕ) (i n m : ℕ) → i < length bs → Left bs i n → 48 ≤ get_or bs i 0 → get_or bs i 0 ≤ 57 → 4294967295 < n → m ≡ n → Left bs (i + 1) m
left_past_at bs i n m h inv l u lt e = subst (Left bs (i + 1)) (sym e) (left_past bs i n h inv l u lt)

pub left_end : (bs : List ℕ) (i n : ℕ) → length bs ≤ i → Left bs i n → (all_ascii_digits bs ≡ true) × Capped bs n
left_end bs i n h inv = (sym inv.0 ∙ at_drop_all all_ascii_digits bs i h, (λ le. sym (at_drop_all (value n) bs i h) ∙ inv.1 le, inv.2, inv.3))
