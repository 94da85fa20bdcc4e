-- Nothing behind the last place of a row.
use Rattle.std.proofs.Common.{◌≡◌, ℕ, ◌+◌, ◌<◌, ◌≤◌, Bool, true, false, ◌⊎◌, List, length, get_or, Some, None, Option, MatchOption, inl, inr, arith}
use Rattle.std.specs.List.{slice_get}
use Rattle.std.proofs.lemmas.List.{get_or_past}
use Rattle.std.proofs.lemmas.Option.{slice_get_past}
use Rattle.std.proofs.lemmas.Bool.{cases_lt}
use Rattle.runs.specs.State.{State}
use Rattle.runs.specs.Rules.{NonePresent, may_stay}
use Rattle.moves.specs.Lowest.{LowestPresent, LowestStuck}

-- what a search over the numbers below n answers: the first that passes, or none where none does
abbrev pub First : (Yes No : ℕ → Type 0) → ℕ → Option ℕ → Type 0
First Yes No n r = MatchOption r ((k : ℕ) → 0 ≤ k → k < n → No k) (λ i. (0 ≤ i) × (i < n) × Yes i × ((k : ℕ) → 0 ≤ k → k < i → No k))

pub none_present : (ps : List Bool) (n : ℕ) → length ps ≤ n → ((y : ℕ) → y < n → get_or ps y false ≡ false) → NonePresent ps
none_present ps n h below x = by (cases_lt x n)
  where
    by : (x < n) ⊎ (n ≤ x) → get_or ps x false ≡ false
    by (inl l) = below x l
    by (inr l) = get_or_past ps x false (omega arith)

pub all_stay : (s : State) (tick n : ℕ) → length s.places ≤ n → ((b : ℕ) → b < n → may_stay s tick b ≡ true) → (a : ℕ) → may_stay s tick a ≡ true
all_stay s tick n h below a = by (cases_lt a n)
  where
    by : (a < n) ⊎ (n ≤ a) → may_stay s tick a ≡ true
    by (inl l) = below a l
    by (inr l) = let e : slice_get s.places a ≡ None = slice_get_past s.places a (omega arith) in simp e

pub lowest_of : (ps : List Bool) (n : ℕ) (r : Option ℕ) → length ps ≤ n → First (λ x. get_or ps x false ≡ true) (λ x. get_or ps x false ≡ false) n r → LowestPresent ps r
lowest_of ps n None h f = none_present ps n h (λ y l. f y (omega arith) l)
lowest_of ps n (Some x) h f = (f.2, λ y l. f.3 y (omega arith) l)

pub stuck_of : (s : State) (n : ℕ) (r : Option ℕ) → length s.places ≤ n → First (λ a. may_stay s (s.now + 1) a ≡ false) (λ a. may_stay s (s.now + 1) a ≡ true) n r → LowestStuck s r
stuck_of s n None h f = all_stay s (s.now + 1) n h (λ b l. f b (omega arith) l)
stuck_of s n (Some a) h f = (f.2, λ b l. f.3 b (omega arith) l)
