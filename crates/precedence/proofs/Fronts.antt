-- Taking the first out of the first n places of a row.
use Rattle.std.proofs.Common.{◌≡◌, ℕ, ◌+◌, ◌-◌, ◌<◌, ◌≤◌, List, length, take, drop, sym, ap, ◌∙◌, arith}
use lib.Seq.{paste}
use Rattle.std.proofs.lemmas.List.{length-take-le, length-drop, take_at, drop-take}

module _ {X : Type 0} (xs : List X) (n : ℕ) where
  pub front_removed : (after : List X) → 0 < n → n ≤ length xs → after ≡ paste xs 0 (drop 1 xs) (n - 1) → take (n - 1) after ≡ drop 1 (take n xs)
  front_removed after h k e =
      let m : 1 + (n - 1) ≡ n = omega arith in
      let l : length (take (n - 1) (drop 1 xs)) ≡ n - 1 = length-take-le (n - 1) (drop 1 xs) (omega (arith, length-drop 1 xs)) in
      ap (take (n - 1)) e ∙ (take_at (take (n - 1) (drop 1 xs)) (drop (0 + (n - 1)) xs) (n - 1) l ∙ (sym (drop-take 1 (n - 1) xs) ∙ ap (λ i. drop 1 (take i xs)) m))
