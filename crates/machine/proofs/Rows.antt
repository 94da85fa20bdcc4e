-- The first places of a row.
use Rattle.std.proofs.Common.{◌≡◌, ℕ, zero, suc, ◌≤◌, Bool, false, List, [], ◌∷◌, get_or, take, set, Some, None, Option, refl, ap, ◌∙◌, arith}
use Rattle.parts.specs.declared.part.Reset.{Reset}
use Rattle.parts.specs.declared.part.Label.{Label}
use Rattle.parts.specs.declared.part.Label.TheVariants as label
use Rattle.runs.specs.Edges.{reset_one, reset_all, take_trigger}

pub take_set : {X : Type 0} (n : ℕ) (xs : List X) (i : ℕ) (x : X) → take n (set xs i x) ≡ set (take n xs) i x
take_set zero xs i x = refl
take_set (suc n) [] i x = refl
take_set (suc n) (y ∷ ys) zero x = refl
take_set (suc n) (y ∷ ys) (suc i) x = ap (λ l. y ∷ l) (take_set n ys i x)

take_reset_one : (n tick : ℕ) (r : Option Reset) (zs : List ℕ) → take n (reset_one tick r zs) ≡ reset_one tick r (take n zs)
take_reset_one n tick None zs = refl
take_reset_one n tick (Some r) zs = take_set n zs r.clock tick

pub take_reset : (n tick : ℕ) (rs : List (Option Reset)) (zs : List ℕ) → take n (reset_all tick rs zs) ≡ reset_all tick rs (take n zs)
take_reset n tick [] zs = refl
take_reset n tick (r ∷ rs) zs = take_reset n tick rs (reset_one tick r zs) ∙ ap (reset_all tick rs) (take_reset_one n tick r zs)

pub take_taken : (n : ℕ) (l : Label) (ps : List Bool) → take n (take_trigger l ps) ≡ take_trigger l (take n ps)
take_taken n label.Internal ps = refl
take_taken n (label.Trigger x) ps = take_set n ps x false
take_taken n (label.Send c) ps = refl
take_taken n (label.Receive c) ps = refl

-- no clock is zeroed later than a tick at which some are zeroed
set_past : (tick : ℕ) (zs : List ℕ) (i : ℕ) → ((c : ℕ) → get_or zs c 0 ≤ tick) → (c : ℕ) → get_or (set zs i tick) c 0 ≤ tick
set_past tick [] i h c = h c
set_past tick (z ∷ zs) zero h zero = omega arith
set_past tick (z ∷ zs) zero h (suc c) = h (suc c)
set_past tick (z ∷ zs) (suc i) h zero = h zero
set_past tick (z ∷ zs) (suc i) h (suc c) = set_past tick zs i (λ k. h (suc k)) c

reset_one_past : (tick : ℕ) (r : Option Reset) (zs : List ℕ) → ((c : ℕ) → get_or zs c 0 ≤ tick) → (c : ℕ) → get_or (reset_one tick r zs) c 0 ≤ tick
reset_one_past tick None zs h = h
reset_one_past tick (Some r) zs h = set_past tick zs r.clock h

pub reset_past : (tick : ℕ) (rs : List (Option Reset)) (zs : List ℕ) → ((c : ℕ) → get_or zs c 0 ≤ tick) → (c : ℕ) → get_or (reset_all tick rs zs) c 0 ≤ tick
reset_past tick [] zs h = h
reset_past tick (r ∷ rs) zs h = reset_past tick rs (reset_one tick r zs) (reset_one_past tick r zs h)
