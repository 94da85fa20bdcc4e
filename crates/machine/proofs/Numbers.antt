-- All edges as candidates.
use Rattle.std.proofs.Common.{◌≡◌, ℕ, zero, suc, ◌+◌, ◌<◌, ◌≤◌, List, [], ◌∷◌, length, take, Some, sym, ap, ◌∙◌, add-zero, arith}
use Rattle.std.specs.List.{slice_get}
use Rattle.runs.specs.State.{State}
use Rattle.runs.proofs.Searching.{nth_in}
use Rattle.search.specs.Views.{Covers, Rises}

-- n numbers from k on
abbrev pub up_from : ℕ → ℕ → List ℕ
up_from k zero = []
up_from k (suc n) = k ∷ up_from (k + 1) n

-- the first m of them
first_number : (m k n i e : ℕ) → slice_get (take m (up_from k n)) i ≡ Some e → (e ≡ k + i) × (i < m)
first_number zero k n i e h = let z : ◌≡◌ {A = ℕ} 0 1 = cc in absurd (omega arith)
first_number (suc m) k zero i e h = let z : ◌≡◌ {A = ℕ} 0 1 = cc in absurd (omega arith)
first_number (suc m) k (suc n) zero e h = let q : k ≡ e = cc in (omega (arith, q), omega arith)
first_number (suc m) k (suc n) (suc i) e h = let r = first_number m (k + 1) n i e h in (omega (arith, r.0), omega (arith, r.1))

number_there : (m k n i : ℕ) → i < m → m ≤ n → slice_get (take m (up_from k n)) i ≡ Some (k + i)
number_there zero k n i l h = absurd (omega arith)
number_there (suc m) k zero i l h = absurd (omega arith)
number_there (suc m) k (suc n) zero l h = ap Some (sym (add-zero k))
number_there (suc m) k (suc n) (suc i) l h = number_there m (k + 1) n i (omega arith) (omega arith) ∙ ap Some (let e : (k + 1) + i ≡ k + suc i = omega arith in e)

pub all_rise : (m n : ℕ) → Rises (take m (up_from 0 n))
all_rise m n i j e f l a b = omega (arith, (first_number m 0 n i e a).0, (first_number m 0 n j f b).0)

pub all_cover : (s : State) (m n : ℕ) → m ≡ length s.plan.edges → m ≤ n → Covers s (take m (up_from 0 n))
all_cover s m n e h i d f l = (i, number_there m 0 n i (omega (arith, nth_in s.plan.edges i d f)) h ∙ ap Some (let z : 0 + i ≡ i = omega arith in z))
