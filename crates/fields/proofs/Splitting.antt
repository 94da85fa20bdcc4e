-- What is cut off, by lengths and numbers of pieces.
use Rattle.std.proofs.Common.{◌≡◌, ◌≢◌, ℕ, ◌+◌, ◌<◌, true, List, [], ◌∷◌, length, Some, ap, arith, length-append}
use Rattle.lexical.specs.Bytes.{cut, pieces}
use Rattle.lexical.proofs.Parting.{cut_back, some, pieces_some}
use Rattle.lexical.proofs.Cutting.{pieces_cut}

pub cut_lengths : (b : ℕ) (t : List ℕ) (p : List ℕ × List ℕ) → cut b t ≡ Some p → length p.0 + (1 + length p.1) ≡ length t
cut_lengths b t p e = omega (arith, ap length (cut_back b t p e), length-append p.0 (b ∷ p.1))

pub at_least_one : (b : ℕ) (t : List ℕ) → 0 < length (pieces b t)
at_least_one b t = go (pieces b t) (pieces_some b t)
  where
    go : (ps : List (List ℕ)) → some ps ≡ true → 0 < length ps
    go [] h = absurd (let z : ◌≡◌ {A = ℕ} 0 1 = cc in omega arith)
    go (p ∷ ps) h = omega arith

pub cut_more : (b : ℕ) (t : List ℕ) (p : List ℕ × List ℕ) → cut b t ≡ Some p → length (pieces b t) ≢ 1
cut_more b t p e n = omega (arith, n, ap length (pieces_cut b t p e), at_least_one b p.1)
