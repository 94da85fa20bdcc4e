-- The first line of a text with a count.
use Rattle.std.proofs.Common.{◌≡◌, ℕ, true, List, [], ◌∷◌, Some, None, Ok, Err, Option, Result, MatchOption, sym, ap, ◌∙◌, subst, arith}
use Rattle.std.specs.Option.{ok_or}
use Rattle.lexical.specs.declared.key.Key.{Key}
use Rattle.lexical.specs.declared.fault.SequenceFault.{SequenceFault}
use Rattle.lexical.specs.Bytes.{cut, pieces, newline}
use Rattle.lexical.specs.Fields.{on}
use Rattle.lexical.proofs.Cutting.{pieces_cut, pieces_none}
use Rattle.lexical.proofs.Parting.{some, pieces_some}
use Rattle.grammar.specs.Reading.{malformed, key_and_value, counted, count_line}

-- what an option says, told by its `ok_or`
module _ {A E : Type 0} (P : Type 0) (Q : A → Type 0) (e : E) where
  pub some_told : (o : Option A) (x : A) → MatchOption o P Q → Ok x ≡ ok_or o e → Q x
  some_told None x m h = absurd (let z : ◌≡◌ {A = ℕ} 0 1 = cc in omega arith)
  some_told (Some y) x m h = let same : y ≡ x = cc in subst Q same m

  pub none_told : (o : Option A) (d : E) → MatchOption o P Q → Err d ≡ ok_or o e → P × (e ≡ d)
  none_told None d m h = (m, cc)
  none_told (Some y) d m h = absurd (let z : ◌≡◌ {A = ℕ} 0 1 = cc in omega arith)

module _ (k : Key) (low high n : ℕ) (t : List ℕ) where
  pub no_line : cut newline t ≡ None → count_line k low high n (pieces newline t) ≡ malformed n
  no_line e = ap (count_line k low high n) (pieces_none newline t e)

  pub first_line : (l r : List ℕ) (c : Result ℕ SequenceFault) → cut newline t ≡ Some (l, r) → c ≡ on (key_and_value n l) (counted k low high n) →
      count_line k low high n (pieces newline t) ≡ on c (λ v. Ok (v, pieces newline r))
  first_line l r c e h = ap (count_line k low high n) (pieces_cut newline t (l, r) e) ∙ go (pieces newline r) (pieces_some newline r)
    where
      go : (ls : List (List ℕ)) → some ls ≡ true → count_line k low high n (l ∷ ls) ≡ on c (λ v. Ok (v, ls))
      go [] i = absurd (let z : ◌≡◌ {A = ℕ} 0 1 = cc in omega arith)
      go (m ∷ ls) i = ap (λ (d : Result ℕ SequenceFault). on d (λ v. Ok (v, m ∷ ls))) (sym h)
