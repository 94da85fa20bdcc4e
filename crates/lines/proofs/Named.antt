-- Bytes name a key where they are that key's bytes.
use Rattle.std.proofs.Common.{◌≡◌, ℕ, Bool, true, false, not, List, Some, None, Option, sym, refl, ap, ◌∙◌, arith}
use Rattle.std.specs.Option.{option_eq}
use denote.Enum.Bare.{sameb, same_true as same_key, same_false as other_key}
use Rattle.lexical.specs.contracts.key.Key.{the_type}
use Rattle.lexical.specs.declared.key.Key.{Key}
use Rattle.lexical.specs.Bytes.{same}
use Rattle.lexical.specs.Keys.{key_bytes, key_named}
use Rattle.lexical.proofs.Parting.{same_true}
use Rattle.grammar.proofs.Parsing.{key_back}
use Rattle.grammar.proofs.Lining.{key_known, same_self}

not_same : (bs : List ℕ) (k : Key) → (key_named bs ≡ Some k → ⊥) → same bs (key_bytes k) ≡ false
not_same bs k n = go (same bs (key_bytes k)) refl
  where
    go : (c : Bool) → same bs (key_bytes k) ≡ c → c ≡ false
    go true s = absurd (n (ap key_named (same_true bs (key_bytes k) s) ∙ key_known k))
    go false s = refl

-- what `!=` says of the key that bytes name and another
module _ (bs : List ℕ) (k : Key) (r : Bool) where
  pub other : (o : Option Key) → o ≡ key_named bs → r ≡ not (option_eq (sameb the_type) o (Some k)) → r ≡ true → same bs (key_bytes k) ≡ false
  other None e h t = not_same bs k (λ i. none_is_some (e ∙ i))
    where
      none_is_some : None ≡ Some k → ⊥
      none_is_some e = let z : ◌≡◌ {A = ℕ} 0 1 = cc in omega arith
  other (Some x) e h t = go (sameb the_type x k) refl (sym t ∙ h)
    where
      some_same : Some x ≡ Some k → x ≡ k
      some_same e = cc

      go : (c : Bool) → sameb the_type x k ≡ c → true ≡ not c → same bs (key_bytes k) ≡ false
      go true i j = absurd (let z : ◌≡◌ {A = ℕ} 0 1 = cc in omega arith)
      go false i j = not_same bs k (λ i'. other_key the_type x k i (some_same (e ∙ i')))

  pub named : (o : Option Key) → o ≡ key_named bs → r ≡ not (option_eq (sameb the_type) o (Some k)) → r ≡ false → same bs (key_bytes k) ≡ true
  named None e h t = absurd (let i : false ≡ true = sym t ∙ h in let z : ◌≡◌ {A = ℕ} 0 1 = cc in omega arith)
  named (Some x) e h t = go (sameb the_type x k) refl (sym t ∙ h)
    where
      go : (c : Bool) → sameb the_type x k ≡ c → false ≡ not c → same bs (key_bytes k) ≡ true
      go true i j = ap (λ b. same b (key_bytes k)) (key_back bs x (sym e) ∙ ap key_bytes (same_key the_type tt x k i)) ∙ same_self (key_bytes k)
      go false i j = absurd (let z : ◌≡◌ {A = ℕ} 0 1 = cc in omega arith)
