-- A line of one to four fields, field by field, for any codecs.
use Rattle.std.proofs.Common.{◌≡◌, ℕ, List, IsErrAnd, Ok, Err, Result, sym, ap, ◌∙◌}
use Rattle.std.proofs.lemmas.Result.{err_from_is_err_and}
use Rattle.lexical.specs.declared.fault.Place.{Place}
use Rattle.lexical.specs.declared.fault.SequenceFault.{SequenceFault}
use Rattle.lexical.specs.Bytes.{pieces, comma}
use Rattle.lexical.specs.Fields.{on, behind, Codec, one, two, three, four}
use Rattle.fields.specs.declared.field.Field.{Field}
use Rattle.fields.specs.Splits.{OneField}
use Rattle.lines.proofs.Shapes.{TwoFields, ThreeFields, FourFields}

-- what a `?` returns
pub gone : {X E : Type 0} {e : E} (r s : Result X E) → IsErrAnd r (λ y. y ≡ e) → Err e ≡ s → r ≡ s
gone r s h q = let p = err_from_is_err_and r h in p.1 ∙ (ap Err p.2 ∙ q)

-- the fields before have said their values, and one says r: a value, with which the next one goes on, or a fault

module _ {A X : Type 0} (k : Codec A) (g : A → X) (at : Place) {v : List ℕ} {t : Field} (f : OneField v at t) where
  pub one_only : (r : Result A SequenceFault) → r ≡ k.parse at f.x →
      on r (λ a. Ok (g a)) ≡ on ((one k).parse at (pieces comma v)) (λ p. Ok (g p))
  one_only r h = ap (λ (r : Result A SequenceFault). on r (λ a. Ok (g a))) h ∙ ap (λ (fs : List (List ℕ)). on ((one k).parse at fs) (λ p. Ok (g p))) (sym f.split)

module _ {A B X : Type 0} (k : Codec A) (l : Codec B) (g : A × B → X) (at : Place) {v : List ℕ} {t u : Field} (f : TwoFields v at t u) where
  pub two_first : (r : Result A SequenceFault) → r ≡ k.parse at f.x →
      on (on r (λ a. on (l.parse (behind at f.x) f.y) (λ b. Ok (a, b)))) (λ p. Ok (g p)) ≡ on ((two k l).parse at (pieces comma v)) (λ p. Ok (g p))
  two_first r h = ap (λ (r : Result A SequenceFault). on (on r (λ a. on (l.parse (behind at f.x) f.y) (λ b. Ok (a, b)))) (λ p. Ok (g p))) h ∙ ap (λ (fs : List (List ℕ)). on ((two k l).parse at fs) (λ p. Ok (g p))) (sym f.split)

  pub two_second : (a : A) (r : Result B SequenceFault) → Ok a ≡ k.parse at f.x → r ≡ l.parse (behind at f.x) f.y →
      on (on r (λ b. Ok (a, b))) (λ p. Ok (g p)) ≡ on ((two k l).parse at (pieces comma v)) (λ p. Ok (g p))
  two_second a r h i = ap (λ (r : Result B SequenceFault). on (on r (λ b. Ok (a, b))) (λ p. Ok (g p))) i ∙ two_first (Ok a) h

module _ {A B C X : Type 0} (k : Codec A) (l : A → Codec B) (m : A → B → Codec C) (g : A × B × C → X) (at : Place) {v : List ℕ} {t u w : Field} (f : ThreeFields v at t u w) where
  pub three_first : (r : Result A SequenceFault) → r ≡ k.parse at f.x →
      on (on r (λ a. on ((l a).parse (behind at f.x) f.y) (λ b. on ((m a b).parse (behind (behind at f.x) f.y) f.z) (λ c. Ok (a, b, c))))) (λ p. Ok (g p)) ≡ on ((three k l m).parse at (pieces comma v)) (λ p. Ok (g p))
  three_first r h = ap (λ (r : Result A SequenceFault). on (on r (λ a. on ((l a).parse (behind at f.x) f.y) (λ b. on ((m a b).parse (behind (behind at f.x) f.y) f.z) (λ c. Ok (a, b, c))))) (λ p. Ok (g p))) h ∙ ap (λ (fs : List (List ℕ)). on ((three k l m).parse at fs) (λ p. Ok (g p))) (sym f.split)

  pub three_second : (a : A) (r : Result B SequenceFault) → Ok a ≡ k.parse at f.x → r ≡ (l a).parse (behind at f.x) f.y →
      on (on r (λ b. on ((m a b).parse (behind (behind at f.x) f.y) f.z) (λ c. Ok (a, b, c)))) (λ p. Ok (g p)) ≡ on ((three k l m).parse at (pieces comma v)) (λ p. Ok (g p))
  three_second a r h i = ap (λ (r : Result B SequenceFault). on (on r (λ b. on ((m a b).parse (behind (behind at f.x) f.y) f.z) (λ c. Ok (a, b, c)))) (λ p. Ok (g p))) i ∙ three_first (Ok a) h

  pub three_third : (a : A) (b : B) (r : Result C SequenceFault) → Ok a ≡ k.parse at f.x → Ok b ≡ (l a).parse (behind at f.x) f.y → r ≡ (m a b).parse (behind (behind at f.x) f.y) f.z →
      on (on r (λ c. Ok (a, b, c))) (λ p. Ok (g p)) ≡ on ((three k l m).parse at (pieces comma v)) (λ p. Ok (g p))
  three_third a b r h i j = ap (λ (r : Result C SequenceFault). on (on r (λ c. Ok (a, b, c))) (λ p. Ok (g p))) j ∙ three_second a (Ok b) h i

module _ {A B C D X : Type 0} (k : Codec A) (l : Codec B) (m : Codec C) (n : Codec D) (g : A × B × C × D → X) (at : Place) {v : List ℕ} {t u w q : Field} (f : FourFields v at t u w q) where
  pub four_first : (r : Result A SequenceFault) → r ≡ k.parse at f.x →
      on (on r (λ a. on (l.parse (behind at f.x) f.y) (λ b. on (m.parse (behind (behind at f.x) f.y) f.z) (λ c. on (n.parse (behind (behind (behind at f.x) f.y) f.z) f.s) (λ d. Ok (a, b, c, d)))))) (λ p. Ok (g p)) ≡ on ((four k l m n).parse at (pieces comma v)) (λ p. Ok (g p))
  four_first r h = ap (λ (r : Result A SequenceFault). on (on r (λ a. on (l.parse (behind at f.x) f.y) (λ b. on (m.parse (behind (behind at f.x) f.y) f.z) (λ c. on (n.parse (behind (behind (behind at f.x) f.y) f.z) f.s) (λ d. Ok (a, b, c, d)))))) (λ p. Ok (g p))) h ∙ ap (λ (fs : List (List ℕ)). on ((four k l m n).parse at fs) (λ p. Ok (g p))) (sym f.split)

  pub four_second : (a : A) (r : Result B SequenceFault) → Ok a ≡ k.parse at f.x → r ≡ l.parse (behind at f.x) f.y →
      on (on r (λ b. on (m.parse (behind (behind at f.x) f.y) f.z) (λ c. on (n.parse (behind (behind (behind at f.x) f.y) f.z) f.s) (λ d. Ok (a, b, c, d))))) (λ p. Ok (g p)) ≡ on ((four k l m n).parse at (pieces comma v)) (λ p. Ok (g p))
  four_second a r h i = ap (λ (r : Result B SequenceFault). on (on r (λ b. on (m.parse (behind (behind at f.x) f.y) f.z) (λ c. on (n.parse (behind (behind (behind at f.x) f.y) f.z) f.s) (λ d. Ok (a, b, c, d))))) (λ p. Ok (g p))) i ∙ four_first (Ok a) h

  pub four_third : (a : A) (b : B) (r : Result C SequenceFault) → Ok a ≡ k.parse at f.x → Ok b ≡ l.parse (behind at f.x) f.y → r ≡ m.parse (behind (behind at f.x) f.y) f.z →
      on (on r (λ c. on (n.parse (behind (behind (behind at f.x) f.y) f.z) f.s) (λ d. Ok (a, b, c, d)))) (λ p. Ok (g p)) ≡ on ((four k l m n).parse at (pieces comma v)) (λ p. Ok (g p))
  four_third a b r h i j = ap (λ (r : Result C SequenceFault). on (on r (λ c. on (n.parse (behind (behind (behind at f.x) f.y) f.z) f.s) (λ d. Ok (a, b, c, d)))) (λ p. Ok (g p))) j ∙ four_second a (Ok b) h i

  pub four_fourth : (a : A) (b : B) (c : C) (r : Result D SequenceFault) → Ok a ≡ k.parse at f.x → Ok b ≡ l.parse (behind at f.x) f.y → Ok c ≡ m.parse (behind (behind at f.x) f.y) f.z → r ≡ n.parse (behind (behind (behind at f.x) f.y) f.z) f.s →
      on (on r (λ d. Ok (a, b, c, d))) (λ p. Ok (g p)) ≡ on ((four k l m n).parse at (pieces comma v)) (λ p. Ok (g p))
  four_fourth a b c r h i j o = ap (λ (r : Result D SequenceFault). on (on r (λ d. Ok (a, b, c, d))) (λ p. Ok (g p))) o ∙ four_third a b (Ok c) h i j
