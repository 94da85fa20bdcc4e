use Rattle.std.proofs.Common.{◌≡◌, ℕ, pred, ◌-◌, true, false, not, ◌&&◌, eqb, List, [], ◌∷◌, length, get_or, take, drop, ℤ, negsuc, Option, sym, subst, arith, rules, MatchOption}
use Rattle.std.proofs.lemmas.List.{take_rest}
use Rattle.lexical.specs.Numbers.{value, spelt, spelt_signed, said}
use Rattle.fields.specs.Near.{Near}
use Rattle.fields.proofs.number.number.Goals as goal

abbrev Below : Option ℤ → List ℕ → Type 0
Below r bs = MatchOption r ((spelt bs && not (eqb (value 0 bs) 0)) ≡ false) (λ z. ((spelt bs && not (eqb (value 0 bs) 0)) ≡ true) × Near z (negsuc (pred (value 0 bs))))

abbrev Says : Option ℤ → List ℕ → Type 0
Says r bs = MatchOption r (spelt_signed bs ≡ false) (λ z. (spelt_signed bs ≡ true) × Near z (said bs))

minus_in_front : (r : Option ℤ) (bs : List ℕ) → get_or bs 0 0 ≡ 45 → Below r (take (length bs - 1) (drop 1 bs)) → Says r bs
minus_in_front r [] h e = absurd (omega arith)
minus_in_front r (b ∷ bs) h e = subst (λ (c : ℕ). Says r (c ∷ bs)) (sym h) (subst (Below r) (take_rest (b ∷ bs) 1) e)

pub returns-in-45 : goal.returns-in-45
returns-in-45 c = minus_in_front c.below_zero.result c.args.text.now (search rules) c.below_zero.ensures
