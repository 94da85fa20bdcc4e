use Rattle.std.proofs.Common.{◌≡◌, ℤ, ap, ◌∙◌, arith, w64, to_z, of_z}
use Rattle.std.proofs.lemmas.Int.{ints}
use Rattle.lexical.specs.Faults.{place}
use Rattle.lexical.specs.Numbers.{integer_of}
use Rattle.fields.proofs.Reading.{read_ok}
use Rattle.fields.proofs.field.Field.number.Goals as goal

-- a number of 64 bits as it is handed on
abbrev passed : ℤ → ℤ
passed z = to_z w64 (of_z w64 z)

pub returns-clause-read : goal.returns-clause-read
returns-clause-read g c = λ field line column h.
    let at = place line column in
    let low = g.T.Numeral.value c.args.low in
    let high = g.T.Numeral.value c.args.high in
    let l : passed c.wide-least.result ≡ c.wide-least.result = omega (arith, ints, c.wide-least.ensures.short) in
    let u : passed c.wide-greatest.result ≡ c.wide-greatest.result = omega (arith, ints, c.wide-greatest.ensures.short) in
    let z : passed c.in_ok-z.z ≡ c.in_ok-z.z = omega (arith, ints, l, u, c.in_ok-z.ensures.within, c.wide-least.ensures.short, c.wide-greatest.ensures.short) in
    let by_low = ap (λ (x : ℤ). integer_of x (passed c.wide-greatest.result) at field) (l ∙ c.wide-least.ensures.same) in
    let by_high = ap (λ (x : ℤ). integer_of low x at field) (u ∙ c.wide-greatest.ensures.same) in
    read_ok g.T.Numeral.value g.met.T.Numeral.injective (g.T.Numeral.read c.args.low c.args.high at field) (integer_of low high at field) c.in_ok-z.z c.narrow.result
    (g.met.T.Numeral.reads c.args.low c.args.high at field) (c.in_ok-z.ensures.read field line column h ∙ (by_low ∙ by_high)) (c.narrow.ensures ∙ z)
