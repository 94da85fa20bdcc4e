use Rattle.std.proofs.Common.{◌≡◌, ℕ, List, ℤ, Ok, Err, Result, ap, ◌∙◌, w16, SFits, to_z, of_z, rules, rules}
use Rattle.std.proofs.lemmas.Int.{to_z-of_z}
use Rattle.parts.specs.declared.part.Variable.{Variable}
use Rattle.lexical.specs.declared.fault.Place.{Place}
use Rattle.lexical.specs.declared.fault.LineFault.TheVariants.{Number}
use Rattle.lexical.specs.declared.fault.SequenceFault.{SequenceFault}
use Rattle.lexical.specs.declared.fault.SequenceFault.TheVariants.{Line}
use Rattle.lexical.specs.Fields.{integer, numeral, behind}
use Rattle.lexical.specs.Numbers.{integer_of}
use Rattle.grammar.specs.Lines.{lowest, highest}
use Rattle.grammar.specs.Reading.{variable_of}
use Rattle.lines.proofs.Shapes.{three_of}
use Rattle.lines.proofs.Rows.{gone, three_first, three_second, three_third}
use Rattle.lines.proofs.variable.variable_line.Goals as goal

-- a value of 16 bits that is passed on stays what it is
abbrev passed : ℤ → ℤ
passed z = to_z w16 (of_z w16 z)

lower : (low : ℤ) → SFits w16 low → (at : Place) (bs : List ℕ) → integer_of (passed low) highest at bs ≡ integer_of low highest at bs
lower low f at bs = ap (λ (l : ℤ). integer_of l highest at bs) (to_z-of_z w16 low f)

both : (low high : ℤ) → SFits w16 low → SFits w16 high → (at : Place) (bs : List ℕ) → integer_of (passed low) (passed high) at bs ≡ integer_of low high at bs
both low high f g at bs = ap (λ (l : ℤ). integer_of l (passed high) at bs) (to_z-of_z w16 low f) ∙ ap (λ (h : ℤ). integer_of low h at bs) (to_z-of_z w16 high g)

all_three : (low high start : ℤ) → SFits w16 low → SFits w16 high → SFits w16 start →
    ◌≡◌ {A = Result Variable SequenceFault} (Ok (variable_of (passed low, passed high, passed start))) (Ok (variable_of (low, high, start)))
all_three low high start f g h = rw (to_z-of_z w16 low f, to_z-of_z w16 high g, to_z-of_z w16 start h)

pub returns-in_err-low : goal.returns-in_err-low
returns-in_err-low c =
    let f = three_of c.args.value.bytes.now c.args.value.at _ _ _ c.in_ok-x.ensures in
    gone c.from_residual-in_err-low.result _ c.from_residual-in_err-low.ensures.1
    (three_first (integer lowest highest) (λ low. integer low highest) (λ low high. integer low high) variable_of c.args.value.at f (Err (Line (Number c.in_err-low.field-0.0))) (ap numeral (c.in_err-low.ensures.read _ _ _ f.first)))

pub returns-in_err-high : goal.returns-in_err-high
returns-in_err-high c =
    let f = three_of c.args.value.bytes.now c.args.value.at _ _ _ c.in_ok-x.ensures in
    let low = c.in_ok-low.low in
    let fl : SFits w16 low = search rules in
    gone c.from_residual-in_err-high.result _ c.from_residual-in_err-high.ensures.1
    (three_second (integer lowest highest) (λ low. integer low highest) (λ low high. integer low high) variable_of c.args.value.at f low (Err (Line (Number c.in_err-high.field-0.0)))
    (ap numeral (c.in_ok-low.ensures.read _ _ _ f.first))
    (ap numeral (c.in_err-high.ensures.read _ _ _ f.second ∙ lower low fl (behind c.args.value.at f.x) f.y)))

pub returns-in_err-start : goal.returns-in_err-start
returns-in_err-start c =
    let f = three_of c.args.value.bytes.now c.args.value.at _ _ _ c.in_ok-x.ensures in
    let low = c.in_ok-low.low in
    let high = c.in_ok-high.high in
    let fl : SFits w16 low = search rules in
    let fh : SFits w16 high = search rules in
    gone c.from_residual-in_err-start.result _ c.from_residual-in_err-start.ensures.1
    (three_third (integer lowest highest) (λ low. integer low highest) (λ low high. integer low high) variable_of c.args.value.at f low high (Err (Line (Number c.in_err-start.field-0.0)))
    (ap numeral (c.in_ok-low.ensures.read _ _ _ f.first))
    (ap numeral (c.in_ok-high.ensures.read _ _ _ f.second ∙ lower low fl (behind c.args.value.at f.x) f.y))
    (ap numeral (c.in_err-start.ensures.read _ _ _ f.third ∙ both low high fl fh (behind (behind c.args.value.at f.x) f.y) f.z)))

pub returns : goal.returns
returns c =
    let f = three_of c.args.value.bytes.now c.args.value.at _ _ _ c.in_ok-x.ensures in
    let low = c.in_ok-low.low in
    let high = c.in_ok-high.high in
    let start = c.in_ok-start.start in
    let fl : SFits w16 low = search rules in
    let fh : SFits w16 high = search rules in
    let fs : SFits w16 start = search rules in
    all_three low high start fl fh fs ∙
    three_third (integer lowest highest) (λ low. integer low highest) (λ low high. integer low high) variable_of c.args.value.at f low high (Ok start)
    (ap numeral (c.in_ok-low.ensures.read _ _ _ f.first))
    (ap numeral (c.in_ok-high.ensures.read _ _ _ f.second ∙ lower low fl (behind c.args.value.at f.x) f.y))
    (ap numeral (c.in_ok-start.ensures.read _ _ _ f.third ∙ both low high fl fh (behind (behind c.args.value.at f.x) f.y) f.z))
