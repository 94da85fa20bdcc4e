use Rattle.std.proofs.Common.{◌≡◌, ℕ, ◌-◌, ◌<◌, List, [], ◌∷◌, length, get_or, take, drop, Ok, Err, Result, sym, ap, ◌∙◌, arith}
use Rattle.std.proofs.lemmas.List.{take_rest}
use Rattle.std.proofs.lemmas.Result.{err_from_is_err_and}
use Rattle.parts.specs.declared.part.Label.{Label}
use Rattle.parts.specs.declared.part.Label.TheVariants.{Trigger, Send, Receive}
use Rattle.lexical.specs.declared.fault.Place.{Place}
use Rattle.lexical.specs.declared.fault.SequenceFault.{SequenceFault}
use Rattle.lexical.specs.Fields.{labelled, lettered}
use Rattle.fields.proofs.field.lettered.Goals as goal

abbrev behind : List ℕ → List ℕ
behind word = take (length word - 1) (drop 1 word)

in_front : (word : List ℕ) (b : ℕ) → get_or word 0 0 ≡ b → 0 < b → word ≡ b ∷ behind word
in_front [] b h l = absurd (omega arith)
in_front (x ∷ xs) b h l = ap (λ (y : ℕ). y ∷ xs) h ∙ ap (λ (ys : List ℕ). b ∷ ys) (sym (take_rest (x ∷ xs) 1))

by_letter : (triggers channels : ℕ) (at : Place) (word : List ℕ) (b : ℕ) (r : Result Label SequenceFault) → get_or word 0 0 ≡ b → 0 < b → r ≡ lettered triggers channels at (b ∷ behind word) → r ≡ lettered triggers channels at word
by_letter triggers channels at word b r h l e = e ∙ ap (lettered triggers channels at) (sym (in_front word b h l))

pub returns-in_err-reference-in-116 : goal.returns-in_err-reference-in-116
returns-in_err-reference-in-116 c =
    let p = err_from_is_err_and c.from_residual.result c.from_residual.ensures.1 in
    rw (p.1, p.2) (by_letter c.args.triggers c.args.channels c.args.at c.args.word.now 116 (Err c.in_err-reference-in-116.field-0.0) c.in-116.is (omega arith)
    (ap (labelled Trigger) (c.in_err-reference-in-116.ensures _ _ _ c.field_at-number.ensures)))

pub returns-in_ok-reference-in-116 : goal.returns-in_ok-reference-in-116
returns-in_ok-reference-in-116 c =
    by_letter c.args.triggers c.args.channels c.args.at c.args.word.now 116 (Ok (Trigger c.in_ok-reference-in-116.field-0)) c.in-116.is (omega arith)
    (ap (labelled Trigger) (c.in_ok-reference-in-116.ensures _ _ _ c.field_at-number.ensures))

pub returns-in_err-reference-in-115 : goal.returns-in_err-reference-in-115
returns-in_err-reference-in-115 c =
    let p = err_from_is_err_and c.from_residual-in_err-reference-in-115.result c.from_residual-in_err-reference-in-115.ensures.1 in
    rw (p.1, p.2) (by_letter c.args.triggers c.args.channels c.args.at c.args.word.now 115 (Err c.in_err-reference-in-115.field-0.0) c.in-115.is (omega arith)
    (ap (labelled Send) (c.in_err-reference-in-115.ensures _ _ _ c.field_at-number.ensures)))

pub returns-in_ok-reference-in-115 : goal.returns-in_ok-reference-in-115
returns-in_ok-reference-in-115 c =
    by_letter c.args.triggers c.args.channels c.args.at c.args.word.now 115 (Ok (Send c.in_ok-reference-in-115.field-0)) c.in-115.is (omega arith)
    (ap (labelled Send) (c.in_ok-reference-in-115.ensures _ _ _ c.field_at-number.ensures))

pub returns-in_err-reference-in-114 : goal.returns-in_err-reference-in-114
returns-in_err-reference-in-114 c =
    let p = err_from_is_err_and c.from_residual-in_err-reference-in-114.result c.from_residual-in_err-reference-in-114.ensures.1 in
    rw (p.1, p.2) (by_letter c.args.triggers c.args.channels c.args.at c.args.word.now 114 (Err c.in_err-reference-in-114.field-0.0) c.in-114.is (omega arith)
    (ap (labelled Receive) (c.in_err-reference-in-114.ensures _ _ _ c.field_at-number.ensures)))

pub returns-in_ok-reference-in-114 : goal.returns-in_ok-reference-in-114
returns-in_ok-reference-in-114 c =
    by_letter c.args.triggers c.args.channels c.args.at c.args.word.now 114 (Ok (Receive c.in_ok-reference-in-114.field-0)) c.in-114.is (omega arith)
    (ap (labelled Receive) (c.in_ok-reference-in-114.ensures _ _ _ c.field_at-number.ensures))
