use Rattle.std.proofs.Common.{Ok, Err, ap, ◌∙◌}
use Rattle.lexical.specs.declared.fault.LineFault.TheVariants.{Number, FieldCount, KeyNotAllowed}
use Rattle.lexical.specs.declared.fault.SequenceFault.TheVariants.{Line}
use Rattle.lexical.specs.Fields.{numeral}
use Rattle.lexical.specs.Keys.{key_named}
use Rattle.lexical.specs.Tokens.{token_bytes}
use Rattle.lines.proofs.Named.{other, named}
use Rattle.lines.proofs.Rows.{gone}
use Rattle.lines.proofs.CountLine.{other_key, other_count, one_number}
use Rattle.lines.proofs.counts.counted.Goals as goal

pub returns-then-ne-clause-read : goal.returns-then-ne-clause-read
returns-then-ne-clause-read c =
    let k = token_bytes c.in_ok-name.name in
    ap (λ e. Err e) (c.into.ensures ∙ ap (λ at. Line (KeyNotAllowed at)) c.line_start.ensures) ∙ other_key c.args.key c.args.low c.args.high c.args.number c.args.line.now k c.in_ok-name.value.bytes.now c.in_ok-name.ensures.parted
    (other k c.args.key c.ne.result c.key_named.result (c.key_named.ensures ∙ ap key_named c.bytes.ensures) c.ne.ensures c.if-ne.true)

pub returns-in_err-x-clause-read : goal.returns-in_err-x-clause-read
returns-in_err-x-clause-read c =
    let k = token_bytes c.in_ok-name.name in
    let s = named k c.args.key c.ne.result c.key_named.result (c.key_named.ensures ∙ ap key_named c.bytes.ensures) c.ne.ensures c.if-ne.false in
    gone c.from_residual-in_err-x.result _ c.from_residual-in_err-x.ensures.1
    (ap (λ e. Err (Line e)) (c.in_err-x.ensures.0 ∙ ap FieldCount c.in_ok-name.ensures.placed)
    ∙ other_count c.args.key c.args.low c.args.high c.args.number c.args.line.now k c.in_ok-name.value.bytes.now c.in_ok-name.ensures.parted s c.in_err-x.ensures.1)

pub returns-in_err-number-clause-read : goal.returns-in_err-number-clause-read
returns-in_err-number-clause-read c =
    let k = token_bytes c.in_ok-name.name in
    let v = c.in_ok-name.value.bytes.now in
    let s = named k c.args.key c.ne.result c.key_named.result (c.key_named.ensures ∙ ap key_named c.bytes.ensures) c.ne.ensures c.if-ne.false in
    let f = rw c.in_ok-name.ensures.placed at c.in_ok-x.ensures in
    gone c.from_residual-in_err-number.result _ c.from_residual-in_err-number.ensures.1
    (one_number c.args.key c.args.low c.args.high c.args.number c.args.line.now k v c.in_ok-name.ensures.parted s f (Err (Line (Number c.in_err-number.field-0.0)))
    (ap numeral (c.in_err-number.ensures.read _ _ _ f.first)))

pub returns-clause-read : goal.returns-clause-read
returns-clause-read c =
    let k = token_bytes c.in_ok-name.name in
    let v = c.in_ok-name.value.bytes.now in
    let s = named k c.args.key c.ne.result c.key_named.result (c.key_named.ensures ∙ ap key_named c.bytes.ensures) c.ne.ensures c.if-ne.false in
    let f = rw c.in_ok-name.ensures.placed at c.in_ok-x.ensures in
    one_number c.args.key c.args.low c.args.high c.args.number c.args.line.now k v c.in_ok-name.ensures.parted s f (Ok c.in_ok-number.field-0)
    (ap numeral (c.in_ok-number.ensures.read _ _ _ f.first))
