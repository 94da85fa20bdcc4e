use Rattle.std.proofs.Common.{Ok, Err, ap, sym, ◌∙◌}
use Rattle.std.proofs.lemmas.Result.{err_from_is_err_and}
use Rattle.lexical.specs.declared.fault.LineFault.TheVariants.{Malformed}
use Rattle.lexical.specs.declared.fault.SequenceFault.TheVariants.{Line}
use Rattle.lines.proofs.FirstLine.{some_told, none_told, no_line, first_line}
use Rattle.lines.proofs.counts.count_line.Goals as goal

pub returns-in_err-line-clause-read : goal.returns-in_err-line-clause-read
returns-in_err-line-clause-read c =
    let p = err_from_is_err_and c.from_residual.result c.from_residual.ensures.1 in
    let n = none_told _ _ _ c.cut_at.result c.in_err-line.field-0.0 c.cut_at.ensures c.in_err-line.ensures.value in
    rw (p.1, p.2) (no_line c.args.key c.args.low c.args.high c.args.number c.args.text.now n.0 ∙ ap (λ e. Err (Line e)) (ap Malformed (sym c.line_start-start.ensures) ∙ n.1))

pub returns-in_err-counted-clause-read : goal.returns-in_err-counted-clause-read
returns-in_err-counted-clause-read c =
    let p = err_from_is_err_and c.from_residual-in_err-counted.result c.from_residual-in_err-counted.ensures.1 in
    let s = some_told _ _ _ c.cut_at.result (c.in_ok-line.line, c.in_ok-line.rest) c.cut_at.ensures c.in_ok-line.ensures.value in
    rw (p.1, p.2) (first_line c.args.key c.args.low c.args.high c.args.number c.args.text.now c.in_ok-line.line.now c.in_ok-line.rest.now (Err c.in_err-counted.field-0.0) s c.in_err-counted.ensures.read)

pub returns-clause-read : goal.returns-clause-read
returns-clause-read c =
    let s = some_told _ _ _ c.cut_at.result (c.in_ok-line.line, c.in_ok-line.rest) c.cut_at.ensures c.in_ok-line.ensures.value in
    first_line c.args.key c.args.low c.args.high c.args.number c.args.text.now c.in_ok-line.line.now c.in_ok-line.rest.now (Ok c.in_ok-counted.field-0) s c.in_ok-counted.ensures.read
