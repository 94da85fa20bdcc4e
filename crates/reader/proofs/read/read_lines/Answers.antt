use Rattle.std.proofs.Common.{Err, sym, ap, ◌∙◌, arith}
use Rattle.lexical.specs.declared.fault.LineFault.TheVariants.{Malformed}
use Rattle.lexical.specs.declared.fault.SequenceFault.TheVariants.{Line}
use Rattle.std.proofs.lemmas.Result.{err_from_is_err_and}
use Rattle.sequence.specs.Model.{plan_of}
use Rattle.reader.proofs.Stepping.{shorter, at_last, at_more, at_fault, no_line}
use Rattle.reader.proofs.read.read_lines.Goals as goal

pub returns-in_err-take_line : goal.returns-in_err-take_line
returns-in_err-take_line c =
    let p = err_from_is_err_and c.from_residual.result c.from_residual.ensures.1 in
    let e = sym c.loop-line.invariant.0 ∙ at_fault _ _ c.loop-line.rest.now _ c.in-Some.more.now c.in-Some.ensures _ _ c.in_err-take_line.ensures in
    rw (p.1, p.2) e

pub returns-in-Last : goal.returns-in-Last
returns-in-Last c = sym c.loop-line.invariant.0 ∙ at_last _ _ c.loop-line.rest.now _ _ c.in-Some.ensures _ _ c.in-Last.is c.in_ok-take_line.ensures

pub loop-line-smaller : goal.loop-line-smaller
loop-line-smaller c = omega (arith, shorter c.loop-line.rest.now c.in-Some.line.now c.in-Some.more.now c.in-Some.ensures)

pub loop-line-preserved : goal.loop-line-preserved
loop-line-preserved c =
    let s = shorter c.loop-line.rest.now c.in-Some.line.now c.in-Some.more.now c.in-Some.ensures in (
      sym (at_more _ _ c.loop-line.rest.now _ _ c.in-Some.ensures _ _ c.in-More.is c.in_ok-take_line.ensures) ∙ c.loop-line.invariant.0,
      omega (arith, s, c.loop-line.invariant.1),
      omega (arith, c.loop-line.invariant.2),
    )

pub returns : goal.returns
returns c = sym c.loop-line.invariant.0 ∙ (no_line (plan_of c.loop-line.draft) _ c.loop-line.rest.now c.in_default.ensures ∙ ap Err (sym (c.into.ensures ∙ ap (λ at. Line (Malformed at)) c.line_start.ensures)))
