use Rattle.std.proofs.Common.{ℤ, Ok, Err, Result, ap, ◌∙◌, w16, SFits, rules, rules}
use Rattle.std.proofs.lemmas.Int.{to_z-of_z}
use Rattle.parts.specs.declared.part.Assignment.{Assignment}
use Rattle.lexical.specs.declared.fault.LineFault.TheVariants.{Number}
use Rattle.lexical.specs.declared.fault.SequenceFault.{SequenceFault}
use Rattle.lexical.specs.declared.fault.SequenceFault.TheVariants.{Line}
use Rattle.lexical.specs.Fields.{reference, optional, integer, numeral}
use Rattle.grammar.specs.Lines.{lowest, highest}
use Rattle.grammar.specs.Reading.{assignment_of}
use Rattle.lines.proofs.Shapes.{three_of}
use Rattle.lines.proofs.Rows.{gone, three_first, three_second, three_third}
use Rattle.lines.proofs.variable.assignment_line.Goals as goal

pub returns-in_err-target : goal.returns-in_err-target
returns-in_err-target c =
    let f = three_of c.args.value.bytes.now c.args.value.at _ _ _ c.in_ok-x.ensures in
    gone c.from_residual-in_err-target.result _ c.from_residual-in_err-target.ensures.1
    (three_first (reference c.args.present.scope.variables) (λ v. optional (reference c.args.present.scope.variables)) (λ v w. integer lowest highest) assignment_of c.args.value.at f (Err c.in_err-target.field-0.0)
    (c.in_err-target.ensures _ _ _ f.first))

pub returns-in_err-source : goal.returns-in_err-source
returns-in_err-source c =
    let f = three_of c.args.value.bytes.now c.args.value.at _ _ _ c.in_ok-x.ensures in
    gone c.from_residual-in_err-source.result _ c.from_residual-in_err-source.ensures.1
    (three_second (reference c.args.present.scope.variables) (λ v. optional (reference c.args.present.scope.variables)) (λ v w. integer lowest highest) assignment_of c.args.value.at f c.in_ok-target.target (Err c.in_err-source.field-0.0)
    (c.in_ok-target.ensures _ _ _ f.first) (c.in_err-source.ensures _ _ _ f.second))

pub returns-in_err-constant : goal.returns-in_err-constant
returns-in_err-constant c =
    let f = three_of c.args.value.bytes.now c.args.value.at _ _ _ c.in_ok-x.ensures in
    gone c.from_residual-in_err-constant.result _ c.from_residual-in_err-constant.ensures.1
    (three_third (reference c.args.present.scope.variables) (λ v. optional (reference c.args.present.scope.variables)) (λ v w. integer lowest highest) assignment_of c.args.value.at f c.in_ok-target.target c.in_ok-source.source (Err (Line (Number c.in_err-constant.field-0.0)))
    (c.in_ok-target.ensures _ _ _ f.first) (c.in_ok-source.ensures _ _ _ f.second) (ap numeral (c.in_err-constant.ensures.read _ _ _ f.third)))

pub returns : goal.returns
returns c =
    let f = three_of c.args.value.bytes.now c.args.value.at _ _ _ c.in_ok-x.ensures in
    let fits : SFits w16 c.in_ok-constant.constant = search rules in
    ap {B = Result Assignment SequenceFault} (λ (z : ℤ). Ok (assignment_of (c.in_ok-target.target, c.in_ok-source.source, z))) (to_z-of_z w16 c.in_ok-constant.constant fits) ∙
    three_third (reference c.args.present.scope.variables) (λ v. optional (reference c.args.present.scope.variables)) (λ v w. integer lowest highest) assignment_of c.args.value.at f c.in_ok-target.target c.in_ok-source.source (Ok c.in_ok-constant.constant)
    (c.in_ok-target.ensures _ _ _ f.first) (c.in_ok-source.ensures _ _ _ f.second) (ap numeral (c.in_ok-constant.ensures.read _ _ _ f.third))
