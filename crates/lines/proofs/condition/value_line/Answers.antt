use Rattle.std.proofs.Common.{ℤ, Ok, Err, Result, ap, ◌∙◌, w16, SFits, rules, rules}
use Rattle.std.proofs.lemmas.Int.{to_z-of_z}
use Rattle.parts.specs.declared.part.Condition.{Condition}
use Rattle.lexical.specs.declared.fault.LineFault.TheVariants.{Number}
use Rattle.lexical.specs.declared.fault.SequenceFault.{SequenceFault}
use Rattle.lexical.specs.declared.fault.SequenceFault.TheVariants.{Line}
use Rattle.lexical.specs.Fields.{reference, relation, integer, numeral}
use Rattle.grammar.specs.Lines.{lowest, highest}
use Rattle.grammar.specs.Reading.{variable_condition}
use Rattle.lines.proofs.Shapes.{three_of}
use Rattle.lines.proofs.Rows.{gone, three_first, three_second, three_third}
use Rattle.lines.proofs.condition.value_line.Goals as goal

pub returns-in_err-variable : goal.returns-in_err-variable
returns-in_err-variable c =
    let f = three_of c.args.value.bytes.now c.args.value.at _ _ _ c.in_ok-x.ensures in
    gone c.from_residual-in_err-variable.result _ c.from_residual-in_err-variable.ensures.1
    (three_first (reference c.args.present.scope.variables) (λ v. relation) (λ v r. integer lowest highest) variable_condition c.args.value.at f (Err c.in_err-variable.field-0.0)
    (c.in_err-variable.ensures _ _ _ f.first))

pub returns-in_err-relation : goal.returns-in_err-relation
returns-in_err-relation c =
    let f = three_of c.args.value.bytes.now c.args.value.at _ _ _ c.in_ok-x.ensures in
    gone c.from_residual-in_err-relation.result _ c.from_residual-in_err-relation.ensures.1
    (three_second (reference c.args.present.scope.variables) (λ v. relation) (λ v r. integer lowest highest) variable_condition c.args.value.at f c.in_ok-variable.variable (Err c.in_err-relation.field-0.0)
    (c.in_ok-variable.ensures _ _ _ f.first) (c.in_err-relation.ensures _ _ _ f.second))

pub returns-in_err-constant : goal.returns-in_err-constant
returns-in_err-constant c =
    let f = three_of c.args.value.bytes.now c.args.value.at _ _ _ c.in_ok-x.ensures in
    gone c.from_residual-in_err-constant.result _ c.from_residual-in_err-constant.ensures.1
    (three_third (reference c.args.present.scope.variables) (λ v. relation) (λ v r. integer lowest highest) variable_condition c.args.value.at f c.in_ok-variable.variable c.in_ok-relation.relation (Err (Line (Number c.in_err-constant.field-0.0)))
    (c.in_ok-variable.ensures _ _ _ f.first) (c.in_ok-relation.ensures _ _ _ f.second) (ap numeral (c.in_err-constant.ensures.read _ _ _ f.third)))

pub returns : goal.returns
returns c =
    let f = three_of c.args.value.bytes.now c.args.value.at _ _ _ c.in_ok-x.ensures in
    let fits : SFits w16 c.in_ok-constant.constant = search rules in
    ap {B = Result Condition SequenceFault} (λ (z : ℤ). Ok (variable_condition (c.in_ok-variable.variable, c.in_ok-relation.relation, z))) (to_z-of_z w16 c.in_ok-constant.constant fits) ∙
    three_third (reference c.args.present.scope.variables) (λ v. relation) (λ v r. integer lowest highest) variable_condition c.args.value.at f c.in_ok-variable.variable c.in_ok-relation.relation (Ok c.in_ok-constant.constant)
    (c.in_ok-variable.ensures _ _ _ f.first) (c.in_ok-relation.ensures _ _ _ f.second) (ap numeral (c.in_ok-constant.ensures.read _ _ _ f.third))
