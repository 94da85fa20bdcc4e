use Rattle.std.proofs.Common.{Ok, Err}
use Rattle.lexical.specs.Fields.{reference, label}
use Rattle.grammar.specs.Reading.{edge_of}
use Rattle.lines.proofs.Shapes.{three_of}
use Rattle.lines.proofs.Rows.{gone, three_first, three_second, three_third}
use Rattle.lines.proofs.edge.edge_line.Goals as goal

pub returns-in_err-from : goal.returns-in_err-from
returns-in_err-from c =
    let f = three_of c.args.value.bytes.now c.args.value.at _ _ _ c.in_ok-x.ensures in
    gone c.from_residual-in_err-from.result _ c.from_residual-in_err-from.ensures.1
    (three_first (reference c.args.present.locations) (λ v. reference c.args.present.locations) (λ v w. label c.args.present.scope.counts.triggers c.args.present.scope.counts.channels) edge_of c.args.value.at f (Err c.in_err-from.field-0.0)
    (c.in_err-from.ensures _ _ _ f.first))

pub returns-in_err-to : goal.returns-in_err-to
returns-in_err-to c =
    let f = three_of c.args.value.bytes.now c.args.value.at _ _ _ c.in_ok-x.ensures in
    gone c.from_residual-in_err-to.result _ c.from_residual-in_err-to.ensures.1
    (three_second (reference c.args.present.locations) (λ v. reference c.args.present.locations) (λ v w. label c.args.present.scope.counts.triggers c.args.present.scope.counts.channels) edge_of c.args.value.at f c.in_ok-from.from (Err c.in_err-to.field-0.0)
    (c.in_ok-from.ensures _ _ _ f.first) (c.in_err-to.ensures _ _ _ f.second))

pub returns-in_err-label : goal.returns-in_err-label
returns-in_err-label c =
    let f = three_of c.args.value.bytes.now c.args.value.at _ _ _ c.in_ok-x.ensures in
    gone c.from_residual-in_err-label.result _ c.from_residual-in_err-label.ensures.1
    (three_third (reference c.args.present.locations) (λ v. reference c.args.present.locations) (λ v w. label c.args.present.scope.counts.triggers c.args.present.scope.counts.channels) edge_of c.args.value.at f c.in_ok-from.from c.in_ok-to.to (Err c.in_err-label.field-0.0)
    (c.in_ok-from.ensures _ _ _ f.first) (c.in_ok-to.ensures _ _ _ f.second) (c.in_err-label.ensures _ _ _ f.third))

pub returns : goal.returns
returns c =
    let f = three_of c.args.value.bytes.now c.args.value.at _ _ _ c.in_ok-x.ensures in
    three_third (reference c.args.present.locations) (λ v. reference c.args.present.locations) (λ v w. label c.args.present.scope.counts.triggers c.args.present.scope.counts.channels) edge_of c.args.value.at f c.in_ok-from.from c.in_ok-to.to (Ok c.in_ok-label.label)
    (c.in_ok-from.ensures _ _ _ f.first) (c.in_ok-to.ensures _ _ _ f.second) (c.in_ok-label.ensures _ _ _ f.third)
