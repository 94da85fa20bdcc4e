use Rattle.std.proofs.Common.{◌≡◌, length, refl, ap, ◌∙◌}
use Rattle.std.proofs.lemmas.Bool.{cond-true, eq-eqb}
use Rattle.lexical.specs.declared.key.Key.TheVariants.{Edges}
use Rattle.sequence.specs.Model.{plan_of}
use Rattle.lines.specs.Values.{edge_count_of}
use Rattle.reader.proofs.Taken.{read_into}
use Rattle.reader.proofs.take.take_edge_count.Goals as goal

pub returns : goal.returns
returns c l r =
    let p = plan_of c.args.draft.now in
    let i = read_into p Edges edge_count_of c.args.value.at c.args.value.bytes.now c.in_ok-count.count c.in_ok-count.ensures in
    let e : i.fields ≡ length p.edges = i.is ∙ (c.if-count-edges.false ∙ ap length c.edges.ensures) in
    (i.does ∙ cond-true _ _ _ (eq-eqb i.fields (length p.edges) e), refl)
