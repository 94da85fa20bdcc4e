use Rattle.std.proofs.Common.{[], ◌∷◌, ◌++◌, take, sym, ap, ◌∙◌, arith}
use Rattle.std.proofs.lemmas.List.{take_more, take_all}
use Rattle.sequence.specs.Plan.{each}
use Rattle.sequence.proofs.Sound.{each_push}
use Rattle.grammar.proofs.in_memory.all_keep_widths.Goals as goal

pub loop-part-preserved : goal.loop-part-preserved
loop-part-preserved g c =
    let xs = c.args.parts.now in
    let i = c.loop-part.part-index in
    let w = g.T.Wide.widths in
    let x = c.part-item.result in
    ap (each w) (take_more xs i x c.loop-part-test.true ∙ ap (λ y. take i xs ++ y ∷ []) (sym c.part-item.is)) ∙ each_push w (take i xs) x c.loop-part.invariant c.keeps_widths.ensures

pub returns : goal.returns
returns g c = ap (each g.T.Wide.widths) (sym (take_all c.loop-part.part-index c.args.parts.now (omega arith))) ∙ c.loop-part.invariant
