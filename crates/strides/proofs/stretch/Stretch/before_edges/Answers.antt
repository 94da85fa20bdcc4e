use Rattle.std.proofs.Common.{rules}
use Rattle.search.specs.Views.{state_of}
use Rattle.strides.specs.Quiet.{at_tick}
use Rattle.strides.specs.Reach.{EdgeShut}
use Rattle.strides.proofs.Opening.{edges_folded, none_opens}
use Rattle.strides.proofs.stretch.Stretch.before_edges.Goals as goal

pub returns : goal.returns
returns c =
    none_opens c.args.view.now c.args.self c.fold.result
    (edges_folded c.args.view.now (λ d t. EdgeShut (at_tick t (state_of c.args.view.now)) d) _ _ c.args.self c.iter.result c.fold.result (λ m x r q k. (search rules, search rules)) (cc) c.fold.ensures.ran)
