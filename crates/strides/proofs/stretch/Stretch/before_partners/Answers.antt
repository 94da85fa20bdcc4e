use Rattle.std.proofs.Common.{◌≡◌, false, rules}
use Rattle.search.specs.Views.{state_of}
use Rattle.strides.specs.Reach.{pairs_at}
use Rattle.strides.proofs.Opening.{edges_folded}
use Rattle.strides.proofs.stretch.Stretch.before_partners.Goals as goal

pub returns : goal.returns
returns c = edges_folded c.args.view.now (λ d t. pairs_at (state_of c.args.view.now) t c.args.edge.now d ≡ false) _ _ c.args.self c.iter.result c.fold.result (λ m x r q k. (search rules, search rules)) (cc) c.fold.ensures.ran
