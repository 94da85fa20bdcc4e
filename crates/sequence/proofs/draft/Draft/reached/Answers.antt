use Rattle.std.proofs.Common.{◌≡◌, rules, ap, ◌∙◌}
use Rattle.sequence.specs.Growing.{last_of}
use Rattle.sequence.proofs.Filling.{reached_by, reached_last}
use Rattle.sequence.proofs.draft.Draft.reached.Goals as goal

pub returns : goal.returns
returns c =
    let e : c.map_or.result ≡ reached_by c.last.result = search rules in
    e ∙ reached_last c.args.self.now.lists.locations.items c.last.result (c.last.ensures ∙ ap last_of c.deref.ensures.value)
