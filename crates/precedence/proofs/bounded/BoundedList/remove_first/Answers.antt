use Rattle.std.proofs.Common.{◌∙◌, sym, arith}
use Rattle.std.proofs.lemmas.List.{length-take-le}
use Rattle.std.proofs.lemmas.Option.{slice_get_within}
use Rattle.precedence.specs.Bounded.{records}
use Rattle.precedence.proofs.Fronts.{front_removed}
use Rattle.precedence.proofs.bounded.BoundedList.remove_first.Goals as goal

pub returns-clause-rest : goal.returns-clause-rest
returns-clause-rest g c =
    let b = c.args.self.now in
    let w = slice_get_within (records b) 0 _ (sym c.first.ensures ∙ c.in_ok-first.was) in
    let l = length-take-le b.len b.slots (omega arith) in
    front_removed b.slots b.len _ (omega arith) (omega arith) c.copy_within.ensures.after
