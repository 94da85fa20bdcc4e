use Rattle.std.proofs.Common.{◌≡◌, ◌≤◌, Ok, rules}
use Rattle.std.specs.Result.{MatchResult, IsErrAnd}
use Rattle.sources.specs.declared.trigger.PutFault.TheVariants.{Full}
use Rattle.sources.specs.Lists.{last_tick}
use Rattle.sources.proofs.Trays.{puts}
use Rattle.sources.proofs.tray.Tray.put.Goals as goal

pub returns : goal.returns
returns c =
    let m : MatchResult c.insert.result (λ x. c.map_err.result ≡ Ok x) (λ e. IsErrAnd c.map_err.result (λ f. f ≡ Full)) = search rules in
    let w : c.args.tick ≤ last_tick = search rules in
    puts (record { tick = c.args.tick; number = c.args.number }) c.args.self.now _ c.insert.result c.map_err.result w c.insert.ensures m
