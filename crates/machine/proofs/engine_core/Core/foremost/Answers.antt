use Rattle.std.proofs.Common.{◌≡◌, ◌≤◌, [], length, ap, arith}
use Rattle.sequence.specs.Whole.{plan}
use Rattle.sequence.proofs.Sound.{sound_facts}
use Rattle.search.specs.Views.{state_of}
use Rattle.machine.specs.Model.{model}
use Rattle.machine.proofs.Alike.{finds_shown}
use Rattle.machine.proofs.Numbers.{all_rise, all_cover}
use Rattle.machine.proofs.engine_core.Core.foremost.Goals as goal

pub returns : goal.returns
returns c =
    let m = c.args.self.now in
    let u = state_of c.view.result in
    let n = length c.edges-count.result.now in
    let e : n ≡ length u.plan.edges = omega (arith, ap length c.edges-count.ensures, ap length c.view.ensures.edges) in
    let few : n ≤ 128 = omega (arith, ap length c.edges-count.ensures, (sound_facts (plan m.sequence) m.sequence.draft.valid).few_edges) in
    finds_shown (model [] m) u c.foremost.result c.view.ensures (c.foremost.ensures (all_rise n 128) (all_cover u n 128 e few))
