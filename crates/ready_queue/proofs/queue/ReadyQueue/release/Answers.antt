use Rattle.std.proofs.Common.{arith}
use Rattle.ready_queue.proofs.Lists.{releases}
use Rattle.ready_queue.proofs.queue.ReadyQueue.release.Goals as goal

pub returns : goal.returns
returns g c = grind (arith, releases)
