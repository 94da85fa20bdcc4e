use Rattle.std.proofs.Common.{arith}
use Rattle.ready_queue.specs.Waiting.{waiting}
use Rattle.ready_queue.proofs.Lists.{serves, served_row}
use Rattle.ready_queue.proofs.queue.ReadyQueue.serve.Goals as goal

pub returns : goal.returns
returns c = serves (waiting c.args.self.now) _ _ (grind arith) (grind (arith, served_row))
