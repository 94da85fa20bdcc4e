use Rattle.std.proofs.Common.{subst, arith}
use Rattle.ready_queue.specs.Waiting.{waiting}
use Rattle.ready_queue.specs.Calls.{Leads}
use Rattle.ready_queue.proofs.Lists.{leads}
use Rattle.ready_queue.proofs.queue.ReadyQueue.first.Goals as goal

pub returns-clause-leads : goal.returns-clause-leads
returns-clause-leads c = let js = waiting c.args.self.now in subst (Leads js) (grind arith) (leads js)
