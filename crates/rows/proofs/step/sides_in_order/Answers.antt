use Rattle.rows.proofs.Sides.{one_side, sender_first, receiver_last}
use Rattle.rows.proofs.step.sides_in_order.Goals as goal

pub returns : goal.returns
returns c = λ vars d values. record { alone = one_side vars d values; sender = λ m. sender_first vars d m values; receiver = λ m. receiver_last vars d m values }
