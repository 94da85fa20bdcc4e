-- The laws of the orders that go by a word, with and without hold.
use Rattle.std.specs.Prelude.{Bool, true, false}
use Rattle.std.proofs.Common.{rules}
use Rattle.precedence.specs.Laws.{WeakOrder}
use Rattle.jobs.specs.declared.job.OrderName.{OrderName}
use Rattle.jobs.specs.declared.job.OrderName.TheVariants.{Fp, Ed, Fc}
use Rattle.jobs.specs.Laws.{JobOrder}
use Rattle.jobs.specs.Orders.{named_before, policy_before}

pub named_lawful : (n : OrderName) → WeakOrder (named_before n)
named_lawful Fp = search rules
named_lawful Ed = search rules
named_lawful Fc = search rules

pub policy_lawful : (hold : Bool) (n : OrderName) → WeakOrder (policy_before hold n)
policy_lawful true n = let w = named_lawful n in record { transitive = λ a b c. search rules; asymmetric = λ a b. search rules; equal_rank = λ a b c. search rules }
policy_lawful false n = named_lawful n

named_orders : (n : OrderName) → JobOrder (named_before n)
named_orders Fp = search rules
named_orders Ed = search rules
named_orders Fc = search rules

pub policy_orders : (hold : Bool) (n : OrderName) → JobOrder (policy_before hold n)
policy_orders true n = let o = named_orders n in record { irreflexive = λ a. search rules; total = λ a b. search rules; started = λ a b. search rules }
policy_orders false n = named_orders n
