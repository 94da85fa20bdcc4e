-- The orders: which of two jobs goes before the other.
use Rattle.std.specs.Prelude.{◌≡◌, ℕ, ◌+◌, Bool, true, false, ◌&&◌, ◌||◌, List, Ok, Err, codes, Result, ◌==◌, ◌≢◌, nat_lt}
use Rattle.jobs.specs.declared.job.JobKey.{JobKey}
use Rattle.jobs.specs.declared.job.OrderName.{OrderName}
use Rattle.jobs.specs.declared.job.UnknownOrder.{UnknownOrder}
use Rattle.jobs.specs.declared.job.OrderName.TheVariants.{Fp, Ed, Fc}

-- fixed priorities: the greater priority, of equal ones the smaller number
abbrev pub fp_before : JobKey → JobKey → Bool
fp_before a b = nat_lt b.priority a.priority || (a.priority == b.priority && nat_lt a.number b.number)

-- the tick by which a job has to be done
abbrev pub due_by : JobKey → ℕ
due_by a = a.release + a.deadline

-- earliest deadline: the smaller release + D, of equal ones the smaller number
abbrev pub ed_before : JobKey → JobKey → Bool
ed_before a b = nat_lt (due_by a) (due_by b) || (due_by a == due_by b && nat_lt a.number b.number)

-- first come, first served: the smaller number
abbrev pub fc_before : JobKey → JobKey → Bool
fc_before a b = nat_lt a.number b.number

-- hold, given what the order below says: a started job before an unstarted one, otherwise as below
abbrev pub hold_by : (below a_started b_started : Bool) → Bool
hold_by below true true = below
hold_by below true false = true
hold_by below false true = false
hold_by below false false = below

abbrev pub hold_before : (JobKey → JobKey → Bool) → JobKey → JobKey → Bool
hold_before below a b = hold_by (below a b) a.started b.started

-- the orders that have a word, each with its word
abbrev pub named_before : OrderName → JobKey → JobKey → Bool
named_before Fp = fp_before
named_before Ed = ed_before
named_before Fc = fc_before

-- a named order, with hold over it or without
abbrev pub policy_before : (hold : Bool) → OrderName → JobKey → JobKey → Bool
policy_before true n = hold_before (named_before n)
policy_before false n = named_before n

abbrev pub order_word : OrderName → List ℕ
order_word Fp = codes "fp"
order_word Ed = codes "ed"
order_word Fc = codes "fc"

-- what is said of a word that names no order
abbrev pub unknown_order : List ℕ
unknown_order = codes "no order has this word"

-- which order a word names: an error where it is no order's word
abbrev pub Names : List ℕ → Result OrderName UnknownOrder → Type 0
Names w (Ok n) = w ≡ order_word n
Names w (Err _) = (n : OrderName) → w ≢ order_word n
