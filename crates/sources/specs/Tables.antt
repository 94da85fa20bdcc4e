-- When records make a table, and what it gives.
use Rattle.std.specs.Prelude.{◌≡◌, ℕ, suc, ◌<◌, true, ◌↔◌, List, [], Some, Ok, Err, Result}
use Rattle.std.specs.List.{slice_get}
use Rattle.sources.specs.declared.trigger.Trigger.{Trigger}
use Rattle.sources.specs.declared.trigger.TableFault.{TableFault}
use Rattle.sources.specs.declared.trigger.TableFault.TheVariants.{TickOver, TickFalls}
use Rattle.sources.specs.declared.table.Table.{Table}
use Rattle.sources.specs.Lists.{last_tick, all_within, TriggerList}

abbrev pub table_list : Table → List Trigger
table_list t = t.rows.now

-- some tick, wherever it stands, is over the last tick
pub record SomeOver (ts : List Trigger) : Type 0 where
  pub place : ℕ
  pub trigger : Trigger
  pub there : slice_get ts place ≡ Some trigger
  pub over : last_tick < trigger.tick

-- some tick is smaller than the one right before it
pub record SomeFall (ts : List Trigger) : Type 0 where
  pub place : ℕ
  pub before : Trigger
  pub after : Trigger
  pub there : slice_get ts place ≡ Some before
  pub next : slice_get ts (suc place) ≡ Some after
  pub falls : after.tick < before.tick

-- the answer of the check, and exactly when it is given
pub record Checked (rows : List Trigger) (r : Result Unit TableFault) : Type 0 where
  pub over : (r ≡ Err TickOver) ↔ SomeOver rows
  pub falls : (r ≡ Err TickFalls) ↔ ((all_within rows ≡ true) × SomeFall rows)
  pub passes : (r ≡ Ok tt) ↔ TriggerList rows

-- a table's list is exactly the caller's records where they pass the check, and empty where they do not
pub record Tabled (rows list : List Trigger) : Type 0 where
  pub exact : TriggerList rows → list ≡ rows
  pub empty : (TriggerList rows → ⊥) → list ≡ []
