-- The refusals, their numbers and what is said of them.
use Rattle.std.specs.Prelude.{ℕ, List, codes}
use Rattle.sources.specs.declared.trigger.TableFault.{TableFault}
use Rattle.sources.specs.declared.trigger.TableFault.TheVariants.{TickOver, TickFalls}
use Rattle.sources.specs.declared.trigger.PutFault.{PutFault}
use Rattle.sources.specs.declared.trigger.PutFault.TheVariants.{TickOver as PutTickOver, Full}

-- a tick is over the last tick
abbrev pub tick_over : ℕ
tick_over = 13

-- a tick of a table is smaller than the one before it
abbrev pub tick_falls : ℕ
tick_falls = 14

-- a tray has no place left
abbrev pub tray_full : ℕ
tray_full = 18

abbrev pub table_fault_number : TableFault → ℕ
table_fault_number TickOver = tick_over
table_fault_number TickFalls = tick_falls

abbrev pub put_fault_number : PutFault → ℕ
put_fault_number PutTickOver = tick_over
put_fault_number Full = tray_full

abbrev pub table_fault_text : TableFault → List ℕ
table_fault_text TickOver = codes "a tick is over 1000000000"
table_fault_text TickFalls = codes "a tick is smaller than the one before it"

abbrev pub put_fault_text : PutFault → List ℕ
put_fault_text PutTickOver = codes "the tick is over 1000000000"
put_fault_text Full = codes "the tray holds 32 triggers"
