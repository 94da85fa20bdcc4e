-- What a tray gives, and what a put does to it.
use Rattle.std.specs.Prelude.{◌≡◌, ◌<◌, ◌≤◌, List, length, Ok, Err, Result}
use Rattle.precedence.specs.Bounded.{records}
use Rattle.precedence.specs.Sorted.{put}
use Rattle.precedence.specs.Insertion.{Inserted}
use Rattle.sources.specs.declared.trigger.Trigger.{Trigger}
use Rattle.sources.specs.declared.trigger.PutFault.{PutFault}
use Rattle.sources.specs.declared.trigger.PutFault.TheVariants.{TickOver, Full}
use Rattle.sources.specs.declared.tray.Tray.{Tray}
use Rattle.sources.specs.Lists.{last_tick, earlier}

abbrev pub tray_list : Tray → List Trigger
tray_list t = records t.triggers

-- The trigger is put behind those of the same or an earlier tick and before all later ones.
-- A refused put changes nothing.
abbrev pub Puts : Trigger → (before after : Tray) → Result Unit PutFault → Type 0
Puts t before after (Ok _) =
    (t.tick ≤ last_tick)
    × (length (tray_list before) < 32)
    × (tray_list after ≡ put earlier t (tray_list before))
    × Inserted earlier t (tray_list before) (tray_list after)
Puts t before after (Err TickOver) = (last_tick < t.tick) × (after ≡ before)
Puts t before after (Err Full) = (t.tick ≤ last_tick) × (length (tray_list before) ≡ 32) × (after ≡ before)
