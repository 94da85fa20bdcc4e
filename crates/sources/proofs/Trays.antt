-- What a put does to a tray.
use Rattle.std.proofs.Common.{◌≡◌, ◌≤◌, true, Ok, Err, Result, sym, ap, subst}
use Rattle.std.specs.Result.{MatchResult, IsErrAnd}
use Rattle.std.proofs.Props.{props}
use mathlib.Core.HLevel.{Σ_prop_path}
use Rattle.precedence.specs.Bounded.{records, Adds}
use Rattle.precedence.specs.Sorted.{InOrder}
use Rattle.precedence.specs.declared.bounded.BoundedList.{BoundedList}
use Rattle.sources.specs.declared.trigger.Trigger.{Trigger}
use Rattle.sources.specs.declared.tray.Tray.{Tray}
use Rattle.sources.specs.Lists.{last_tick, earlier, all_within}
use Rattle.sources.specs.declared.trigger.PutFault.{PutFault}
use Rattle.sources.specs.declared.trigger.PutFault.TheVariants.{Full}
use Rattle.sources.specs.Trays.{Puts}

-- what a tray keeps true of its triggers
abbrev Held : BoundedList Trigger 32 → Type 0
Held l = InOrder earlier (records l) × (all_within (records l) ≡ true)

-- two trays with the same triggers are the same
pub same_tray : (a b : Tray) → a.triggers ≡ b.triggers → a ≡ b
same_tray a b e =
    ap {A = (l : BoundedList Trigger 32) × Held l}
    (λ p. record { triggers = p.0; ordered = p.1.0; within = p.1.1 })
    (Σ_prop_path {0, 0} {A = BoundedList Trigger 32} {B = Held} (λ l. hlevel props) {u = (a.triggers, (a.ordered, a.within))} {v = (b.triggers, (b.ordered, b.within))} e)

-- what an insertion into the bounded list means for the tray
pub puts : (t : Trigger) (before after : Tray) (r : Result Unit Trigger) (s : Result Unit PutFault) → t.tick ≤ last_tick → Adds earlier t before.triggers after.triggers r → MatchResult r (λ x. s ≡ Ok x) (λ e. IsErrAnd s (λ f. f ≡ Full)) → Puts t before after s
puts t b a (Ok u) s w h m = subst (Puts t b a) (sym m) (w, h.0, h.1, h.2)
puts t b a (Err k) (Err f) w h m = subst (λ (g : PutFault). Puts t b a (Err g)) (sym m) (w, h.0, same_tray a b h.2)
puts t b a (Err k) (Ok u) w h m = absurd m
