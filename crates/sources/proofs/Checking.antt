-- The check of a table's records: the search for a tick that is over the last one, and for one that falls.
use Rattle.std.proofs.Common.{◌≡◌, ℕ, zero, suc, ◌+◌, ◌<◌, Bool, true, false, ◌&&◌, leb, List, [], ◌∷◌, get_or, Some, Ok, Err, sym, refl, ap, ◌∙◌, ⊎_elim, arith}
use Rattle.std.specs.List.{slice_get, IsAllAdjacentAnswer}
use Rattle.std.proofs.lemmas.Option.{slice_get_within, slice_get-get_or, get_or_from_slice_get}
use Rattle.std.proofs.lemmas.Bool.{cases_Bool, both_ways, and_parts, and_from, and_cases, and_left, and_right, not_from_true, not_from_false, leb-true, leb-false, lt-leb, ltb-true, lt-ltb}
use Rattle.precedence.specs.Sorted.{none_before, in_order, InOrder}
use Rattle.precedence.proofs.Order.{none_below}
use Rattle.sources.specs.declared.trigger.Trigger.{Trigger}
use Rattle.sources.specs.declared.trigger.TableFault.TheVariants.{TickOver, TickFalls}
use Rattle.sources.specs.Lists.{last_tick, earlier, all_within}
use Rattle.sources.specs.Members.{earlier_lawful}
use Rattle.sources.specs.Tables.{SomeOver, SomeFall, Checked}

pub over_found : (ts : List Trigger) → all_within ts ≡ false → SomeOver ts
over_found [] h = absurd (both_ways true h refl)
over_found (t ∷ ts) h =
    ⊎_elim
    (λ (l : leb t.tick last_tick ≡ false). record { place = 0; trigger = t; there = refl; over = leb-false _ _ l })
    (λ (w : all_within ts ≡ false). let o = over_found ts w in record { place = suc o.place; trigger = o.trigger; there = o.there; over = o.over })
    (and_cases _ _ h)

over_at : (ts : List Trigger) (k : ℕ) (t : Trigger) → slice_get ts k ≡ Some t → last_tick < t.tick → all_within ts ≡ false
over_at [] k t e h = let z : ◌≡◌ {A = ℕ} 0 1 = cc in absurd (omega arith)
over_at (u ∷ us) zero t e h = let s : u ≡ t = cc in and_left _ _ (lt-leb u.tick last_tick (omega (arith, ap (λ (x : Trigger). x.tick) s)))
over_at (u ∷ us) (suc k) t e h = and_right _ _ (over_at us k t e h)

pub over_fails : (ts : List Trigger) → SomeOver ts → all_within ts ≡ false
over_fails ts o = over_at ts o.place o.trigger o.there o.over

pub fall_found : (ts : List Trigger) → in_order earlier ts ≡ false → SomeFall ts
fall_found [] h = absurd (both_ways true h refl)
fall_found (t ∷ []) h = absurd (both_ways true h refl)
fall_found (t ∷ u ∷ us) h =
    ⊎_elim
    (λ (s : in_order earlier (u ∷ us) ≡ true).
    let e : earlier u t ≡ true = falls t u us s (first_falls h s) in
    record { place = 0; before = t; after = u; there = refl; next = refl; falls = ltb-true _ _ e })
    (λ (s : in_order earlier (u ∷ us) ≡ false).
    let o = fall_found (u ∷ us) s in
    record { place = suc o.place; before = o.before; after = o.after; there = o.there; next = o.next; falls = o.falls })
    (cases_Bool (in_order earlier (u ∷ us)))
  where
    first_falls : {x y : Bool} → (x && y) ≡ false → y ≡ true → x ≡ false
    first_falls {x} {y} h s = ⊎_elim (λ (p : x ≡ false). p) (λ (q : y ≡ false). absurd (both_ways _ q s)) (and_cases _ _ h)

    falls : (t u : Trigger) (us : List Trigger) → InOrder earlier (u ∷ us) → none_before earlier t (u ∷ us) ≡ false → earlier u t ≡ true
    falls t u us s n =
        ⊎_elim
        (λ (e : earlier u t ≡ true). e)
        (λ (f : earlier u t ≡ false). absurd (both_ways _ n (and_from _ _ (not_from_false _ f) (none_below earlier earlier_lawful t u us f (and_parts _ _ s).0))))
        (cases_Bool (earlier u t))

fall_at : (ts : List Trigger) (k : ℕ) (a b : Trigger) → slice_get ts k ≡ Some a → slice_get ts (suc k) ≡ Some b → b.tick < a.tick → in_order earlier ts ≡ false
fall_at [] k a b e f h = let z : ◌≡◌ {A = ℕ} 0 1 = cc in absurd (omega arith)
fall_at (t ∷ []) zero a b e f h = let z : ◌≡◌ {A = ℕ} 0 1 = cc in absurd (omega arith)
fall_at (t ∷ u ∷ us) zero a b e f h =
    let s : t ≡ a = cc in
    let r : u ≡ b = cc in
    let l : earlier u t ≡ true = lt-ltb u.tick t.tick (omega (arith, ap (λ (x : Trigger). x.tick) s, ap (λ (x : Trigger). x.tick) r)) in
    and_left _ _ (and_left _ _ (not_from_true _ l))
fall_at (t ∷ ts) (suc k) a b e f h = and_right _ _ (fall_at ts k a b e f h)

pub fall_fails : (ts : List Trigger) → SomeFall ts → in_order earlier ts ≡ false
fall_fails ts o = fall_at ts o.place o.before o.after o.there o.next o.falls

-- the answers of the check
module _ (ts : List Trigger) where
  pub checked_over : all_within ts ≡ false → Checked ts (Err TickOver)
  checked_over w = record {
    over = (λ _. over_found ts w, λ _. refl);
    falls = (λ e. let z : ◌≡◌ {A = ℕ} 0 1 = cc in absurd (omega arith), λ p. absurd (both_ways _ w p.0));
    passes = (λ e. let z : ◌≡◌ {A = ℕ} 0 1 = cc in absurd (omega arith), λ v. absurd (both_ways _ w v.within));
  }

  pub checked_falls : all_within ts ≡ true → in_order earlier ts ≡ false → Checked ts (Err TickFalls)
  checked_falls w s = record {
    over = (λ e. let z : ◌≡◌ {A = ℕ} 0 1 = cc in absurd (omega arith), λ o. absurd (both_ways _ (over_fails ts o) w));
    falls = (λ _. (w, fall_found ts s), λ _. refl);
    passes = (λ e. let z : ◌≡◌ {A = ℕ} 0 1 = cc in absurd (omega arith), λ v. absurd (both_ways _ s v.ordered));
  }

  pub checked_passes : all_within ts ≡ true → in_order earlier ts ≡ true → Checked ts (Ok tt)
  checked_passes w s = record {
    over = (λ e. let z : ◌≡◌ {A = ℕ} 0 1 = cc in absurd (omega arith), λ o. absurd (both_ways _ (over_fails ts o) w));
    falls = (λ e. let z : ◌≡◌ {A = ℕ} 0 1 = cc in absurd (omega arith), λ p. absurd (both_ways _ (fall_fails ts p.1) s));
    passes = (λ _. record { ordered = s; within = w }, λ _. refl);
  }

-- what the library's search for a fall answers
blank : Trigger
blank = record { tick = 0; number = 0 }

pub sorted_is : (ts : List Trigger) (r : Bool) → IsAllAdjacentAnswer (λ x y b. b ≡ leb x.tick y.tick) ts r → r ≡ in_order earlier ts
sorted_is ts true h =
    ⊎_elim
    (λ (t : in_order earlier ts ≡ true). sym t)
    (λ (f : in_order earlier ts ≡ false).
    let o = fall_found ts f in
    let next : slice_get ts (o.place + 1) ≡ Some o.after = ap (slice_get ts) (omega arith) ∙ o.next in
    let within = slice_get_within ts (o.place + 1) o.after next in
    let rises : leb (get_or ts o.place blank).tick (get_or ts (o.place + 1) blank).tick ≡ true = sym (h o.place blank within) in
    let a : (get_or ts o.place blank).tick ≡ o.before.tick = ap (λ (t : Trigger). t.tick) (get_or_from_slice_get ts o.place o.before blank o.there) in
    let b : (get_or ts (o.place + 1) blank).tick ≡ o.after.tick = ap (λ (t : Trigger). t.tick) (get_or_from_slice_get ts (o.place + 1) o.after blank next) in
    absurd (omega (arith, leb-true _ _ rises, a, b, o.falls)))
    (cases_Bool (in_order earlier ts))
sorted_is ts false h =
    let k = h.0 in
    let falls : leb (get_or ts k blank).tick (get_or ts (k + 1) blank).tick ≡ false = sym (h.2 blank) in
    sym (fall_at ts k (get_or ts k blank) (get_or ts (k + 1) blank) (slice_get-get_or ts k blank (omega (arith, h.1))) (ap (slice_get ts) (omega arith) ∙ slice_get-get_or ts (k + 1) blank h.1) (leb-false _ _ falls))
