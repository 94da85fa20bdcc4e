-- When edges open, alone or with a partner.
use Rattle.std.proofs.Common.{◌≡◌, ℕ, ◌<◌, ◌≤◌, min, max, Bool, true, false, not, ◌&&◌, eqb, ◌⊎◌, List, Some, None, Bor, sym, refl, ap, ◌∙◌, subst, inl, inr, arith}
use denote.Param.Members.{Mut}
use Rattle.std.specs.declared.slice.Iter.{Iter}
use Rattle.std.specs.Fn.{Called}
use Rattle.std.specs.Slice.Iter.{iter_rest}
use Rattle.std.specs.List.{AllByRecursion}
use Rattle.std.proofs.lemmas.Fn.{fronts}
use Rattle.std.proofs.lemmas.Iterator.{YieldsList-from_slice}
use Rattle.std.proofs.ByRecursion.{All-weaker}
use Rattle.std.proofs.lemmas.Bool.{and_parts, and_from, and_left, and_right, both_ways, cases_Bool}
use Rattle.parts.specs.declared.part.Edge.{Edge}
use Rattle.runs.specs.State.{State, automaton}
use Rattle.runs.specs.Guards.{guard_holds}
use Rattle.runs.specs.Edges.{leaves_current, goes_alone, opposite, fits, NoneOpen}
use Rattle.guards.specs.declared.span.Span.{Span}
use Rattle.guards.specs.Spans.{ZeroedBy, in_span, GuardSpans}
use Rattle.guards.proofs.Spans.{meet_is}
use Rattle.search.specs.declared.view.View.{View}
use Rattle.search.specs.Views.{state_of}
use Rattle.strides.specs.Quiet.{at_tick}
use Rattle.strides.specs.declared.stretch.Stretch.{Stretch}
use Rattle.strides.specs.Reach.{FreePart, ViewFreePart, EdgeShut, could_join, pairs_at}
use Rattle.strides.proofs.Reaching.{part_whole, part_same, AllFree, Folds, row_folded, nth_from_all, all_from_nth}

and_order : (g a l h o : Bool) → (g && (a && ((l && h) && o))) ≡ ((a && (l && o)) && (g && h))
and_order true true true h o = and_swap h o
  where
    and_swap : (h o : Bool) → (h && o) ≡ (o && h)
    and_swap true true = refl
    and_swap true false = refl
    and_swap false true = refl
    and_swap false false = refl
and_order true true false h o = refl
and_order true false l h o = refl
and_order false true true h true = refl
and_order false true true h false = refl
and_order false true false h o = refl
and_order false false l h o = refl

-- a partner that could join fits where both guards hold
pairs_by_guards : (s : State) (t : ℕ) (d c : Edge) → pairs_at s t d c ≡ (could_join s d c && (guard_holds s.zeroed s.values t d.guard && guard_holds s.zeroed s.values t c.guard))
pairs_by_guards s t d c = and_order (guard_holds s.zeroed s.values t d.guard) (not (eqb (automaton s.plan d.from) (automaton s.plan c.from))) (leaves_current s.plan s.places c) (guard_holds s.zeroed s.values t c.guard) (opposite d.label c.label)

module _ (v : View) (d c : Edge) (s : Stretch) where
  pub never_together : could_join (state_of v) d c ≡ false → ViewFreePart v (λ t. pairs_at (state_of v) t d c ≡ false) s s
  never_together h z w = part_whole (λ t. pairs_at (state_of v) t d c ≡ false) s (λ t a b. pairs_by_guards (state_of v) t d c ∙ ap (λ x. x && (guard_holds v.valuation.zeroed.now v.valuation.values.now t d.guard && guard_holds v.valuation.zeroed.now v.valuation.values.now t c.guard)) h)

  -- both guards hold together where their spans meet
  module _ (own other both : Span) (p : GuardSpans v.valuation.zeroed.now v.valuation.values.now d.guard own) (q : GuardSpans v.valuation.zeroed.now v.valuation.values.now c.guard other) (low : both.low ≡ max own.low other.low) (high : both.high ≡ min own.high other.high) where
    pub together : could_join (state_of v) d c ≡ true → (r : Stretch) → FreePart (λ t. in_span both t ≡ false) s r → ViewFreePart v (λ t. pairs_at (state_of v) t d c ≡ false) s r
    together h r f z w = part_same (λ t. in_span both t ≡ false) (λ t. pairs_at (state_of v) t d c ≡ false) s r (λ t a b e. same t a b ∙ e) (λ t a b e. sym (same t a b) ∙ e) f
      where
        same : (t : ℕ) → s.from < t → t ≤ s.to → pairs_at (state_of v) t d c ≡ in_span both t
        same t a b =
            let g = guard_holds v.valuation.zeroed.now v.valuation.values.now t d.guard in
            let k = guard_holds v.valuation.zeroed.now v.valuation.values.now t c.guard in
            let x : g ≡ in_span own t = p s.from z t (omega arith) (omega arith) in
            let y : k ≡ in_span other t = q s.from z t (omega arith) (omega arith) in
            pairs_by_guards (state_of v) t d c ∙ (ap (λ u. u && (g && k)) h ∙ (ap (λ u. u && k) x ∙ (ap (λ u. in_span own t && u) y ∙ sym (meet_is own other both t low high))))

-- edges one behind the other
pub edges_folded : {F : Type 0} (v : View) (P : Edge → ℕ → Type 0) (g : Mut F (Stretch × (Bor Edge × Unit {0})) Stretch) (f : F) (s : Stretch) (it : Iter Edge) (r : Stretch) → ((m : Stretch) (x : Bor Edge) (n : Stretch) (q : F) → Called g f (m, (x, tt)) n q → ViewFreePart v (P x.now) m n × (q ≡ f)) → iter_rest it ≡ v.edges.now → Folds P g f s fronts it r → ViewFreePart v (AllFree P v.edges.now) s r
edges_folded v P g f s it r step all ran z w =
    row_folded P g f s fronts it v.edges.now r
    (λ m x n q e l k. let next = step m x n q k in (next.0 (subst (ZeroedBy v.valuation.zeroed.now) (sym e) z) (omega arith), next.1))
    (YieldsList-from_slice v.edges.now all) ran

all_of : {X : Type 0} (P : X → Type 0) (xs : List X) → ((x : X) → P x) → AllByRecursion P xs
all_of P xs h = all_from_nth P xs (λ k b x e. h x)

never_true : (b : Bool) → (b ≡ true → ⊥) → b ≡ false
never_true true h = absurd (h refl)
never_true false h = refl

-- an edge that waits for a partner is shut while its guard holds with no partner fitting
module _ (v : View) (d : Edge) (leaves : leaves_current (state_of v).plan v.places.now d ≡ true) (alone : goes_alone v.present.now d.label ≡ false) where
  abbrev guard : ℕ → Bool
  guard t = guard_holds v.valuation.zeroed.now v.valuation.values.now t d.guard

  shut_unpaired : (t : ℕ) → AllByRecursion (λ c. pairs_at (state_of v) t d c ≡ false) v.edges.now → EdgeShut (at_tick t (state_of v)) d
  shut_unpaired t f r =
      let g = (and_parts (leaves_current (state_of v).plan v.places.now d) (guard t) r).1 in
      (alone, All-weaker (λ c. pairs_at (state_of v) t d c ≡ false) (λ c. fits (at_tick t (state_of v)) d c ≡ false) (λ c e. sym (ap (λ u. u && fits (at_tick t (state_of v)) d c) g) ∙ e) v.edges.now f)

  unpaired_shut : (t : ℕ) → EdgeShut (at_tick t (state_of v)) d → AllByRecursion (λ c. pairs_at (state_of v) t d c ≡ false) v.edges.now
  unpaired_shut t f = by (cases_Bool (guard t))
    where
      by : (guard t ≡ true) ⊎ (guard t ≡ false) → AllByRecursion (λ c. pairs_at (state_of v) t d c ≡ false) v.edges.now
      by (inl g) = All-weaker (λ c. fits (at_tick t (state_of v)) d c ≡ false) (λ c. pairs_at (state_of v) t d c ≡ false) (λ c e. and_right (guard t) (fits (at_tick t (state_of v)) d c) e) v.edges.now (f (and_from _ _ leaves g)).1
      by (inr g) = all_of (λ c. pairs_at (state_of v) t d c ≡ false) v.edges.now (λ c. and_left (guard t) (fits (at_tick t (state_of v)) d c) g)

  pub waits_for_a_partner : (s r : Stretch) → ViewFreePart v (λ t. AllByRecursion (λ c. pairs_at (state_of v) t d c ≡ false) v.edges.now) s r → ViewFreePart v (λ t. EdgeShut (at_tick t (state_of v)) d) s r
  waits_for_a_partner s r p z w = part_same (λ t. AllByRecursion (λ c. pairs_at (state_of v) t d c ≡ false) v.edges.now) (λ t. EdgeShut (at_tick t (state_of v)) d) s r (λ t a b. shut_unpaired t) (λ t a b. unpaired_shut t) (p z w)

-- no edge is open where each is shut
module _ (s : State) where
  none_open : AllByRecursion (EdgeShut s) s.plan.edges → NoneOpen s
  none_open f k None d None o = both_ways (goes_alone s.present d.label) (nth_from_all (EdgeShut s) s.plan.edges f k d o.found o.is_ready).0 o.joins
  none_open f k None d (Some c) o = o.joins
  none_open f k (Some p) d None o = o.joins
  none_open f k (Some p) d (Some c) o =
      both_ways (fits s d c) (nth_from_all (λ x. fits s d x ≡ false) s.plan.edges (nth_from_all (EdgeShut s) s.plan.edges f k d o.found o.is_ready).1 p c o.joins.0) o.joins.1

  all_shut : NoneOpen s → AllByRecursion (EdgeShut s) s.plan.edges
  all_shut n = all_from_nth (EdgeShut s) s.plan.edges (λ k b d e r. (
    never_true (goes_alone s.present d.label) (λ h. n k None d None (record { found = e; is_ready = r; joins = h })),
    all_from_nth (λ c. fits s d c ≡ false) s.plan.edges (λ p q c f. never_true (fits s d c) (λ h. n k (Some p) d (Some c) (record { found = e; is_ready = r; joins = (f, h) }))),
  ))

pub none_opens : (v : View) (s r : Stretch) → ViewFreePart v (λ t. AllByRecursion (λ d. EdgeShut (at_tick t (state_of v)) d) v.edges.now) s r → ViewFreePart v (λ t. NoneOpen (at_tick t (state_of v))) s r
none_opens v s r p z w = part_same (λ t. AllByRecursion (λ d. EdgeShut (at_tick t (state_of v)) d) v.edges.now) (λ t. NoneOpen (at_tick t (state_of v))) s r (λ t a b. none_open (at_tick t (state_of v))) (λ t a b. all_shut (at_tick t (state_of v))) (p z w)
