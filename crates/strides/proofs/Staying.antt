-- Invariants of the current locations, one behind the other.
use Rattle.std.proofs.Common.{◌≡◌, ℕ, Bool, true, List, [], ◌∷◌, Some, None, Option, sym, refl, ap, ◌∙◌}
use Rattle.std.specs.List.{slice_get, list_all, AllByRecursion}
use Rattle.std.proofs.lemmas.Bool.{and_parts, and_from}
use Rattle.parts.specs.declared.part.Invariant.{Invariant}
use Rattle.runs.specs.Guards.{if_used, keeps, all_keep, may_stay_in}
use Rattle.runs.specs.Rules.{location_at, may_stay}
use Rattle.guards.proofs.Groups.{all_pass}
use Rattle.search.specs.declared.view.View.{View}
use Rattle.search.specs.Views.{state_of}
use Rattle.strides.specs.declared.stretch.Stretch.{Stretch}
use Rattle.strides.specs.Reach.{FreePart}
use Rattle.strides.proofs.Reaching.{part_whole, part_same, AllFree, all_from_nth, nth_from_all}

all_true : {X : Type 0} (test : X → Bool) (xs : List X) → AllByRecursion (λ x. test x ≡ true) xs → list_all test xs ≡ true
all_true test [] h = refl
all_true test (x ∷ xs) h = and_from _ _ h.0 (all_true test xs h.1)

passing : {X : Type 0} (test : X → Bool) (xs : List X) → list_all test xs ≡ true → AllByRecursion (λ x. test x ≡ true) xs
passing test [] h = tt
passing test (x ∷ xs) h = let p = and_parts (test x) (list_all test xs) h in (p.0, passing test xs p.1)

-- whether the invariant in a place is kept, if there is one
abbrev pub kept_at : List ℕ → Option Invariant → ℕ → Type 0
kept_at zeroed place t = if_used place (keeps zeroed t) ≡ true

-- a place without an invariant, and one with
pub place_none : (zeroed : List ℕ) (s : Stretch) → FreePart (kept_at zeroed None) s s
place_none zeroed s = part_whole (kept_at zeroed None) s (λ t l h. refl)

-- a group, place by place
pub group_all : (zeroed : List ℕ) (is : List (Option Invariant)) (s r : Stretch) → FreePart (AllFree (kept_at zeroed) is) s r → FreePart (λ t. all_keep zeroed t is ≡ true) s r
group_all zeroed is s r p =
    part_same (AllFree (kept_at zeroed) is) (λ t. all_keep zeroed t is ≡ true) s r
    (λ t l h f. walk t ∙ all_true (λ i. if_used i (keeps zeroed t)) is f)
    (λ t l h f. passing (λ i. if_used i (keeps zeroed t)) is (sym (walk t) ∙ f)) p
  where
    walk : (t : ℕ) → all_keep zeroed t is ≡ list_all (λ i. if_used i (keeps zeroed t)) is
    walk t = all_pass (all_keep zeroed t) (keeps zeroed t) refl (λ x xs. refl) is

-- the places, automaton by automaton
module _ (v : View) where
  abbrev pub stays_at : ℕ → ℕ → Type 0
  stays_at p t = may_stay_in v.valuation.zeroed.now t (slice_get v.locations.now p) ≡ true

  pub places_all : (s r : Stretch) → FreePart (AllFree stays_at v.places.now) s r → FreePart (λ t. (a : ℕ) → may_stay (state_of v) t a ≡ true) s r
  places_all s r p =
      part_same (AllFree stays_at v.places.now) (λ t. (a : ℕ) → may_stay (state_of v) t a ≡ true) s r
      (λ t l m f a. all_stay t f a (slice_get v.places.now a) refl)
      (λ t l m f. all_from_nth (λ l. stays_at l t) v.places.now (λ k b l e. sym (seen t k (Some l) e) ∙ f k)) p
    where
      seen : (t a : ℕ) (o : Option ℕ) → slice_get v.places.now a ≡ o → may_stay (state_of v) t a ≡ may_stay_in v.valuation.zeroed.now t (location_at (state_of v).plan o)
      seen t a o e = ap (λ q. may_stay_in v.valuation.zeroed.now t (location_at (state_of v).plan q)) e

      all_stay : (t : ℕ) → AllByRecursion (λ l. stays_at l t) v.places.now → (a : ℕ) (o : Option ℕ) → slice_get v.places.now a ≡ o → may_stay (state_of v) t a ≡ true
      all_stay t f a None e = seen t a None e
      all_stay t f a (Some l) e = seen t a (Some l) e ∙ nth_from_all (λ l. stays_at l t) v.places.now f a l e
