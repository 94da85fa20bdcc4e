-- The walk over a group.
use Rattle.std.proofs.Common.{◌≡◌, ℕ, ◌+◌, ◌<◌, ◌≤◌, Bool, true, false, List, [], ◌∷◌, length, get_or, drop, Some, None, Option, sym, refl, ap, ◌∙◌}
use Rattle.std.proofs.lemmas.List.{drop_more, drop_all}
use Rattle.parts.specs.Limits.{none_left, group_fits}

-- what is left of a group, once a place was not in use, or while all were
abbrev pub left_fits : {X : Type 0} → (X → Bool) → (over : Bool) → List (Option X) → Bool
left_fits fits true xs = none_left xs
left_fits fits false xs = group_fits fits xs

module _ {X : Type 0} (fits : X → Bool) (xs : List (Option X)) (i : ℕ) (over : Bool) (inv : left_fits fits over (drop i xs) ≡ group_fits fits xs) where
  nothing_left : (b : Bool) → left_fits fits b [] ≡ true
  nothing_left true = refl
  nothing_left false = refl

  pub all_seen : length xs ≤ i → true ≡ group_fits fits xs
  all_seen h = sym (ap (left_fits fits over) (drop_all i xs h) ∙ nothing_left over) ∙ inv

  module _ (y z : Option X) (h : i < length xs) (r : y ≡ get_or xs i y) (e : y ≡ z) where
    here : drop i xs ≡ z ∷ drop (i + 1) xs
    here = drop_more xs i y h ∙ ap (λ w. w ∷ drop (i + 1) xs) (sym r ∙ e)

    pub step : left_fits fits over (z ∷ drop (i + 1) xs) ≡ group_fits fits xs
    step = sym (ap (left_fits fits over) here) ∙ inv

-- what the step comes to, by the place that was read
module _ {X : Type 0} (fits : X → Bool) (ys : List (Option X)) (r : Bool) where
  pub unused : (over after : Bool) → after ≡ true → left_fits fits over (None ∷ ys) ≡ r → left_fits fits after ys ≡ r
  unused true after e h = simp e h
  unused false after e h = simp e h

  pub used : (x : X) (over after : Bool) → over ≡ false → after ≡ over → fits x ≡ true → left_fits fits over (Some x ∷ ys) ≡ r → left_fits fits after ys ≡ r
  used x over after e f t h = simp (f, e) (simp (e, t) at h)

  pub used_behind : (x : X) (over : Bool) → over ≡ true → left_fits fits over (Some x ∷ ys) ≡ r → false ≡ r
  used_behind x over e h = simp e at h

  pub used_unfit : (x : X) (over : Bool) → over ≡ false → fits x ≡ false → left_fits fits over (Some x ∷ ys) ≡ r → false ≡ r
  used_unfit x over e f h = simp (e, f) at h
