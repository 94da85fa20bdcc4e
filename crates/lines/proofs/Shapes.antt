-- A value of two, three or four fields, field by field.
use Rattle.std.proofs.Common.{◌≡◌, ℕ, List, [], ◌∷◌, refl}
use Rattle.lexical.specs.declared.fault.Place.{Place}
use Rattle.lexical.specs.Bytes.{pieces, comma}
use Rattle.lexical.specs.Fields.{behind}
use Rattle.fields.specs.declared.field.Field.{Field}
use Rattle.fields.specs.Splits.{Stands, AllStand}

pub record TwoFields (value : List ℕ) (at : Place) (t u : Field) : Type 0 where
  pub x : List ℕ
  pub y : List ℕ
  pub split : pieces comma value ≡ x ∷ y ∷ []
  pub first : Stands at x t
  pub second : Stands (behind at x) y u

pub record ThreeFields (value : List ℕ) (at : Place) (t u v : Field) : Type 0 where
  pub x : List ℕ
  pub y : List ℕ
  pub z : List ℕ
  pub split : pieces comma value ≡ x ∷ y ∷ z ∷ []
  pub first : Stands at x t
  pub second : Stands (behind at x) y u
  pub third : Stands (behind (behind at x) y) z v

pub record FourFields (value : List ℕ) (at : Place) (t u v w : Field) : Type 0 where
  pub x : List ℕ
  pub y : List ℕ
  pub z : List ℕ
  pub s : List ℕ
  pub split : pieces comma value ≡ x ∷ y ∷ z ∷ s ∷ []
  pub first : Stands at x t
  pub second : Stands (behind at x) y u
  pub third : Stands (behind (behind at x) y) z v
  pub fourth : Stands (behind (behind (behind at x) y) z) s w

module _ (value : List ℕ) (at : Place) where
  pub two_of : (t u : Field) → AllStand at (pieces comma value) (t ∷ u ∷ []) → TwoFields value at t u
  two_of t u h = go (pieces comma value) refl h
    where
      go : (ps : List (List ℕ)) → pieces comma value ≡ ps → AllStand at ps (t ∷ u ∷ []) → TwoFields value at t u
      go [] e h = absurd h
      go (x ∷ []) e h = absurd h.1
      go (x ∷ y ∷ []) e h = record { x = x; y = y; split = e; first = h.0; second = h.1.0 }
      go (x ∷ y ∷ z ∷ ps) e h = absurd h.1.1

  pub three_of : (t u v : Field) → AllStand at (pieces comma value) (t ∷ u ∷ v ∷ []) → ThreeFields value at t u v
  three_of t u v h = go (pieces comma value) refl h
    where
      go : (ps : List (List ℕ)) → pieces comma value ≡ ps → AllStand at ps (t ∷ u ∷ v ∷ []) → ThreeFields value at t u v
      go [] e h = absurd h
      go (x ∷ []) e h = absurd h.1
      go (x ∷ y ∷ []) e h = absurd h.1.1
      go (x ∷ y ∷ z ∷ []) e h = record { x = x; y = y; z = z; split = e; first = h.0; second = h.1.0; third = h.1.1.0 }
      go (x ∷ y ∷ z ∷ s ∷ ps) e h = absurd h.1.1.1

  pub four_of : (t u v w : Field) → AllStand at (pieces comma value) (t ∷ u ∷ v ∷ w ∷ []) → FourFields value at t u v w
  four_of t u v w h = go (pieces comma value) refl h
    where
      go : (ps : List (List ℕ)) → pieces comma value ≡ ps → AllStand at ps (t ∷ u ∷ v ∷ w ∷ []) → FourFields value at t u v w
      go [] e h = absurd h
      go (x ∷ []) e h = absurd h.1
      go (x ∷ y ∷ []) e h = absurd h.1.1
      go (x ∷ y ∷ z ∷ []) e h = absurd h.1.1.1
      go (x ∷ y ∷ z ∷ s ∷ []) e h = record { x = x; y = y; z = z; s = s; split = e; first = h.0; second = h.1.0; third = h.1.1.0; fourth = h.1.1.1.0 }
      go (x ∷ y ∷ z ∷ s ∷ q ∷ ps) e h = absurd h.1.1.1.1
