-- Two lists as one.
use Rattle.std.specs.Prelude.{◌≡◌, Bool, true, false, cond, not, List, [], ◌∷◌, map, Some, None, Option}
use Rattle.precedence.specs.Sorted.{InOrder}
use Rattle.sources.specs.declared.trigger.Trigger.{Trigger}
use Rattle.sources.specs.Lists.{earlier}

-- x among ys, given the merge of what stands behind x
abbrev pub merge_in : {X : Type 0} → (X → X → Bool) → X → (List X → List X) → List X → List X
merge_in g x more [] = x ∷ more []
merge_in g x more (y ∷ ys) = cond (g y x) (y ∷ merge_in g x more ys) (x ∷ more (y ∷ ys))

-- the two lists as one: the right one's first comes only where it goes before the left one's
abbrev pub merge : {X : Type 0} → (X → X → Bool) → List X → List X → List X
merge g [] ys = ys
merge g (x ∷ xs) ys = merge_in g x (merge g xs) ys

-- whether the first of the merge is the right one's, by the first of each
abbrev pub right_next : Option Trigger → Option Trigger → Bool
right_next (Some a) (Some b) = earlier b a
right_next None (Some b) = true
right_next (Some a) None = false
right_next None None = false

-- a record and the list that it came from
pub data Sided (X : Type 0) : Type 0 where
  left : X → Sided X
  right : X → Sided X

abbrev pub record_of : {X : Type 0} → Sided X → X
record_of (left x) = x
record_of (right x) = x

-- what of such a list came from the left, and from the right
abbrev pub lefts : {X : Type 0} → List (Sided X) → List X
lefts [] = []
lefts (left x ∷ ss) = x ∷ lefts ss
lefts (right x ∷ ss) = lefts ss

abbrev pub rights : {X : Type 0} → List (Sided X) → List X
rights [] = []
rights (left x ∷ ss) = rights ss
rights (right x ∷ ss) = x ∷ rights ss

-- the order of the records, and of equal ones the left one first
abbrev pub left_first : {X : Type 0} → (X → X → Bool) → Sided X → Sided X → Bool
left_first g (left x) (left y) = g x y
left_first g (left x) (right y) = not (g y x)
left_first g (right x) (left y) = g x y
left_first g (right x) (right y) = g x y

-- zs is xs and ys as one list: it holds the records of both, each once, those of one list in the order of that list
pub record Merged {X : Type 0} (g : X → X → Bool) (xs ys zs : List X) : Type 0 where
  pub sides : List (Sided X)
  pub all_are : map record_of sides ≡ zs
  pub left_are : lefts sides ≡ xs
  pub right_are : rights sides ≡ ys
  -- where both were in order it is in order, and on equal ticks the left ones come first
  pub ordered : InOrder g xs → InOrder g ys → InOrder g zs
  pub ties : InOrder g xs → InOrder g ys → InOrder (left_first g) sides

-- the merge of any two lists of triggers
abbrev pub MergeKeepsBoth : Type 0
MergeKeepsBoth = (xs ys : List Trigger) → Merged earlier xs ys (merge earlier xs ys)
