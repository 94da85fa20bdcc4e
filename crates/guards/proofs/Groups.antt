-- The used places of a group.
use Rattle.std.proofs.Common.{◌≡◌, ◌≤◌, Bool, true, false, cond, ◌&&◌, List, [], ◌∷◌, ◌++◌, length, Some, None, Option, Bor, sym, refl, ap, ◌∙◌, subst}
use Rattle.std.proofs.lemmas.Bool.{false≢true}
use Rattle.std.proofs.lemmas.Option.{none-some}
use Rattle.std.specs.List.{list_all, flat_map}
use Rattle.std.specs.Option.{option_to_list, option_copied, option_len}
use Rattle.std.specs.Bool.{IsTrue, MatchBool}
use Rattle.std.specs.declared.option.Iter.{OptionIter}
use Rattle.std.specs.declared.slice.Iter.{Iter}
use Rattle.std.specs.declared.iter.Flatten.{Flatten}
use Rattle.std.specs.Slice.Iter.{iter_rest}
use Rattle.std.specs.Iterator.Adapters.{option_iter_item, option_iter_done, option_iter_steps, OptionIterYieldsItsItem, flatten_source, flatten_front, flatten_back, flatten_done, flatten_steps}
use Rattle.std.proofs.iter.Yields.{fronts}
use Rattle.std.proofs.lemmas.Iterator.{YieldsList, YieldsList-from_slice}
use Rattle.std.proofs.lemmas.Iterator.Adapters.{YieldsList-from_flatten}
use Rattle.std.proofs.lemmas.Iterator.Consumers.{YieldsList-from_shown}
use Rattle.runs.specs.Guards.{if_used}

pub and_true : (a : Bool) → (a && true) ≡ a
and_true true = refl
and_true false = refl

and_assoc : (a b c : Bool) → (a && (b && c)) ≡ ((a && b) && c)
and_assoc true b c = refl
and_assoc false b c = refl

abbrev pub used : {X : Type 0} → List (Option X) → List X
used xs = flat_map option_to_list xs

-- a walk over all places, for which those that are not in use pass, looks at the used ones
pub all_used : {X : Type 0} (all : List (Option X) → Bool) (test : X → Bool) → all [] ≡ true → ((x : Option X) (xs : List (Option X)) → all (x ∷ xs) ≡ (if_used x test && all xs)) → (xs : List (Option X)) → all xs ≡ list_all test (used xs)
all_used all test none more [] = none
all_used all test none more (None ∷ xs) = more None xs ∙ all_used all test none more xs
all_used all test none more (Some x ∷ xs) = more (Some x) xs ∙ ap (λ b. test x && b) (all_used all test none more xs)

-- the same over all places, each asked whether it passes
pub all_pass : {X : Type 0} (all : List (Option X) → Bool) (test : X → Bool) → all [] ≡ true → ((x : Option X) (xs : List (Option X)) → all (x ∷ xs) ≡ (if_used x test && all xs)) → (xs : List (Option X)) → all xs ≡ list_all (λ x. if_used x test) xs
all_pass all test none more [] = none
all_pass all test none more (x ∷ xs) = more x xs ∙ ap (λ b. if_used x test && b) (all_pass all test none more xs)

-- one more
pub all_push : {X : Type 0} (test : X → Bool) (xs : List X) (x : X) → list_all test (xs ++ (x ∷ [])) ≡ (list_all test xs && test x)
all_push test [] x = and_true (test x)
all_push test (y ∷ xs) x = ap (λ b. test y && b) (all_push test xs x) ∙ and_assoc (test y) (list_all test xs) (test x)

-- the iterator over a place gives the part in it, if it is used
none_left : {X : Type 0} (done : Bool) (o : Option X) → MatchBool done (◌≡◌ {A = Option (Bor X)} None None) (option_copied None ≡ o) → length (cond done [] (option_to_list o)) ≡ 0
none_left true o h = refl
none_left false o h = ap (λ p. length (option_to_list p)) (sym h)

one_left : {X : Type 0} (done after : Bool) (o p : Option X) (x : Bor X) → IsTrue after → MatchBool done (Some x ≡ None) (option_copied (Some x) ≡ o) → cond done [] (option_to_list o) ≡ (x.now ∷ cond after [] (option_to_list p))
one_left true after o p x t h = absurd (none-some x (sym h))
one_left false true o p x t h = ap option_to_list (sym h)
one_left false false o p x t h = absurd (false≢true t)

part_of : {X : Type 0} (place : Bor (Option X)) (s : OptionIter X) → option_iter_item s ≡ place.now → option_iter_done s ≡ false → YieldsList option_iter_steps (λ x. x.now) s (option_to_list place.now)
part_of place s item fresh =
    let shown = λ (t : _). cond (option_iter_done t) [] (option_to_list (option_iter_item t)) in
    let e : shown s ≡ option_to_list place.now = ap (λ d. cond d [] (option_to_list (option_iter_item s))) fresh ∙ ap option_to_list item in
    subst (YieldsList option_iter_steps (λ x. x.now) s) e (YieldsList-from_shown option_iter_steps (λ x. x.now) shown (λ t u h. none_left (option_iter_done t) (option_iter_item t) h.1) (λ t x u h. one_left (option_iter_done t) (option_iter_done u) (option_iter_item t) (option_iter_item u) x h.0 h.1) s)

-- an iterator over the part in a place, as `flatten` opens it
abbrev pub Opens : {X : Type 0} → Bor (Option X) → OptionIter X → Type 0
Opens {X} place s = (option_iter_item s ≡ place.now) × (option_iter_done s ≡ false) × (cond (option_iter_done s) 0 (option_len (option_iter_item s)) ≤ 1) × OptionIterYieldsItsItem X

abbrev pub used_steps : {X : Type 0} → Flatten (Iter (Option X)) (OptionIter X) → Option (Bor X) → Flatten (Iter (Option X)) (OptionIter X) → Type 0
used_steps = flatten_steps fronts Opens option_iter_steps

-- the iterator over all places gives the parts in use
pub used_of : {X : Type 0} (s : Flatten (Iter (Option X)) (OptionIter X)) (xs : List (Option X)) → iter_rest (flatten_source s) ≡ xs → flatten_front s ≡ None → flatten_back s ≡ None → flatten_done s ≡ false → YieldsList used_steps (λ x. x.now) s (used xs)
used_of s xs rest front back done = YieldsList-from_flatten Opens option_iter_steps (λ x. x.now) option_to_list (λ x j b. part_of x j b.0 b.1) (YieldsList-from_slice xs rest) front back done
