-- The text of lines in a row.
use Rattle.std.proofs.Common.{◌≡◌, ℕ, ◌+◌, ◌<◌, List, [], ◌∷◌, ◌++◌, map, length, get_or, take, Some, None, Option, sym, refl, ap, append_assoc, append-nil}
use Rattle.std.specs.List.{flat_map}
use Rattle.std.proofs.lemmas.List.{take_more}
use Rattle.std.proofs.lemmas.List.Concat.{flat_map_single}
use Rattle.std.proofs.lemmas.Grind.{flat_map-append}
use Rattle.sequence.specs.Growing.{used}
use Rattle.grammar.specs.Lines.{Item, text_of}
use Rattle.grammar.proofs.Leading.{text_append}
use Rattle.writer.specs.Places.{place_items}

-- the lines of a group, place by place
pub grouped : {X : Type 0} (f : X → Item) (xs : List (Option X)) → flat_map (place_items (λ x. f x ∷ [])) xs ≡ map f (used xs)
grouped f [] = refl
grouped f (None ∷ xs) = grouped f xs
grouped f (Some x ∷ xs) = ap (λ (z : List Item). f x ∷ z) (grouped f xs)

-- text of lines in a row, and of groups among them
pub ruleset in_a_row = (text_append, append_assoc, grouped, flat_map_single)

-- one part more
pub all_more : {X : Type 0} (f : X → List Item) (xs : List X) (i : ℕ) (x : X) → i < length xs → x ≡ get_or xs i x → text_of (flat_map f (take i xs)) ++ text_of (f x) ≡ text_of (flat_map f (take (i + 1) xs))
all_more f xs i x h e = simp (take_more xs i x h, sym e, flat_map-append, text_append, append-nil)

-- the lines of a sequence, kind by kind
pub six_kinds : (a b c d e f : List Item) → text_of a ++ (text_of b ++ (text_of c ++ (text_of d ++ (text_of e ++ text_of f)))) ≡ text_of (a ++ ((b ++ (c ++ (d ++ e))) ++ f))
six_kinds a b c d e f = simp (text_append, append_assoc)
