-- Text in parts: the pieces between a byte, and joined again.
use Rattle.std.specs.Prelude.{ℕ, Bool, true, false, cond, not, ◌&&◌, List, [], ◌∷◌, ◌++◌, Some, None, Option, ◌==◌}

-- newline, comma, minus sign, the sign between key and value
abbrev pub newline : ℕ
newline = 10

abbrev pub comma : ℕ
comma = 44

abbrev pub minus : ℕ
minus = 45

abbrev pub equals : ℕ
equals = 61

-- a byte put in front of the first piece
abbrev pub onto : ℕ → List (List ℕ) → List (List ℕ)
onto x [] = (x ∷ []) ∷ []
onto x (p ∷ ps) = (x ∷ p) ∷ ps

-- the pieces of a text between the bytes b; at least one, maybe empty
abbrev pub pieces : ℕ → List ℕ → List (List ℕ)
pieces b [] = [] ∷ []
pieces b (x ∷ xs) = cond (x == b) ([] ∷ pieces b xs) (onto x (pieces b xs))

-- pieces with the byte b between them
abbrev pub join : ℕ → List (List ℕ) → List ℕ
join b [] = []
join b (p ∷ []) = p
join b (p ∷ q ∷ ps) = p ++ (b ∷ join b (q ∷ ps))

-- the byte b is not in the text
abbrev pub free : ℕ → List ℕ → Bool
free b [] = true
free b (x ∷ xs) = not (x == b) && free b xs

abbrev pub ahead : ℕ → Option (List ℕ × List ℕ) → Option (List ℕ × List ℕ)
ahead x None = None
ahead x (Some p) = Some (x ∷ p.0, p.1)

-- what stands before and behind the first byte b
abbrev pub cut : ℕ → List ℕ → Option (List ℕ × List ℕ)
cut b [] = None
cut b (x ∷ xs) = cond (x == b) (Some ([], xs)) (ahead x (cut b xs))

-- the same bytes
abbrev pub same : List ℕ → List ℕ → Bool
same [] [] = true
same [] (y ∷ ys) = false
same (x ∷ xs) [] = false
same (x ∷ xs) (y ∷ ys) = x == y && same xs ys
