-- The search for a byte, and the pieces of a text by cuts.
use Rattle.std.proofs.Common.{◌≡◌, ◌≢◌, zero, suc, All, ℕ, ◌+◌, ◌-◌, ◌<◌, ◌≤◌, ◌⊎◌, inl, inr, Bool, true, false, cond, not, ◌&&◌, eqb, List, [], ◌∷◌, length, get_or, take, drop, Some, None, Option, refl, ap, ◌∙◌, subst, arith}
use Rattle.std.proofs.lemmas.List.{take_rest}
use Rattle.std.proofs.lemmas.List.Elements.{All-head, All-tail}
use Rattle.std.proofs.lemmas.Bool.{cases_lt, and_from, cond-true, cond-false, eq-eqb, ne_eqb, not_from_false}
use Rattle.lexical.specs.Bytes.{free, cut, ahead, pieces}
use Rattle.lexical.proofs.Parting.{cut_back, pieces_front, pieces_alone}

-- the byte is not b
abbrev pub IsNot : ℕ → ℕ → Type 0
IsNot b x = x ≢ b

pub cut_none : (b : ℕ) (xs : List ℕ) → All (IsNot b) xs → cut b xs ≡ None
cut_none b [] h = refl
cut_none b (x ∷ xs) h =
    cond-false (eqb x b) (Some ([], xs)) (ahead x (cut b xs)) (ne_eqb x b (All-head (IsNot b) x xs h)) ∙ ap (ahead x) (cut_none b xs (All-tail (IsNot b) x xs h))

-- the same, place by place
pub cut_nowhere : (b : ℕ) (xs : List ℕ) → ((k : ℕ) → k < length xs → get_or xs k 0 ≢ b) → cut b xs ≡ None
cut_nowhere b [] n = refl
cut_nowhere b (x ∷ xs) n =
    cond-false (eqb x b) (Some ([], xs)) (ahead x (cut b xs)) (ne_eqb x b (n 0 (omega arith))) ∙ ap (ahead x) (cut_nowhere b xs (λ k l. n (suc k) (omega arith)))

-- one place more that has another byte
pub other_further : (b : ℕ) (xs : List ℕ) (i : ℕ) → get_or xs i 0 ≢ b → ((k : ℕ) → k < i → get_or xs k 0 ≢ b) → (k : ℕ) → k < i + 1 → get_or xs k 0 ≢ b
other_further b xs i e n k l = go (cases_lt k i)
  where
    go : (k < i) ⊎ (i ≤ k) → get_or xs k 0 ≢ b
    go (inl h) = n k h
    go (inr h) = let s : i ≡ k = omega arith in subst (λ (j : ℕ). get_or xs j 0 ≢ b) s e

cut_first : (b : ℕ) (xs : List ℕ) (i : ℕ) → i < length xs → get_or xs i 0 ≡ b → ((k : ℕ) → k < i → get_or xs k 0 ≢ b) → cut b xs ≡ Some (take i xs, drop (i + 1) xs)
cut_first b [] i h e n = absurd (omega arith)
cut_first b (x ∷ xs) zero h e n = cond-true (eqb x b) (Some ([], xs)) (ahead x (cut b xs)) (eq-eqb x b e)
cut_first b (x ∷ xs) (suc i) h e n =
    let z : suc i + 1 ≡ suc (i + 1) = omega arith in
    rw z (cond-false (eqb x b) (Some ([], xs)) (ahead x (cut b xs)) (ne_eqb x b (n 0 (omega arith))) ∙ ap (ahead x) (cut_first b xs i (omega arith) e (λ k l. n (suc k) (omega arith))))

-- the text around its first byte b, at i, in the words of the two slices
pub cut_found : (b : ℕ) (xs : List ℕ) (i : ℕ) → i < length xs → get_or xs i 0 ≡ b → ((k : ℕ) → k < i → get_or xs k 0 ≢ b) → cut b xs ≡ Some (take i xs, take (length xs - (i + 1)) (drop (i + 1) xs))
cut_found b xs i h e n = rw take_rest (cut_first b xs i h e n)

-- what is cut off has no such byte
pub cut_free : (b : ℕ) (t : List ℕ) (p : List ℕ × List ℕ) → cut b t ≡ Some p → free b p.0 ≡ true
cut_free b [] p e = absurd (let z : ◌≡◌ {A = ℕ} 0 1 = cc in omega arith)
cut_free b (x ∷ xs) p e = go (eqb x b) refl (cut b xs) (cut_free b xs) e
  where
    go : (c : Bool) → eqb x b ≡ c → (o : Option (List ℕ × List ℕ)) → ((q : List ℕ × List ℕ) → o ≡ Some q → free b q.0 ≡ true) → cond c (Some ([], xs)) (ahead x o) ≡ Some p → free b p.0 ≡ true
    go true h o ih f =
        let q : ([], xs) ≡ p = cc in
        subst (λ (r : List ℕ × List ℕ). free b r.0 ≡ true) q refl
    go false h None ih f = absurd (let z : ◌≡◌ {A = ℕ} 0 1 = cc in omega arith)
    go false h (Some r) ih f =
        let q : (x ∷ r.0, r.1) ≡ p = cc in
        subst (λ (s : List ℕ × List ℕ). free b s.0 ≡ true) q (and_from (not (eqb x b)) (free b r.0) (not_from_false (eqb x b) h) (ih r refl))

pub free_none : (b : ℕ) (t : List ℕ) → cut b t ≡ None → free b t ≡ true
free_none b [] e = refl
free_none b (x ∷ xs) e = go (eqb x b) refl (cut b xs) (free_none b xs) e
  where
    go : (c : Bool) → eqb x b ≡ c → (o : Option (List ℕ × List ℕ)) → (o ≡ None → free b xs ≡ true) → cond c (Some ([], xs)) (ahead x o) ≡ None → (not (eqb x b) && free b xs) ≡ true
    go true h o ih f = absurd (let z : ◌≡◌ {A = ℕ} 0 1 = cc in omega arith)
    go false h None ih f = and_from (not (eqb x b)) (free b xs) (not_from_false (eqb x b) h) (ih refl)
    go false h (Some r) ih f = absurd (let z : ◌≡◌ {A = ℕ} 0 1 = cc in omega arith)

pub pieces_cut : (b : ℕ) (t : List ℕ) (p : List ℕ × List ℕ) → cut b t ≡ Some p → pieces b t ≡ p.0 ∷ pieces b p.1
pieces_cut b t p e = ap (pieces b) (cut_back b t p e) ∙ pieces_front b p.0 p.1 (cut_free b t p e)

pub pieces_none : (b : ℕ) (t : List ℕ) → cut b t ≡ None → pieces b t ≡ t ∷ []
pieces_none b t e = pieces_alone b t (free_none b t e)
