-- Text in pieces and joined again, cut at a byte, and compared.
use Rattle.std.proofs.Common.{◌≡◌, ◌≢◌, ℕ, Bool, true, false, cond, not, eqb, List, [], ◌∷◌, ◌++◌, Some, None, Option, sym, refl, ap, ◌∙◌, subst, arith}
use Rattle.std.proofs.lemmas.Bool.{and_parts, and_from, not-true, cond-true, cond-false, cond_both, eq-eqb, eqb-true}
use Rattle.lexical.specs.Bytes.{onto, pieces, join, free, ahead, cut, same}

-- the first piece ends at the first b
pub pieces_front : (b : ℕ) (l t : List ℕ) → free b l ≡ true → pieces b (l ++ (b ∷ t)) ≡ l ∷ pieces b t
pieces_front b [] t h = cond-true (eqb b b) ([] ∷ pieces b t) (onto b (pieces b t)) (eq-eqb b b refl)
pieces_front b (x ∷ l) t h =
    let p = and_parts (not (eqb x b)) (free b l) h in
    cond-false (eqb x b) ([] ∷ pieces b (l ++ (b ∷ t))) (onto x (pieces b (l ++ (b ∷ t)))) (not-true (eqb x b) p.0) ∙ ap (onto x) (pieces_front b l t p.1)

-- a text without b is one piece
pub pieces_alone : (b : ℕ) (l : List ℕ) → free b l ≡ true → pieces b l ≡ l ∷ []
pieces_alone b [] h = refl
pieces_alone b (x ∷ l) h =
    let p = and_parts (not (eqb x b)) (free b l) h in
    cond-false (eqb x b) ([] ∷ pieces b l) (onto x (pieces b l)) (not-true (eqb x b) p.0) ∙ ap (onto x) (pieces_alone b l p.1)

-- there is at least one piece
abbrev pub some : List (List ℕ) → Bool
some [] = false
some (p ∷ ps) = true

pub pieces_some : (b : ℕ) (t : List ℕ) → some (pieces b t) ≡ true
pieces_some b [] = refl
pieces_some b (x ∷ xs) = cond_both (eqb x b) ([] ∷ pieces b xs) (onto x (pieces b xs)) (λ ps. some ps ≡ true) (λ _. refl) (λ _. onto_some (pieces b xs))
  where
    onto_some : (ps : List (List ℕ)) → some (onto x ps) ≡ true
    onto_some [] = refl
    onto_some (p ∷ ps) = refl

pub join_more : (b : ℕ) (p : List ℕ) (ps : List (List ℕ)) → some ps ≡ true → join b (p ∷ ps) ≡ p ++ (b ∷ join b ps)
join_more b p [] h = absurd (let z : ◌≡◌ {A = ℕ} 0 1 = cc in omega arith)
join_more b p (q ∷ ps) h = refl

join_onto : (b x : ℕ) (ps : List (List ℕ)) → join b (onto x ps) ≡ x ∷ join b ps
join_onto b x [] = refl
join_onto b x (p ∷ []) = refl
join_onto b x (p ∷ q ∷ ps) = refl

-- pieces joined give the text again
pub join_pieces : (b : ℕ) (t : List ℕ) → join b (pieces b t) ≡ t
join_pieces b [] = refl
join_pieces b (x ∷ xs) =
    cond_both (eqb x b) ([] ∷ pieces b xs) (onto x (pieces b xs)) (λ ps. join b ps ≡ x ∷ xs)
    (λ e. join_more b [] (pieces b xs) (pieces_some b xs) ∙ (ap (λ y. y ∷ join b (pieces b xs)) (sym (eqb-true x b e)) ∙ ap (λ l. x ∷ l) (join_pieces b xs)))
    (λ e. join_onto b x (pieces b xs) ∙ ap (λ l. x ∷ l) (join_pieces b xs))

pub cut_front : (b : ℕ) (l t : List ℕ) → free b l ≡ true → cut b (l ++ (b ∷ t)) ≡ Some (l, t)
cut_front b [] t h = cond-true (eqb b b) (Some ([], t)) (ahead b (cut b t)) (eq-eqb b b refl)
cut_front b (x ∷ l) t h =
    let p = and_parts (not (eqb x b)) (free b l) h in
    cond-false (eqb x b) (Some ([], l ++ (b ∷ t))) (ahead x (cut b (l ++ (b ∷ t)))) (not-true (eqb x b) p.0) ∙ ap (ahead x) (cut_front b l t p.1)

-- the two sides of a cut give the text again
pub cut_back : (b : ℕ) (t : List ℕ) (p : List ℕ × List ℕ) → cut b t ≡ Some p → t ≡ p.0 ++ (b ∷ p.1)
cut_back b [] p e = absurd (let z : ◌≡◌ {A = ℕ} 0 1 = cc in omega arith)
cut_back b (x ∷ xs) p e = go (eqb x b) refl (cut b xs) (cut_back b xs) e
  where
    go : (c : Bool) → eqb x b ≡ c → (o : Option (List ℕ × List ℕ)) → ((q : List ℕ × List ℕ) → o ≡ Some q → xs ≡ q.0 ++ (b ∷ q.1)) → cond c (Some ([], xs)) (ahead x o) ≡ Some p → x ∷ xs ≡ p.0 ++ (b ∷ p.1)
    go true h o ih f =
        let q : ([], xs) ≡ p = cc in
        subst (λ (r : List ℕ × List ℕ). x ∷ xs ≡ r.0 ++ (b ∷ r.1)) q (ap (λ y. y ∷ xs) (eqb-true x b h))
    go false h None ih f = absurd (let z : ◌≡◌ {A = ℕ} 0 1 = cc in omega arith)
    go false h (Some r) ih f =
        let q : (x ∷ r.0, r.1) ≡ p = cc in
        subst (λ (s : List ℕ × List ℕ). x ∷ xs ≡ s.0 ++ (b ∷ s.1)) q (ap (λ l. x ∷ l) (ih r refl))

pub same_true : (xs ys : List ℕ) → same xs ys ≡ true → xs ≡ ys
same_true [] [] h = refl
same_true [] (y ∷ ys) h = absurd (let z : ◌≡◌ {A = ℕ} 0 1 = cc in omega arith)
same_true (x ∷ xs) [] h = absurd (let z : ◌≡◌ {A = ℕ} 0 1 = cc in omega arith)
same_true (x ∷ xs) (y ∷ ys) h =
    let p = and_parts (eqb x y) (same xs ys) h in
    ap (λ z. z ∷ xs) (eqb-true x y p.0) ∙ ap (λ zs. y ∷ zs) (same_true xs ys p.1)

pub same_false : (xs ys : List ℕ) → xs ≢ ys → same xs ys ≡ false
same_false xs ys n = go (same xs ys) refl
  where
    go : (c : Bool) → same xs ys ≡ c → c ≡ false
    go true s = absurd (n (same_true xs ys s))
    go false s = refl

pub free_append : (b : ℕ) (xs ys : List ℕ) → free b xs ≡ true → free b ys ≡ true → free b (xs ++ ys) ≡ true
free_append b [] ys h k = k
free_append b (x ∷ xs) ys h k =
    let p = and_parts (not (eqb x b)) (free b xs) h in
    and_from (not (eqb x b)) (free b (xs ++ ys)) p.0 (free_append b xs ys p.1 k)
