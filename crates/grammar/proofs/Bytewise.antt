-- Text parted at a byte that its parts do not hold.
use Rattle.std.proofs.Common.{◌≡◌, ℕ, Bool, true, false, not, eqb, List, [], ◌∷◌, ◌++◌, Some, sym, refl, ap, ◌∙◌, arith}
use Rattle.std.proofs.lemmas.Bool.{and_parts, and_from, not-true, cond-true, cond-false, cond_both, eq-eqb, eqb-true}
use Rattle.lexical.specs.Bytes.{onto, pieces, join, free, ahead, cut}

module _ (b : ℕ) where
  -- a byte ends the first piece
  pub pieces_front : (l t : List ℕ) → free b l ≡ true → pieces b (l ++ (b ∷ t)) ≡ l ∷ pieces b t
  pieces_front [] t h = cond-true _ _ _ (eq-eqb b b refl)
  pieces_front (x ∷ l) t h =
      let p = and_parts (not (eqb x b)) (free b l) h in
      cond-false _ _ _ (not-true _ p.0) ∙ ap (onto x) (pieces_front l t p.1)

  pub pieces_alone : (l : List ℕ) → free b l ≡ true → pieces b l ≡ l ∷ []
  pieces_alone [] h = refl
  pieces_alone (x ∷ l) h =
      let p = and_parts (not (eqb x b)) (free b l) h in
      cond-false _ _ _ (not-true _ p.0) ∙ ap (onto x) (pieces_alone l p.1)

  pub cut_front : (l t : List ℕ) → free b l ≡ true → cut b (l ++ (b ∷ t)) ≡ Some (l, t)
  cut_front [] t h = cond-true _ _ _ (eq-eqb b b refl)
  cut_front (x ∷ l) t h =
      let p = and_parts (not (eqb x b)) (free b l) h in
      cond-false _ _ _ (not-true _ p.0) ∙ ap (ahead x) (cut_front l t p.1)

  pub free_append : (xs ys : List ℕ) → free b xs ≡ true → free b ys ≡ true → free b (xs ++ ys) ≡ true
  free_append [] ys h k = k
  free_append (x ∷ xs) ys h k =
      let p = and_parts (not (eqb x b)) (free b xs) h in
      and_from _ _ p.0 (free_append xs ys p.1 k)

-- there is a piece
abbrev pub some : List (List ℕ) → Bool
some [] = false
some (p ∷ ps) = true

onto_some : (x : ℕ) (ps : List (List ℕ)) → some (onto x ps) ≡ true
onto_some x [] = refl
onto_some x (p ∷ ps) = refl

pub pieces_some : (b : ℕ) (t : List ℕ) → some (pieces b t) ≡ true
pieces_some b [] = refl
pieces_some b (x ∷ xs) = cond_both (eqb x b) ([] ∷ pieces b xs) (onto x (pieces b xs)) (λ ps. some ps ≡ true) (λ _. refl) (λ _. onto_some x (pieces b xs))

join_more : (b : ℕ) (p : List ℕ) (ps : List (List ℕ)) → some ps ≡ true → join b (p ∷ ps) ≡ p ++ (b ∷ join b ps)
join_more b p [] h = absurd (let z : ◌≡◌ {A = ℕ} 0 1 = cc in omega arith)
join_more b p (q ∷ ps) h = refl

join_onto : (b x : ℕ) (ps : List (List ℕ)) → join b (onto x ps) ≡ x ∷ join b ps
join_onto b x [] = refl
join_onto b x (p ∷ []) = refl
join_onto b x (p ∷ q ∷ ps) = refl

pub join_pieces : (b : ℕ) (t : List ℕ) → join b (pieces b t) ≡ t
join_pieces b [] = refl
join_pieces b (x ∷ xs) =
    cond_both (eqb x b) ([] ∷ pieces b xs) (onto x (pieces b xs)) (λ ps. join b ps ≡ x ∷ xs)
    (λ e. join_more b [] (pieces b xs) (pieces_some b xs) ∙ (ap (λ y. y ∷ join b (pieces b xs)) (sym (eqb-true x b e)) ∙ ap (λ l. x ∷ l) (join_pieces b xs)))
    (λ e. join_onto b x (pieces b xs) ∙ ap (λ l. x ∷ l) (join_pieces b xs))
