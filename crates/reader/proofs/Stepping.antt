-- One turn of the reading loop.
use Rattle.std.proofs.Common.{◌≡◌, ℕ, ◌+◌, true, List, [], ◌∷◌, length, Some, None, Ok, Err, sym, refl, ap, ◌∙◌, subst, arith}
use Rattle.std.proofs.lemmas.List.{length-append}
use Rattle.lexical.specs.declared.fault.SequenceFault.{SequenceFault}
use Rattle.lexical.specs.Bytes.{pieces, cut, newline}
use Rattle.lexical.proofs.Parting.{some, pieces_some, cut_back}
use Rattle.lexical.proofs.Cutting.{pieces_cut, pieces_none}
use Rattle.sequence.specs.Plan.{Plan}
use Rattle.grammar.specs.Reading.{take_line, go_on, read_lines, malformed}
use Rattle.reader.specs.declared.take.Taken.{Taken}
use Rattle.reader.specs.declared.take.Taken.TheVariants.{More, Last}
use Rattle.reader.specs.Taking.{Takes}

-- pieces are never none
begins : (b : ℕ) (t : List ℕ) → (p : List ℕ) × (ps : List (List ℕ)) × (pieces b t ≡ p ∷ ps)
begins b t = go (pieces b t) (pieces_some b t)
  where
    go : (ps : List (List ℕ)) → some ps ≡ true → (q : List ℕ) × (qs : List (List ℕ)) × (ps ≡ q ∷ qs)
    go [] h = absurd cc
    go (q ∷ qs) h = (q, qs, refl)

pub shorter : (rest l m : List ℕ) → cut newline rest ≡ Some (l, m) → length l + (length m + 1) ≡ length rest
shorter rest l m c = omega (arith, ap length (cut_back newline rest (l, m) c), length-append l (newline ∷ m))

module _ (p : Plan) (n : ℕ) (rest l m : List ℕ) (c : cut newline rest ≡ Some (l, m)) where
  pub turn : read_lines p n (pieces newline rest) ≡ go_on (take_line p n l) p (pieces newline m) (λ q. read_lines q (n + 1) (pieces newline m))
  turn =
      let b = begins newline m in
      ap (read_lines p n) (pieces_cut newline rest (l, m) c)
      ∙ subst (λ (x : List (List ℕ)). read_lines p n (l ∷ x) ≡ go_on (take_line p n l) p x (λ q. read_lines q (n + 1) x)) (sym b.2) refl

  -- the last line, at which nothing changes
  pub at_last : (q : Plan) (t : Taken) → t ≡ Last → Takes (take_line p n l) p q (Ok t) → read_lines p n (pieces newline rest) ≡ Ok (q, pieces newline m)
  at_last q Last e h =
      turn ∙ (ap (λ r. go_on r p (pieces newline m) (λ q. read_lines q (n + 1) (pieces newline m))) h.0 ∙ ap (λ (x : Plan). Ok (x, pieces newline m)) (sym h.1))
  at_last q More e h = cc

  pub at_more : (q : Plan) (t : Taken) → t ≡ More → Takes (take_line p n l) p q (Ok t) → read_lines p n (pieces newline rest) ≡ read_lines q (n + 1) (pieces newline m)
  at_more q More e h = turn ∙ ap (λ r. go_on r p (pieces newline m) (λ q. read_lines q (n + 1) (pieces newline m))) h
  at_more q Last e h = cc

  pub at_fault : (q : Plan) (e : SequenceFault) → Takes (take_line p n l) p q (Err e) → read_lines p n (pieces newline rest) ≡ Err e
  at_fault q e h = turn ∙ ap (λ r. go_on r p (pieces newline m) (λ q. read_lines q (n + 1) (pieces newline m))) h.0

pub no_line : (p : Plan) (n : ℕ) (rest : List ℕ) → cut newline rest ≡ None → read_lines p n (pieces newline rest) ≡ malformed n
no_line p n rest c = ap (read_lines p n) (pieces_none newline rest c)
