-- From the counts and the lines to the whole text.
use Rattle.std.proofs.Common.{◌≡◌, ℕ, ◌≤◌, true, false, List, ◌++◌, length, Ok, Err, Result, refl, sym, ap, ◌∙◌, arith}
use Rattle.std.specs.Result.{IsOk, MatchResult}
use Rattle.std.proofs.lemmas.List.{length-append}
use Rattle.std.proofs.lemmas.Bool.{cond-true, cond-false, le-ltb}
use Rattle.parts.specs.declared.part.Counts.{Counts}
use Rattle.parts.specs.declared.part.Rule.{Rule}
use Rattle.parts.specs.Limits.{counts_fit}
use Rattle.lexical.specs.declared.fault.SequenceFault.{SequenceFault}
use Rattle.lexical.specs.Bytes.{pieces, join, newline}
use Rattle.lexical.specs.Fields.{on}
use Rattle.lexical.proofs.Parting.{join_pieces}
use Rattle.sequence.specs.Plan.{Plan, complete}
use Rattle.sequence.specs.Building.{begun, begin}
use Rattle.sequence.proofs.Sound.{sound_facts, begun_sound}
use Rattle.grammar.specs.Lines.{text_of}
use Rattle.grammar.specs.Writing.{count_items}
use Rattle.grammar.specs.Reading.{read_counts, read_lines, read_all, read_text, longest_text}
use Rattle.grammar.proofs.Narrow.{begun_widths}
use Rattle.grammar.proofs.Reread.{rejoined, reads_on, counts_back, read_is_written}
use Rattle.reader.specs.Outcomes.{Reads}

-- a result that cannot be an error
pub only_ok : {A E : Type 0} (P : A → Type 0) (Q : E → Type 0) (r : Result A E) → MatchResult r P Q → ((e : E) → Q e → ⊥) → IsOk r
only_ok P Q (Ok x) h never = refl
only_ok P Q (Err e) h never = absurd (never e h)

module _ (t : List ℕ) where
  module _ (short : length t ≤ longest_text) where
    within : read_text t ≡ on (read_all (pieces newline t)) rejoined
    within = cond-false _ _ _ (le-ltb longest_text (length t) short)

    module _ (c : Counts) (l : List ℕ) (h : read_counts (pieces newline t) ≡ Ok (c, pieces newline l)) where
      counts_read : (join newline (pieces newline t) ≡ text_of (count_items c) ++ join newline (pieces newline l)) × (counts_fit c ≡ true)
      counts_read = counts_back (pieces newline t) c (pieces newline l) h

      pub fit : counts_fit c ≡ true
      fit = counts_read.1

      pub left : length l ≤ longest_text
      left =
          let e : t ≡ text_of (count_items c) ++ l = sym (join_pieces newline t) ∙ (counts_read.0 ∙ ap (λ x. text_of (count_items c) ++ x) (join_pieces newline l)) in
          omega (arith, ap length e, length-append (text_of (count_items c)) l)

      begin_ok : begin c ≡ Ok (begun c)
      begin_ok = cond-true _ _ _ fit

      pub never_refused : (rule : Rule) → begin c ≡ Err rule → ⊥
      never_refused rule e = let i = begin_ok in cc

      pub begun_as : (p : Plan) → begin c ≡ Ok p → begun c ≡ p
      begun_as p e = let i = begin_ok in cc

      module _ (p : Plan) (b : begun c ≡ p) where
        behind_counts : read_text t ≡ on (read_lines p 6 (pieces newline l)) rejoined
        behind_counts =
            within ∙ (ap (λ r. on (on r (λ (x : Counts × List (List ℕ)). read_lines (begun x.0) 6 x.1)) rejoined) h
            ∙ ap (λ x. on (read_lines x 6 (pieces newline l)) rejoined) b)

        pub bad_line : (e : SequenceFault) → read_lines p 6 (pieces newline l) ≡ Err e → read_text t ≡ Err e
        bad_line e k = behind_counts ∙ ap (λ r. on r rejoined) k

        module _ (q : Plan) (rest : List ℕ) (k : read_lines p 6 (pieces newline l) ≡ Ok (q, pieces newline rest)) where
          pub all_there : complete q ≡ true
          all_there =
              let k : read_lines (begun c) 6 (pieces newline l) ≡ Ok (q, pieces newline rest) = ap (λ x. read_lines x 6 (pieces newline l)) b ∙ k in
              (reads_on (pieces newline l) (begun c) 6 q (pieces newline rest) (sound_facts (begun c) (begun_sound c fit)) (begun_widths c) k).valid.1

          pub never_unfinished : complete q ≡ false → ⊥
          never_unfinished h = let i = all_there in cc

          pub all_read : Reads t q rest
          all_read =
              let e : read_text t ≡ Ok (q, rest) = behind_counts ∙ (ap (λ r. on r rejoined) k ∙ ap (λ x. Ok (q, x)) (join_pieces newline rest)) in
              record { read = e; whole = read_is_written t q rest e }
