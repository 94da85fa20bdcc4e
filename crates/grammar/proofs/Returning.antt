-- What is written is read again, and what follows from that.
use Rattle.std.proofs.Common.{◌≡◌, ℕ, ◌≤◌, true, false, ◌&&◌, ltb, leb, List, [], ◌∷◌, ◌++◌, map, length, Ok, Err, Result, sym, ap, ◌∙◌, subst, arith}
use Rattle.std.specs.List.{flat_map}
use Rattle.std.proofs.lemmas.Bool.{and_parts, and_from, cond-false, eqb-true, leb-true, le-leb, le-ltb, ne_eqb}
use Rattle.parts.specs.declared.part.Counts.{Counts}
use Rattle.sequence.specs.Plan.{Plan, Valid, reached, complete}
use Rattle.sequence.specs.Building.{begun, none}
use Rattle.sequence.proofs.Sound.{Sound, sound_facts, reached_none}
use Rattle.lexical.specs.declared.fault.SequenceFault.{SequenceFault}
use Rattle.lexical.specs.declared.fault.SequenceFault.TheVariants.{TextTooLong}
use Rattle.lexical.specs.Bytes.{pieces, join, newline}
use Rattle.lexical.specs.Fields.{on}
use Rattle.grammar.specs.Lines.{text_of}
use Rattle.grammar.specs.Writing.{variable_item, task_items, location_items, edge_items, count_items, part_items, last_item, written}
use Rattle.grammar.specs.Reading.{read_lines, read_all, read_text, longest_text}
use Rattle.grammar.specs.Widths.{in_widths}
use Rattle.grammar.specs.Laws.{WrittenIsRead, OneSequenceToAText, RefusedIsNoSequence}
use Rattle.grammar.proofs.Narrow.{Narrow, narrow_facts}
use Rattle.grammar.proofs.Bytewise.{join_pieces}
use Rattle.grammar.proofs.Leading.{Leads, leads_more, ends_last, onward, counts_read}
use Rattle.grammar.proofs.Partwise.{with_tasks, with_locations, with_edges, leads_variables, leads_tasks, leads_locations, leads_edges, edges_follow}

-- a whole sequence has a location
filled : (p : Plan) → Sound p → complete p ≡ true → none p.locations ≡ false
filled p s h =
    let n = p.counts in
    let one = leb-true 1 n.automata (and_parts (leb 1 n.automata) (leb n.automata 8 && (leb n.clocks 16 && (leb n.triggers 16 && leb n.channels 8))) s.counts).0 in
    ne_eqb (length p.locations) 0 (λ e. omega (arith, reached_none p.locations e, eqb-true (reached 0 p.locations) n.automata h))

module _ (p : Plan) (v : Valid p) (w : in_widths p ≡ true) where
  sound : Sound p
  sound = sound_facts p v.0

  narrow : Narrow p
  narrow = narrow_facts p v.0 w

  there_are : none p.locations ≡ false
  there_are = filled p sound v.1

  leads_parts : Leads (begun p.counts) (part_items p) p
  leads_parts =
      let vs = map variable_item p.variables in
      let ts = flat_map task_items p.tasks in
      let ls = flat_map location_items p.locations in
      let es = flat_map edge_items p.edges in
      let tasks = with_tasks p narrow [] in
      let locations = with_locations p narrow [] in
      let edges = with_edges p narrow [] in
      leads_more (begun p.counts) tasks p vs (ts ++ (ls ++ es)) (leads_variables p narrow)
      (leads_more tasks locations p ts (ls ++ es) (leads_tasks p narrow)
      (leads_more locations edges p ls es (leads_locations p narrow) (leads_edges p narrow there_are v.1)))

  lines_read : (n : ℕ) (r : List ℕ) → read_lines (begun p.counts) n (pieces newline (text_of (part_items p ++ (last_item p ∷ [])) ++ r)) ≡ Ok (p, pieces newline r)
  lines_read n r =
      let a = leads_parts n (text_of (last_item p ∷ []) ++ r) in
      let g = and_from (leb 0 (length p.edges)) (leb (length p.edges) 128) (le-leb 0 (length p.edges) (omega arith)) (le-leb (length p.edges) 128 sound.few_edges) in
      ap (λ (t : List ℕ). read_lines (begun p.counts) n (pieces newline t)) (onward (part_items p) (last_item p ∷ []) r)
      ∙ (a.1 ∙ ends_last p (edges_follow p narrow there_are v.1 p.edges) g a.0 r)

  all_read : (r : List ℕ) → read_all (pieces newline (written p ++ r)) ≡ Ok (p, pieces newline r)
  all_read r =
      let rest = part_items p ++ (last_item p ∷ []) in
      ap (λ (t : List ℕ). read_all (pieces newline t)) (onward (count_items p.counts) rest r)
      ∙ (ap (λ (x : Result (Counts × List (List ℕ)) SequenceFault). on x (λ c. read_lines (begun c.0) 6 c.1)) (counts_read p.counts (text_of rest ++ r) sound.counts)
      ∙ lines_read 6 r)

  text_read : (r : List ℕ) → length (written p ++ r) ≤ longest_text → read_text (written p ++ r) ≡ Ok (p, r)
  text_read r h =
      let t = written p ++ r in
      cond-false (ltb longest_text (length t)) (Err TextTooLong) (on (read_all (pieces newline t)) (λ a. Ok (a.0, join newline a.1))) (le-ltb longest_text (length t) h)
      ∙ (ap (λ (x : Result (Plan × List (List ℕ)) SequenceFault). on x (λ a. Ok (a.0, join newline a.1))) (all_read r)
      ∙ ap (λ (x : List ℕ). Ok (p, x)) (join_pieces newline r))

pub written_is_read : WrittenIsRead
written_is_read p r v w h = text_read p v w r h

pub one_sequence_to_a_text : OneSequenceToAText
one_sequence_to_a_text p q r s v w x y h e =
    let a = text_read p v w r h in
    let b = text_read q x y s (subst (λ (t : List ℕ). length t ≤ longest_text) e h) in
    let c : ◌≡◌ {A = Result (Plan × List ℕ) SequenceFault} (Ok (p, r)) (Ok (q, s)) = sym a ∙ (ap read_text e ∙ b) in
    let d : (p, r) ≡ (q, s) = cc in
    (ap (λ (x : Plan × List ℕ). x.0) d, ap (λ (x : Plan × List ℕ). x.1) d)

pub refused_is_no_sequence : RefusedIsNoSequence
refused_is_no_sequence t e h l p r v w i =
    let a = text_read p v w r (subst (λ (t : List ℕ). length t ≤ longest_text) i l) in
    let b = ap read_text i in
    let z : ◌≡◌ {A = ℕ} 0 1 = cc in
    omega arith
