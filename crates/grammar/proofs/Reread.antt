-- What is read is what would be written, breaks no limit and is in its widths.
use Rattle.std.proofs.Common.{◌≡◌, ℕ, ◌+◌, ◌<◌, Bool, true, false, cond, ◌&&◌, ltb, leb, ◌⊎◌, List, [], ◌∷◌, ◌++◌, length, Ok, Err, decimal, Result, sym, refl, ap, ◌∙◌, subst, inl, inr, arith}
use Rattle.std.proofs.lemmas.List.{append_assoc}
use Rattle.std.proofs.lemmas.Bool.{and_parts, and_from, leb-true}
use Rattle.parts.specs.declared.part.Counts.{Counts}
use Rattle.parts.specs.Limits.{counts_fit}
use Rattle.sequence.specs.Plan.{Plan, Valid}
use Rattle.sequence.specs.Building.{begun}
use Rattle.sequence.proofs.Sound.{Sound, sound_facts, sound_from, begun_sound}
use Rattle.lexical.specs.declared.fault.LineFault.TheVariants.{Malformed, KeyNotAllowed}
use Rattle.lexical.specs.declared.fault.SequenceFault.{SequenceFault}
use Rattle.lexical.specs.declared.fault.SequenceFault.TheVariants.{Line, TextTooLong}
use Rattle.lexical.specs.declared.key.Key.{Key}
use Rattle.lexical.specs.declared.key.Key.TheVariants.{Form, Autos, Clocks, Triggers, Chans}
use Rattle.lexical.specs.Bytes.{pieces, join, same, comma, equals, newline}
use Rattle.lexical.specs.Faults.{place}
use Rattle.lexical.specs.Keys.{key_bytes}
use Rattle.lexical.specs.Fields.{on, one, count}
use Rattle.grammar.specs.Lines.{Item, line_of, text_of}
use Rattle.grammar.specs.Writing.{count_items, part_items, last_item, written}
use Rattle.grammar.specs.Reading.{longest_text, key_and_value, value_place, counted, count_line, read_counts, Step, more, done, take_line, go_on, read_lines, read_all, read_text}
use Rattle.grammar.specs.Widths.{in_widths}
use Rattle.grammar.specs.Laws.{ReadIsWritten, ReadIsValid, ReadOrRefused}
use Rattle.grammar.proofs.Parsing.{not_ok, on_ok, cond_ok, join_pieces, same_true, one_back, count_back}
use Rattle.grammar.proofs.Accepting.{keyed_back, take_back}
use Rattle.grammar.proofs.Appending.{GoesOn, leads}
use Rattle.grammar.proofs.Narrow.{InWidths, widths_facts, widths_from, begun_widths}

-- ---- the lines behind the counts

-- the lines read from p on are those of q that p lacks, and the last one
pub record ReadsOn (p : Plan) (ls : List (List ℕ)) (q : Plan) (rest : List (List ℕ)) : Type 0 where
  pub items : List Item
  pub counts : q.counts ≡ p.counts
  pub whole : part_items p ++ items ≡ part_items q ++ last_item q ∷ []
  pub bytes : join newline ls ≡ text_of items ++ join newline rest
  pub valid : Valid q
  pub widths : in_widths q ≡ true

pub reads_on : (ls : List (List ℕ)) (p : Plan) (n : ℕ) (q : Plan) (rest : List (List ℕ)) → Sound p → InWidths p → read_lines p n ls ≡ Ok (q, rest) → ReadsOn p ls q rest
reads_on [] p n q rest s w e = not_ok (Line (Malformed (place n 1))) (q, rest) e
reads_on (l ∷ []) p n q rest s w e = not_ok (Line (Malformed (place n 1))) (q, rest) e
reads_on (l ∷ m ∷ ls) p n q rest s w e = go (take_line p n l) refl (λ t. reads_on (m ∷ ls) t (n + 1) q rest) e
  where
    go : (r : Result Step SequenceFault) → take_line p n l ≡ r → ((t : Plan) → Sound t → InWidths t → read_lines t (n + 1) (m ∷ ls) ≡ Ok (q, rest) → ReadsOn t (m ∷ ls) q rest) → go_on r p (m ∷ ls) (λ t. read_lines t (n + 1) (m ∷ ls)) ≡ Ok (q, rest) → ReadsOn p (l ∷ m ∷ ls) q rest
    go (Err f) h ih e = not_ok f (q, rest) e
    go (Ok (more t)) h ih e =
        let a = take_back p n l (more t) h in
        let i : Item = (a.key, a.fields) in
        let b : GoesOn p i t = leads p s w a.key a.at a.fields (more t) a.here a.fits a.good a.does in
        let c = ih t (sound_facts t b.sound) (widths_facts t b.widths) e in
        record {
          items = i ∷ c.items;
          counts = c.counts ∙ b.counts;
          whole = sym (append_assoc (part_items p) (i ∷ []) c.items) ∙ (ap (λ (x : List Item). x ++ c.items) (sym b.items) ∙ c.whole);
          bytes = ap (λ (x : List ℕ). x ++ (newline ∷ join newline (m ∷ ls))) a.line
              ∙ (ap (λ (x : List ℕ). line_of i ++ (newline ∷ x)) c.bytes ∙ sym (append_assoc (line_of i) (newline ∷ text_of c.items) (join newline rest)));
          valid = c.valid;
          widths = c.widths;
        }
    go (Ok done) h ih e =
        let a = take_back p n l done h in
        let i : Item = (a.key, a.fields) in
        let b = leads p s w a.key a.at a.fields done a.here a.fits a.good a.does in
        let pair : (p, m ∷ ls) ≡ (q, rest) = cc in
        subst (λ (x : Plan × List (List ℕ)). ReadsOn p (l ∷ m ∷ ls) x.0 x.1) pair (record {
          items = i ∷ [];
          counts = refl;
          whole = ap (λ (x : Item). part_items p ++ x ∷ []) b.1;
          bytes = ap (λ (x : List ℕ). x ++ (newline ∷ join newline (m ∷ ls))) a.line ∙ sym (append_assoc (line_of i) (newline ∷ []) (join newline (m ∷ ls)));
          valid = (sound_from p s, b.0);
          widths = widths_from p w;
        })

-- ---- the counts

counted_back : (k : Key) (low high n : ℕ) → high < 256 → (v : List ℕ × List ℕ) (c : ℕ) → counted k low high n v ≡ Ok c → (v.0 ≡ key_bytes k) × (decimal c ≡ v.1) × ((leb low c && leb c high) ≡ true)
counted_back k low high n u v c e =
    let a = cond_ok (same v.0 (key_bytes k)) ((one (count low high)).parse (value_place n v.0) (pieces comma v.1)) (Line (KeyNotAllowed (place n 1))) c e in
    let w = one_back (count low high) (count_back low high (omega arith)) (value_place n v.0) (pieces comma v.1) c a.1 in
    (same_true v.0 (key_bytes k) a.0, ap (join comma) w.0 ∙ join_pieces comma v.1, w.1)

count_back_line : (k : Key) (low high n : ℕ) → high < 256 → (ls : List (List ℕ)) (c : ℕ) (rest : List (List ℕ)) → count_line k low high n ls ≡ Ok (c, rest) → (join newline ls ≡ (key_bytes k ++ (equals ∷ decimal c)) ++ (newline ∷ join newline rest)) × ((leb low c && leb c high) ≡ true)
count_back_line k low high n u [] c rest e = not_ok (Line (Malformed (place n 1))) (c, rest) e
count_back_line k low high n u (l ∷ []) c rest e = not_ok (Line (Malformed (place n 1))) (c, rest) e
count_back_line k low high n u (l ∷ m ∷ ls) c rest e =
    let a = on_ok (on (key_and_value n l) (counted k low high n)) (λ v. Ok (v, m ∷ ls)) (c, rest) e in
    let b = on_ok (key_and_value n l) (counted k low high n) a.0 a.1 in
    let d = keyed_back n l b.0 b.1 in
    let w = counted_back k low high n u b.0 a.0 b.2 in
    let line : l ≡ key_bytes k ++ (equals ∷ decimal a.0) = d ∙ (ap (λ (y : List ℕ). y ++ (equals ∷ b.0.1)) w.0 ∙ ap (λ (y : List ℕ). key_bytes k ++ (equals ∷ y)) (sym w.1)) in
    let f = a.2 in
    let pair : (a.0, m ∷ ls) ≡ (c, rest) = cc in
    subst (λ (x : ℕ × List (List ℕ)). (join newline (l ∷ m ∷ ls) ≡ (key_bytes k ++ (equals ∷ decimal x.0)) ++ (newline ∷ join newline x.1)) × ((leb low x.0 && leb x.0 high) ≡ true)) pair
    (ap (λ (y : List ℕ). y ++ (newline ∷ join newline (m ∷ ls))) line, w.2)

pub counts_back : (ls : List (List ℕ)) (c : Counts) (rest : List (List ℕ)) → read_counts ls ≡ Ok (c, rest) → (join newline ls ≡ text_of (count_items c) ++ join newline rest) × (counts_fit c ≡ true)
counts_back ls c rest e =
    let af = on_ok (count_line Form 1 1 1 ls) _ (c, rest) e in
    let f = af.0 in
    let aa = on_ok (count_line Autos 1 8 2 f.1) _ (c, rest) af.2 in
    let a = aa.0 in
    let ac = on_ok (count_line Clocks 0 16 3 a.1) _ (c, rest) aa.2 in
    let k = ac.0 in
    let at = on_ok (count_line Triggers 0 16 4 k.1) _ (c, rest) ac.2 in
    let t = at.0 in
    let ah = on_ok (count_line Chans 0 8 5 t.1) _ (c, rest) at.2 in
    let h = ah.0 in
    let wf = count_back_line Form 1 1 1 (omega arith) ls f.0 f.1 af.1 in
    let wa = count_back_line Autos 1 8 2 (omega arith) f.1 a.0 a.1 aa.1 in
    let wc = count_back_line Clocks 0 16 3 (omega arith) a.1 k.0 k.1 ac.1 in
    let wt = count_back_line Triggers 0 16 4 (omega arith) k.1 t.0 t.1 at.1 in
    let wh = count_back_line Chans 0 8 5 (omega arith) t.1 h.0 h.1 ah.1 in
    let d : Counts = record { automata = a.0; clocks = k.0; triggers = t.0; channels = h.0 } in
    let z = ah.2 in
    let pair : (d, h.1) ≡ (c, rest) = cc in
    subst (λ (x : Counts × List (List ℕ)). (join newline ls ≡ text_of (count_items x.0) ++ join newline x.1) × (counts_fit x.0 ≡ true)) pair (
      wf.0 ∙ (ap (λ (n : ℕ). line_of (Form, n) ++ (newline ∷ join newline f.1)) (only f.0 wf.1)
          ∙ with_line (line_of (Form, 1)) _ _ _ (wa.0 ∙ with_line (line_of (Autos, a.0)) _ _ _ (wc.0 ∙ with_line (line_of (Clocks, k.0)) _ _ _
          (wt.0 ∙ with_line (line_of (Triggers, t.0)) _ _ _ (wh.0 ∙ with_line (line_of (Chans, h.0)) [] (join newline h.1) (join newline h.1) refl))))),
      and_from _ _ (and_parts (leb 1 a.0) (leb a.0 8) wa.1).0 (and_from _ _ (and_parts (leb 1 a.0) (leb a.0 8) wa.1).1
          (and_from _ _ (and_parts (leb 0 k.0) (leb k.0 16) wc.1).1 (and_from _ _ (and_parts (leb 0 t.0) (leb t.0 16) wt.1).1 (and_parts (leb 0 h.0) (leb h.0 8) wh.1).1))),
    )
  where
    with_line : (l t u r : List ℕ) → u ≡ t ++ r → l ++ (newline ∷ u) ≡ (l ++ (newline ∷ t)) ++ r
    with_line l t u r e = ap (λ (x : List ℕ). l ++ (newline ∷ x)) e ∙ sym (append_assoc l (newline ∷ t) r)

    only : (n : ℕ) → (leb 1 n && leb n 1) ≡ true → n ≡ 1
    only n g = let p = and_parts (leb 1 n) (leb n 1) g in omega (arith, leb-true 1 n p.0, leb-true n 1 p.1)

-- ---- the laws

text_of_append : (is js : List Item) → text_of (is ++ js) ≡ text_of is ++ text_of js
text_of_append [] js = refl
text_of_append (i ∷ is) js = ap (λ (x : List ℕ). line_of i ++ (newline ∷ x)) (text_of_append is js) ∙ sym (append_assoc (line_of i) (newline ∷ text_of is) (text_of js))

read_all_back : (ls : List (List ℕ)) (q : Plan) (rest : List (List ℕ)) → read_all ls ≡ Ok (q, rest) → (join newline ls ≡ written q ++ join newline rest) × Valid q × (in_widths q ≡ true)
read_all_back ls q rest e =
    let a = on_ok (read_counts ls) (λ c. read_lines (begun c.0) 6 c.1) (q, rest) e in
    let c = a.0.0 in
    let w = counts_back ls c a.0.1 a.1 in
    let r = reads_on a.0.1 (begun c) 6 q rest (sound_facts (begun c) (begun_sound c w.1)) (begun_widths c) a.2 in (
      w.0 ∙ (ap (λ (x : List ℕ). text_of (count_items c) ++ x) r.bytes
          ∙ (sym (append_assoc (text_of (count_items c)) (text_of r.items) (join newline rest))
          ∙ ap (λ (x : List ℕ). x ++ join newline rest) (sym (text_of_append (count_items c) r.items)
          ∙ (ap (λ (x : List Item). text_of (count_items c ++ x)) r.whole
          ∙ ap (λ (x : Counts). text_of (count_items x ++ (part_items q ++ last_item q ∷ []))) (sym r.counts))))),
      r.valid,
      r.widths,
    )

-- a text that is read
abbrev Read : List ℕ → Plan × List ℕ → Type 0
Read t x = (t ≡ written x.0 ++ x.1) × Valid x.0 × (in_widths x.0 ≡ true)

-- the rest put together again
abbrev pub rejoined : Plan × List (List ℕ) → Result (Plan × List ℕ) SequenceFault
rejoined x = Ok (x.0, join newline x.1)

read_back : (t : List ℕ) (p : Plan) (r : List ℕ) → read_text t ≡ Ok (p, r) → Read t (p, r)
read_back t p r e = go (ltb longest_text (length t)) e
  where
    go : (b : Bool) → cond b (Err TextTooLong) (on (read_all (pieces newline t)) rejoined) ≡ Ok (p, r) → Read t (p, r)
    go true h = not_ok TextTooLong (p, r) h
    go false h =
        let a = on_ok (read_all (pieces newline t)) rejoined (p, r) h in
        let w = read_all_back (pieces newline t) a.0.0 a.0.1 a.1 in
        let f = a.2 in
        let pair : (a.0.0, join newline a.0.1) ≡ (p, r) = cc in
        subst (Read t) pair (sym (join_pieces newline t) ∙ w.0, w.1, w.2)

pub read_is_written : ReadIsWritten
read_is_written t p r e = (read_back t p r e).0

pub read_is_valid : ReadIsValid
read_is_valid t p r e = let x = read_back t p r e in (x.1, x.2)

pub read_or_refused : ReadOrRefused
read_or_refused t = (go (read_text t) refl, (λ p r e h k. not_ok e (p, r) (sym k ∙ h)))
  where
    go : (x : Result (Plan × List ℕ) SequenceFault) → read_text t ≡ x → ((p : Plan) × (r : List ℕ) × (read_text t ≡ Ok (p, r))) ⊎ ((e : SequenceFault) × (read_text t ≡ Err e))
    go (Ok x) h = inl (x.0, x.1, h)
    go (Err e) h = inr (e, h)
