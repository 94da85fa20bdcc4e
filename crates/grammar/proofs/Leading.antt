-- Written lines lead from one plan to another, whatever text follows them.
use Rattle.std.proofs.Common.{◌≡◌, ℕ, ◌+◌, ◌<◌, ◌≤◌, Bool, true, ◌&&◌, eqb, leb, List, [], ◌∷◌, ◌++◌, map, length, Ok, Err, Result, sym, refl, ap, ◌∙◌, subst, arith}
use Rattle.std.specs.List.{flat_map}
use Rattle.std.proofs.lemmas.List.{append_assoc, append-nil, length-append}
use Rattle.std.proofs.lemmas.Bool.{and_parts, and_from, cond-true, eq-eqb, le-leb}
use Rattle.parts.specs.declared.part.Counts.{Counts}
use Rattle.parts.specs.Limits.{counts_fit}
use Rattle.sequence.specs.Plan.{Plan, each}
use Rattle.lexical.specs.declared.fault.Place.{Place}
use Rattle.lexical.specs.declared.fault.SequenceFault.{SequenceFault}
use Rattle.lexical.specs.declared.fault.SequenceFault.TheVariants.{WrongEdgeCount}
use Rattle.lexical.specs.declared.key.Key.{Key}
use Rattle.lexical.specs.declared.key.Key.TheVariants.{Form, Autos, Clocks, Triggers, Chans, Edges}
use Rattle.lexical.specs.Bytes.{pieces, comma, newline}
use Rattle.lexical.specs.Keys.{key_bytes}
use Rattle.lexical.specs.Fields.{on, one, count}
use Rattle.grammar.specs.Lines.{Fields, Item, row, there, nothing_there, line_of, text_of}
use Rattle.grammar.specs.Writing.{count_items, last_item}
use Rattle.grammar.specs.Reading.{Step, more, done, allowed, room, take_fields, take_line, go_on, read_lines, count_line, read_counts, value_place}
use Rattle.grammar.proofs.Bytewise.{some, pieces_front, pieces_some}
use Rattle.grammar.proofs.Lining.{value_of, take_line_forth, line_free, fields_forth, count_forth}

pub text_append : (is js : List Item) → text_of (is ++ js) ≡ text_of is ++ text_of js
text_append [] js = refl
text_append (i ∷ is) js = ap (λ (x : List ℕ). line_of i ++ (newline ∷ x)) (text_append is js) ∙ sym (append_assoc (line_of i) (newline ∷ text_of is) (text_of js))

pub onward : (is js : List Item) (r : List ℕ) → text_of (is ++ js) ++ r ≡ text_of is ++ (text_of js ++ r)
onward is js r = ap (λ (x : List ℕ). x ++ r) (text_append is js) ∙ append_assoc (text_of is) (text_of js) r

abbrev pub Leads : Plan → List Item → Plan → Type 0
Leads p is q = (n : ℕ) (r : List ℕ) → (m : ℕ) × (read_lines p n (pieces newline (text_of is ++ r)) ≡ read_lines q m (pieces newline r))

pub leads_none : (p : Plan) → Leads p [] p
leads_none p n r = (n, refl)

pub leads_more : (p q s : Plan) (is js : List Item) → Leads p is q → Leads q js s → Leads p (is ++ js) s
leads_more p q s is js f g n r =
    let a = f n (text_of js ++ r) in
    let b = g a.0 r in
    (b.0, ap (λ (x : List ℕ). read_lines p n (pieces newline x)) (onward is js r) ∙ (a.1 ∙ b.1))

read_step : (p : Plan) (n : ℕ) (l : List ℕ) (rest : List (List ℕ)) → some rest ≡ true → read_lines p n (l ∷ rest) ≡ go_on (take_line p n l) p rest (λ q. read_lines q (n + 1) rest)
read_step p n l [] h = absurd (let z : ◌≡◌ {A = ℕ} 0 1 = cc in omega arith)
read_step p n l (m ∷ ls) h = refl

one_line : (p : Plan) (k : Key) (f : Fields k) → allowed k p ≡ true → room k p ≡ true → (row (there p) k).good f ≡ true → (n : ℕ) (r : List ℕ) → read_lines p n (pieces newline (text_of ((k, f) ∷ []) ++ r)) ≡ go_on (take_fields k p (value_place n (key_bytes k)) f) p (pieces newline r) (λ q. read_lines q (n + 1) (pieces newline r))
one_line p k f a h g n r =
    ap (λ (x : List ℕ). read_lines p n (pieces newline x)) (append_assoc (line_of (k, f)) (newline ∷ []) r)
    ∙ (ap (read_lines p n) (pieces_front newline (line_of (k, f)) r (line_free (there p) k f g))
    ∙ (read_step p n (line_of (k, f)) (pieces newline r) (pieces_some newline r)
    ∙ ap (λ (x : Result Step SequenceFault). go_on x p (pieces newline r) (λ q. read_lines q (n + 1) (pieces newline r))) (take_line_forth p n k f a h g)))

pub leads_one : (p q : Plan) (k : Key) (f : Fields k) → allowed k p ≡ true → room k p ≡ true → (row (there p) k).good f ≡ true → ((at : Place) → take_fields k p at f ≡ Ok (more q)) → Leads p ((k, f) ∷ []) q
leads_one p q k f a h g e n r =
    (n + 1, one_line p k f a h g n r ∙ ap (λ (x : Result Step SequenceFault). go_on x p (pieces newline r) (λ s. read_lines s (n + 1) (pieces newline r))) (e (value_place n (key_bytes k))))

-- the last line
pub ends_last : (p : Plan) → allowed Edges p ≡ true → (row (there p) Edges).good (length p.edges) ≡ true → (n : ℕ) (r : List ℕ) → read_lines p n (pieces newline (text_of (last_item p ∷ []) ++ r)) ≡ Ok (p, pieces newline r)
ends_last p a g n r =
    one_line p Edges (length p.edges) a refl g n r
    ∙ ap (λ (x : Result Step SequenceFault). go_on x p (pieces newline r) (λ q. read_lines q (n + 1) (pieces newline r)))
    (cond-true (eqb (length p.edges) (length p.edges)) (Ok done) (Err (WrongEdgeCount (value_place n (key_bytes Edges)))) (eq-eqb (length p.edges) (length p.edges) refl))

-- parts one by one, over any way to hold those that are in
module _ {X : Type 0} (items : X → List Item) (holding : List X → Plan) (fine : List X → List X → Type 0) where
  module _ (one : (before : List X) (x : X) (xs : List X) → fine before (x ∷ xs) → Leads (holding before) (items x) (holding (before ++ x ∷ [])) × fine (before ++ x ∷ []) xs) where
    pub leads_all : (xs before : List X) → fine before xs → Leads (holding before) (flat_map items xs) (holding (before ++ xs))
    leads_all [] before h = subst (λ (l : List X). Leads (holding before) [] (holding l)) (sym (append-nil before)) (leads_none (holding before))
    leads_all (x ∷ xs) before h =
        let s = one before x xs h in
        subst (λ (l : List X). Leads (holding before) (flat_map items (x ∷ xs)) (holding l)) (append_assoc before (x ∷ []) xs)
        (leads_more (holding before) (holding (before ++ x ∷ [])) (holding ((before ++ x ∷ []) ++ xs)) (items x) (flat_map items xs) s.0 (leads_all xs (before ++ x ∷ []) s.1))

module _ {X : Type 0} (k : ℕ) (fits : X → Bool) where
  -- there is room for those to come, and they fit
  abbrev pub Fine : List X → List X → Type 0
  Fine before xs = (length before + length xs ≤ k) × (each fits xs ≡ true)

  pub fine_one : (before : List X) (x : X) (xs : List X) → Fine before (x ∷ xs) → (length before < k) × (fits x ≡ true) × Fine (before ++ x ∷ []) xs
  fine_one before x xs h =
      let p = and_parts (fits x) (each fits xs) h.1 in
      (omega (arith, h.0), p.0, (omega (arith, h.0, length-append before (x ∷ [])), p.1))

-- a line each
module _ {X : Type 0} (item : X → Item) where
  pub map_joined : (xs : List X) → flat_map (λ x. item x ∷ []) xs ≡ map item xs
  map_joined [] = refl
  map_joined (x ∷ xs) = ap (λ (l : List Item). item x ∷ l) (map_joined xs)

  module _ (holding : List X → Plan) (k : ℕ) (fits : X → Bool) (one : (before : List X) (x : X) → length before < k → fits x ≡ true → Leads (holding before) (item x ∷ []) (holding (before ++ x ∷ []))) where
    pub leads_each : (xs : List X) → length xs ≤ k → each fits xs ≡ true → Leads (holding []) (map item xs) (holding xs)
    leads_each xs h g =
        subst (λ (l : List Item). Leads (holding []) l (holding xs)) (map_joined xs)
        (leads_all (λ x. item x ∷ []) holding (Fine k fits) (λ before x ys h. let f = fine_one k fits before x ys h in (one before x f.0 f.1, f.2)) xs [] (omega arith, g))

-- ---- the five lines of counts

count_front : (k : Key) (low high n : ℕ) (f : Fields k) (v : ℕ) (is : List Item) (r : List ℕ) → (row nothing_there k).good f ≡ true → (one (count low high)).parse (value_place n (key_bytes k)) (pieces comma (value_of k f)) ≡ Ok v → count_line k low high n (pieces newline (text_of ((k, f) ∷ is) ++ r)) ≡ Ok (v, pieces newline (text_of is ++ r))
count_front k low high n f v is r g e =
    ap (λ (t : List ℕ). count_line k low high n (pieces newline t)) (append_assoc (line_of (k, f)) (newline ∷ text_of is) r)
    ∙ (ap (count_line k low high n) (pieces_front newline (line_of (k, f)) (text_of is ++ r) (line_free nothing_there k f g))
    ∙ count_forth k low high n v f (pieces newline (text_of is ++ r)) e (pieces_some newline (text_of is ++ r)))

-- what is read behind each of them
abbrev Numbered : Type 0
Numbered = Result (ℕ × List (List ℕ)) SequenceFault

abbrev Counted : Type 0
Counted = Result (Counts × List (List ℕ)) SequenceFault

abbrev after_chans : (a c t : ℕ) → ℕ × List (List ℕ) → Counted
after_chans a c t h = Ok (record { automata = a; clocks = c; triggers = t; channels = h.0 }, h.1)

abbrev after_triggers : (a c : ℕ) → ℕ × List (List ℕ) → Counted
after_triggers a c t = on (count_line Chans 0 8 5 t.1) (after_chans a c t.0)

abbrev after_clocks : ℕ → ℕ × List (List ℕ) → Counted
after_clocks a c = on (count_line Triggers 0 16 4 c.1) (after_triggers a c.0)

abbrev after_autos : ℕ × List (List ℕ) → Counted
after_autos a = on (count_line Clocks 0 16 3 a.1) (after_clocks a.0)

abbrev after_form : ℕ × List (List ℕ) → Counted
after_form f = on (count_line Autos 1 8 2 f.1) after_autos

pub counts_read : (c : Counts) (r : List ℕ) → counts_fit c ≡ true → read_counts (pieces newline (text_of (count_items c) ++ r)) ≡ Ok (c, pieces newline r)
counts_read c r h =
    let p = and_parts (leb 1 c.automata) (leb c.automata 8 && (leb c.clocks 16 && (leb c.triggers 16 && leb c.channels 8))) h in
    let q = and_parts (leb c.automata 8) (leb c.clocks 16 && (leb c.triggers 16 && leb c.channels 8)) p.1 in
    let s = and_parts (leb c.clocks 16) (leb c.triggers 16 && leb c.channels 8) q.1 in
    let t = and_parts (leb c.triggers 16) (leb c.channels 8) s.1 in
    let i4 : List Item = (Chans, c.channels) ∷ [] in
    let i3 : List Item = (Triggers, c.triggers) ∷ i4 in
    let i2 : List Item = (Clocks, c.clocks) ∷ i3 in
    let i1 : List Item = (Autos, c.automata) ∷ i2 in
    let ga : (row nothing_there Autos).good c.automata ≡ true = and_from _ _ p.0 q.0 in
    let gc : (row nothing_there Clocks).good c.clocks ≡ true = and_from _ _ (le-leb 0 c.clocks (omega arith)) s.0 in
    let gt : (row nothing_there Triggers).good c.triggers ≡ true = and_from _ _ (le-leb 0 c.triggers (omega arith)) t.0 in
    let gh : (row nothing_there Chans).good c.channels ≡ true = and_from _ _ (le-leb 0 c.channels (omega arith)) t.1 in
    let e1 = count_front Form 1 1 1 1 1 i1 r refl (fields_forth nothing_there Form 1 refl (value_place 1 (key_bytes Form))) in
    let e2 = count_front Autos 1 8 2 c.automata c.automata i2 r ga (fields_forth nothing_there Autos c.automata ga (value_place 2 (key_bytes Autos))) in
    let e3 = count_front Clocks 0 16 3 c.clocks c.clocks i3 r gc (fields_forth nothing_there Clocks c.clocks gc (value_place 3 (key_bytes Clocks))) in
    let e4 = count_front Triggers 0 16 4 c.triggers c.triggers i4 r gt (fields_forth nothing_there Triggers c.triggers gt (value_place 4 (key_bytes Triggers))) in
    let e5 = count_front Chans 0 8 5 c.channels c.channels [] r gh (fields_forth nothing_there Chans c.channels gh (value_place 5 (key_bytes Chans))) in
    ap (λ (x : Numbered). on x (after_form)) e1
    ∙ (ap (λ (x : Numbered). on x after_autos) e2
    ∙ (ap (λ (x : Numbered). on x (after_clocks c.automata)) e3
    ∙ (ap (λ (x : Numbered). on x (after_triggers c.automata c.clocks)) e4
    ∙ ap (λ (x : Numbered). on x (after_chans c.automata c.clocks c.triggers)) e5)))
