-- What a codec and a row read is what they write.
use Rattle.std.proofs.Common.{◌≡◌, ℕ, zero, suc, pred, ◌^◌, ◌<◌, Bool, true, false, cond, not, ◌&&◌, eqb, ltb, leb, List, [], ◌∷◌, ◌++◌, length, get_or, ℤ, pos, negsuc, Some, None, Ok, Err, codes, decimal, Option, Result, sym, refl, ap, ◌∙◌, subst, arith, rules}
use lib.Signed.{le_z, mag}
use Rattle.std.specs.Str.{all_ascii_digits}
use Rattle.std.specs.Fmt.{signed_decimal}
use Rattle.std.proofs.lemmas.Str.Parse.{IsNumeralModel, numerals_by_fold}
use Rattle.std.proofs.lemmas.Fmt.{decimal-digits_value}
use Rattle.std.proofs.lemmas.Bool.{and_parts, and_from, not-true, cond_both, eq-eqb, eqb-true, leb-true}
use Rattle.parts.specs.declared.part.Relation.TheVariants.{Lt, Le, Eq, Ge, Gt}
use Rattle.parts.specs.declared.part.Label.{Label}
use Rattle.parts.specs.declared.part.Label.TheVariants.{Internal, Trigger, Send, Receive}
use Rattle.parts.specs.Limits.{last_tick, longest}
use Rattle.lexical.specs.declared.fault.Place.{Place}
use Rattle.lexical.specs.declared.fault.NumberFault.TheVariants.{Misspelt, OutOfRange}
use Rattle.lexical.specs.declared.fault.LineFault.TheVariants.{Number, FieldCount, UnknownWord}
use Rattle.lexical.specs.declared.fault.SequenceFault.{SequenceFault}
use Rattle.lexical.specs.declared.fault.SequenceFault.TheVariants.{Line, NothingThere}
use Rattle.lexical.specs.declared.key.Key.{Key}
use Rattle.lexical.specs.declared.key.Key.TheVariants.{Form, Autos, Clocks, Triggers, Chans, Var, Task, Set, Loc, Inv, Edge, Clk, Dif, Val, Zero, Edges}
use Rattle.lexical.specs.Bytes.{onto, pieces, join, ahead, cut, same}
use Rattle.lexical.specs.Numbers.{value, spelt, spelt_signed, said, integer_of, natural, natural_of}
use Rattle.lexical.specs.Keys.{key_bytes, named_among, key_named, all_keys}
use Rattle.lexical.specs.Fields.{on, carried, numeral, behind, Codec, Row, integer, count, known, reference, some_of, optional, relation_word, relation, strictness_word, strictness, labelled, lettered, label_text, good_label, label, one, two, three, four}
use Rattle.grammar.specs.Lines.{Fields, lowest, highest, There, row, nothing_there}

-- ---- results and tests

pub never : {X : Type 0} → true ≡ false → X
never e = absurd (let z : ◌≡◌ {A = ℕ} 0 1 = cc in omega arith)

pub not_ok : {A E X : Type 0} (e : E) (a : A) → Err e ≡ Ok a → X
not_ok e a h = absurd (let z : ◌≡◌ {A = ℕ} 0 1 = cc in omega arith)

pub on_ok : {A B E : Type 0} (r : Result A E) (f : A → Result B E) (b : B) → on r f ≡ Ok b → (a : A) × (r ≡ Ok a) × (f a ≡ Ok b)
on_ok (Ok a) f b h = (a, refl, h)
on_ok (Err e) f b h = not_ok e b h

pub carried_ok : {A E F : Type 0} (g : E → F) (r : Result A E) (a : A) → carried g r ≡ Ok a → r ≡ Ok a
carried_ok g (Ok x) a h = let e : x ≡ a = cc in ap Ok e
carried_ok g (Err e) a h = not_ok (g e) a h

-- a cond that is Ok went its first way
pub cond_ok : {A E : Type 0} (c : Bool) (r : Result A E) (e : E) (a : A) → cond c r (Err e) ≡ Ok a → (c ≡ true) × (r ≡ Ok a)
cond_ok true r e a h = (refl, h)
cond_ok false r e a h = not_ok e a h

-- ---- bytes

-- there is at least one
abbrev pub some : List (List ℕ) → Bool
some [] = false
some (p ∷ ps) = true

pub pieces_some : (b : ℕ) (t : List ℕ) → some (pieces b t) ≡ true
pieces_some b [] = refl
pieces_some b (x ∷ xs) = cond_both (eqb x b) ([] ∷ pieces b xs) (onto x (pieces b xs)) (λ ps. some ps ≡ true) (λ _. refl) (λ _. onto_some (pieces b xs))
  where
    onto_some : (ps : List (List ℕ)) → some (onto x ps) ≡ true
    onto_some [] = refl
    onto_some (p ∷ ps) = refl

join_more : (b : ℕ) (p : List ℕ) (ps : List (List ℕ)) → some ps ≡ true → join b (p ∷ ps) ≡ p ++ (b ∷ join b ps)
join_more b p [] h = never (sym h)
join_more b p (q ∷ ps) h = refl

join_onto : (b x : ℕ) (ps : List (List ℕ)) → join b (onto x ps) ≡ x ∷ join b ps
join_onto b x [] = refl
join_onto b x (p ∷ []) = refl
join_onto b x (p ∷ q ∷ ps) = refl

-- the pieces put together again
pub join_pieces : (b : ℕ) (t : List ℕ) → join b (pieces b t) ≡ t
join_pieces b [] = refl
join_pieces b (x ∷ xs) =
    cond_both (eqb x b) ([] ∷ pieces b xs) (onto x (pieces b xs)) (λ ps. join b ps ≡ x ∷ xs)
    (λ e. join_more b [] (pieces b xs) (pieces_some b xs) ∙ (ap (λ y. y ∷ join b (pieces b xs)) (sym (eqb-true x b e)) ∙ ap (λ l. x ∷ l) (join_pieces b xs)))
    (λ e. join_onto b x (pieces b xs) ∙ ap (λ l. x ∷ l) (join_pieces b xs))

pub cut_back : (b : ℕ) (t : List ℕ) (p : List ℕ × List ℕ) → cut b t ≡ Some p → t ≡ p.0 ++ (b ∷ p.1)
cut_back b [] p e = absurd (let z : ◌≡◌ {A = ℕ} 0 1 = cc in omega arith)
cut_back b (x ∷ xs) p e = go (eqb x b) refl (cut b xs) (cut_back b xs) e
  where
    go : (c : Bool) → eqb x b ≡ c → (o : Option (List ℕ × List ℕ)) → ((q : List ℕ × List ℕ) → o ≡ Some q → xs ≡ q.0 ++ (b ∷ q.1)) → cond c (Some ([], xs)) (ahead x o) ≡ Some p → x ∷ xs ≡ p.0 ++ (b ∷ p.1)
    go true h o ih f =
        let q : ([], xs) ≡ p = cc in
        subst (λ (r : List ℕ × List ℕ). x ∷ xs ≡ r.0 ++ (b ∷ r.1)) q (ap (λ y. y ∷ xs) (eqb-true x b h))
    go false h None ih f = absurd (let z : ◌≡◌ {A = ℕ} 0 1 = cc in omega arith)
    go false h (Some r) ih f =
        let q : (x ∷ r.0, r.1) ≡ p = cc in
        subst (λ (s : List ℕ × List ℕ). x ∷ xs ≡ s.0 ++ (b ∷ s.1)) q (ap (λ l. x ∷ l) (ih r refl))

pub same_true : (xs ys : List ℕ) → same xs ys ≡ true → xs ≡ ys
same_true [] [] h = refl
same_true [] (y ∷ ys) h = never (sym h)
same_true (x ∷ xs) [] h = never (sym h)
same_true (x ∷ xs) (y ∷ ys) h =
    let p = and_parts (eqb x y) (same xs ys) h in
    ap (λ z. z ∷ xs) (eqb-true x y p.0) ∙ ap (λ zs. y ∷ zs) (same_true xs ys p.1)

among_back : (ks : List Key) (bytes : List ℕ) (k : Key) → named_among ks bytes ≡ Some k → bytes ≡ key_bytes k
among_back [] bytes k e = absurd (let z : ◌≡◌ {A = ℕ} 0 1 = cc in omega arith)
among_back (j ∷ ks) bytes k e = go (same bytes (key_bytes j)) refl (among_back ks bytes k) e
  where
    go : (c : Bool) → same bytes (key_bytes j) ≡ c → (named_among ks bytes ≡ Some k → bytes ≡ key_bytes k) → cond c (Some j) (named_among ks bytes) ≡ Some k → bytes ≡ key_bytes k
    go true s ih h = let i : j ≡ k = cc in same_true bytes (key_bytes j) s ∙ ap key_bytes i
    go false s ih h = ih h

pub key_back : (bytes : List ℕ) (k : Key) → key_named bytes ≡ Some k → bytes ≡ key_bytes k
key_back bytes k e = among_back all_keys bytes k e

-- ---- numbers: a good spelling is the one that is written

own : IsNumeralModel (λ ds. all_ascii_digits ds ≡ true) (value 0)
own = numerals_by_fold _ (search rules) value (search rules)

spelt_parts : (ds : List ℕ) → spelt ds ≡ true → (all_ascii_digits ds ≡ true) × (0 < length ds) × (get_or ds 0 0 ≡ 48 → length ds ≡ 1)
spelt_parts [] h = never (sym h)
spelt_parts (b ∷ []) h = (h, omega arith, λ _. refl)
spelt_parts (b ∷ c ∷ bs) h =
    let p = and_parts (not (eqb b 48)) (all_ascii_digits (b ∷ c ∷ bs)) h in
    (p.1, omega arith, λ e. never (sym (eq-eqb b 48 e) ∙ not-true (eqb b 48) p.0))

spelt_decimal : (ds : List ℕ) → spelt ds ≡ true → value 0 ds < 2 ^ 64 → decimal (value 0 ds) ≡ ds
spelt_decimal ds h l = let p = spelt_parts ds h in decimal-digits_value own ds p.0 p.1 p.2 l

nonzero : (n : ℕ) → eqb n 0 ≡ false → suc (pred n) ≡ n
nonzero zero f = never f
nonzero (suc n) f = refl

spelt_signed_is : (bs : List ℕ) → spelt_signed bs ≡ true → mag (said bs) < 2 ^ 63 → signed_decimal (said bs) ≡ bs
spelt_signed_is [] h m = never (sym h)
spelt_signed_is (b ∷ bs) h m = go (eqb b 45) refl h m
  where
    go : (c : Bool) → eqb b 45 ≡ c → cond c (spelt bs && not (eqb (value 0 bs) 0)) (spelt (b ∷ bs)) ≡ true → mag (cond c (negsuc (pred (value 0 bs))) (pos (value 0 (b ∷ bs)))) < 2 ^ 63 → signed_decimal (cond c (negsuc (pred (value 0 bs))) (pos (value 0 (b ∷ bs)))) ≡ b ∷ bs
    go true e h m =
        let p = and_parts (spelt bs) (not (eqb (value 0 bs) 0)) h in
        let z : suc (pred (value 0 bs)) ≡ value 0 bs = nonzero (value 0 bs) (not-true (eqb (value 0 bs) 0) p.1) in
        ap (λ k. 45 ∷ decimal k) z ∙ (ap (λ l. 45 ∷ l) (spelt_decimal bs p.0 (omega arith)) ∙ ap (λ y. y ∷ bs) (sym (eqb-true b 45 e)))
    go false e h m = spelt_decimal (b ∷ bs) h (omega arith)

mag_between : (low high z : ℤ) → (le_z low z && le_z z high) ≡ true → mag low < 2 ^ 63 → mag high < 2 ^ 63 → mag z < 2 ^ 63
mag_between low (pos h) (pos n) e l u = omega (arith, leb-true n h (and_parts (le_z low (pos n)) (leb n h) e).1)
mag_between low (negsuc h) (pos n) e l u = never (sym (and_parts (le_z low (pos n)) false e).1)
mag_between (pos l) high (negsuc n) e k u = never (sym (and_parts false (le_z (negsuc n) high) e).0)
mag_between (negsuc l) high (negsuc n) e k u = omega (arith, leb-true n l (and_parts (leb n l) (le_z (negsuc n) high) e).0)

-- ---- codecs

-- what is read is written as it stood, and is one of the codec's values
abbrev pub Backs : {A : Type 0} → Codec A → Type 0
Backs {A} k = (at : Place) (bs : List ℕ) (a : A) → k.parse at bs ≡ Ok a → (k.print a ≡ bs) × (k.good a ≡ true)

abbrev pub RowBacks : {A : Type 0} → Row A → Type 0
RowBacks {A} k = (at : Place) (fs : List (List ℕ)) (a : A) → k.parse at fs ≡ Ok a → (k.print a ≡ fs) × (k.good a ≡ true)

pub integer_back : (low high : ℤ) → mag low < 2 ^ 63 → mag high < 2 ^ 63 → Backs (integer low high)
integer_back low high l u at bs a e =
    let n = carried_ok (λ f. Line (Number f)) (integer_of low high at bs) a e in
    let p = cond_ok (spelt_signed bs) (cond (le_z low (said bs) && le_z (said bs) high) (Ok (said bs)) (Err (OutOfRange at))) (Misspelt at) a n in
    let q = cond_ok (le_z low (said bs) && le_z (said bs) high) (Ok (said bs)) (OutOfRange at) a p.1 in
    let z = q.1 in
    let s : said bs ≡ a = cc in
    subst (λ (y : ℤ). (signed_decimal y ≡ bs) × ((le_z low y && le_z y high) ≡ true)) s (spelt_signed_is bs p.0 (mag_between low high (said bs) q.0 l u), q.0)

natural_back : (low high : ℕ) → high < 2 ^ 63 → (at : Place) (bs : List ℕ) (n : ℕ) → natural_of low high at bs ≡ Ok n → (decimal n ≡ bs) × ((leb low n && leb n high) ≡ true)
natural_back low high u at bs n e =
    let p = cond_ok (spelt_signed bs) (natural low high at (said bs)) (Misspelt at) n e in
    go (said bs) p.1 (spelt_signed_is bs p.0)
  where
    go : (z : ℤ) → natural low high at z ≡ Ok n → (mag z < 2 ^ 63 → signed_decimal z ≡ bs) → (decimal n ≡ bs) × ((leb low n && leb n high) ≡ true)
    go (pos m) e f =
        let p = cond_ok (leb low m && leb m high) (Ok m) (OutOfRange at) n e in
        let z = p.1 in
        let s : m ≡ n = cc in
        subst (λ (k : ℕ). (decimal k ≡ bs) × ((leb low k && leb k high) ≡ true)) s (f (omega (arith, leb-true m high (and_parts (leb low m) (leb m high) p.0).1)), p.0)
    go (negsuc m) e f = not_ok (OutOfRange at) n e

pub count_back : (low high : ℕ) → high < 2 ^ 63 → Backs (count low high)
count_back low high u at bs a e = natural_back low high u at bs a (carried_ok (λ f. Line (Number f)) (natural_of low high at bs) a e)

pub reference_back : (many : ℕ) → Backs (reference many)
reference_back many at bs a e =
    let p = on_ok (numeral (natural_of 0 255 at bs)) (known many at) a e in
    let m = natural_back 0 255 (omega arith) at bs p.0 (carried_ok (λ f. Line (Number f)) (natural_of 0 255 at bs) p.0 p.1) in
    let q = cond_ok (ltb p.0 many) (Ok p.0) (NothingThere at) a p.2 in
    let z = q.1 in
    let s : p.0 ≡ a = cc in
    subst (λ (k : ℕ). (decimal k ≡ bs) × ((leb k 255 && ltb k many) ≡ true)) s (m.0, and_from (leb p.0 255) (ltb p.0 many) (and_parts (leb 0 p.0) (leb p.0 255) m.1).1 q.0)

pub optional_back : {A : Type 0} (k : Codec A) → Backs k → Backs (optional k)
optional_back {A} k w at bs o e = go (same bs (codes "-")) refl (k.parse at bs) refl e
  where
    go : (c : Bool) → same bs (codes "-") ≡ c → (r : Result A SequenceFault) → k.parse at bs ≡ r → cond c (Ok None) (some_of r) ≡ Ok o → ((optional k).print o ≡ bs) × ((optional k).good o ≡ true)
    go true s r f h = let x : None ≡ o = cc in subst (λ (y : Option A). ((optional k).print y ≡ bs) × ((optional k).good y ≡ true)) x (sym (same_true bs (codes "-") s), refl)
    go false s (Ok a) f h = let x : Some a ≡ o = cc in subst (λ (y : Option A). ((optional k).print y ≡ bs) × ((optional k).good y ≡ true)) x (w at bs a f)
    go false s (Err b) f h = not_ok b o h

-- one word of several
word_back : {A : Type 0} (word : A → List ℕ) (bs : List ℕ) (x a : A) (r : Result A SequenceFault) → (r ≡ Ok a → word a ≡ bs) → cond (same bs (word x)) (Ok x) r ≡ Ok a → word a ≡ bs
word_back {A} word bs x a r other e = go (same bs (word x)) refl e
  where
    go : (c : Bool) → same bs (word x) ≡ c → cond c (Ok x) r ≡ Ok a → word a ≡ bs
    go true s h = let i : x ≡ a = cc in ap word (sym i) ∙ sym (same_true bs (word x) s)
    go false s h = other h

pub relation_back : Backs relation
relation_back at bs a e =
    (word_back relation_word bs Lt a _ (word_back relation_word bs Le a _ (word_back relation_word bs Eq a _ (word_back relation_word bs Ge a _ (word_back relation_word bs Gt a _ (λ h. not_ok (Line (UnknownWord at)) a h))))) e, refl)

pub strictness_back : Backs strictness
strictness_back at bs a e = (word_back strictness_word bs true a _ (word_back strictness_word bs false a _ (λ h. not_ok (Line (UnknownWord at)) a h)) e, refl)

labelled_back : (f : ℕ → Label) (many : ℕ) (at : Place) (bs : List ℕ) (a : Label) → labelled f ((reference many).parse at bs) ≡ Ok a → (n : ℕ) × (f n ≡ a) × (decimal n ≡ bs) × ((reference many).good n ≡ true)
labelled_back f many at bs a e = go ((reference many).parse at bs) refl e
  where
    go : (r : Result ℕ SequenceFault) → (reference many).parse at bs ≡ r → labelled f r ≡ Ok a → (n : ℕ) × (f n ≡ a) × (decimal n ≡ bs) × ((reference many).good n ≡ true)
    go (Ok n) g h = let i : f n ≡ a = cc in let b = reference_back many at bs n g in (n, i, b.0, b.1)
    go (Err x) g h = not_ok x a h

pub label_back : (triggers channels : ℕ) → Backs (label triggers channels)
label_back triggers channels at bs a e = dash (same bs (codes "-")) refl e
  where
    letters : (t : List ℕ) → lettered triggers channels at t ≡ Ok a → (label_text a ≡ t) × (good_label triggers channels a ≡ true)
    letters [] e = not_ok (Line (UnknownWord at)) a e
    letters (b ∷ t) e = go (eqb b 116) refl (eqb b 115) refl (eqb b 114) refl e
      where
        go : (x : Bool) → eqb b 116 ≡ x → (y : Bool) → eqb b 115 ≡ y → (z : Bool) → eqb b 114 ≡ z → cond x (labelled Trigger ((reference triggers).parse at t)) (cond y (labelled Send ((reference channels).parse at t)) (cond z (labelled Receive ((reference channels).parse at t)) (Err (Line (UnknownWord at))))) ≡ Ok a → (label_text a ≡ b ∷ t) × (good_label triggers channels a ≡ true)
        go true p y q z r h =
            let n = labelled_back Trigger triggers at t a h in
            subst (λ (l : Label). (label_text l ≡ b ∷ t) × (good_label triggers channels l ≡ true)) n.1 (ap (λ (l : List ℕ). 116 ∷ l) n.2 ∙ ap (λ (c : ℕ). c ∷ t) (sym (eqb-true b 116 p)), n.3)
        go false p true q z r h =
            let n = labelled_back Send channels at t a h in
            subst (λ (l : Label). (label_text l ≡ b ∷ t) × (good_label triggers channels l ≡ true)) n.1 (ap (λ (l : List ℕ). 115 ∷ l) n.2 ∙ ap (λ (c : ℕ). c ∷ t) (sym (eqb-true b 115 q)), n.3)
        go false p false q true r h =
            let n = labelled_back Receive channels at t a h in
            subst (λ (l : Label). (label_text l ≡ b ∷ t) × (good_label triggers channels l ≡ true)) n.1 (ap (λ (l : List ℕ). 114 ∷ l) n.2 ∙ ap (λ (c : ℕ). c ∷ t) (sym (eqb-true b 114 r)), n.3)
        go false p false q false r h = not_ok (Line (UnknownWord at)) a h

    dash : (c : Bool) → same bs (codes "-") ≡ c → cond c (Ok Internal) (lettered triggers channels at bs) ≡ Ok a → (label_text a ≡ bs) × (good_label triggers channels a ≡ true)
    dash true s h = let i : Internal ≡ a = cc in subst (λ (l : Label). (label_text l ≡ bs) × (good_label triggers channels l ≡ true)) i (sym (same_true bs (codes "-") s), refl)
    dash false s h = letters bs h

-- ---- rows

pub one_back : {A : Type 0} (k : Codec A) → Backs k → RowBacks (one k)
one_back k w at [] a e = not_ok (Line (FieldCount at)) a e
one_back k w at (x ∷ []) a e = let p = w at x a e in (ap (λ y. y ∷ []) p.0, p.1)
one_back k w at (x ∷ y ∷ fs) a e = not_ok (Line (FieldCount at)) a e

pub two_back : {A B : Type 0} (k : Codec A) (l : Codec B) → Backs k → Backs l → RowBacks (two k l)
two_back k l wk wl at [] p e = not_ok (Line (FieldCount at)) p e
two_back k l wk wl at (x ∷ []) p e = not_ok (Line (FieldCount at)) p e
two_back k l wk wl at (x ∷ y ∷ z ∷ fs) p e = not_ok (Line (FieldCount at)) p e
two_back {A} {B} k l wk wl at (x ∷ y ∷ []) p e =
    let u = on_ok (k.parse at x) (λ a. on (l.parse (behind at x) y) (λ b. Ok (a, b))) p e in
    let a = u.0 in
    let ra = wk at x a u.1 in
    let v = on_ok (l.parse (behind at x) y) (λ b. Ok (a, b)) p u.2 in
    let b = v.0 in
    let rb = wl (behind at x) y b v.1 in
    let f = v.2 in
    let s : (a, b) ≡ p = cc in
    subst (λ (q : A × B). ((two k l).print q ≡ x ∷ y ∷ []) × ((two k l).good q ≡ true)) s
    (ap (λ (i : List ℕ). i ∷ l.print b ∷ []) ra.0 ∙ ap (λ (i : List ℕ). x ∷ i ∷ []) rb.0, and_from (k.good a) (l.good b) ra.1 rb.1)

pub three_back : {A B C : Type 0} (k : Codec A) (l : A → Codec B) (m : A → B → Codec C) → Backs k → ((a : A) → k.good a ≡ true → Backs (l a)) → ((a : A) (b : B) → k.good a ≡ true → (l a).good b ≡ true → Backs (m a b)) → RowBacks (three k l m)
three_back k l m wk wl wm at [] p e = not_ok (Line (FieldCount at)) p e
three_back k l m wk wl wm at (x ∷ []) p e = not_ok (Line (FieldCount at)) p e
three_back k l m wk wl wm at (x ∷ y ∷ []) p e = not_ok (Line (FieldCount at)) p e
three_back k l m wk wl wm at (x ∷ y ∷ z ∷ w ∷ fs) p e = not_ok (Line (FieldCount at)) p e
three_back {A} {B} {C} k l m wk wl wm at (x ∷ y ∷ z ∷ []) p e =
    let u = on_ok (k.parse at x) (λ a. on ((l a).parse (behind at x) y) (λ b. on ((m a b).parse (behind (behind at x) y) z) (λ c. Ok (a, b, c)))) p e in
    let a = u.0 in
    let ra = wk at x a u.1 in
    let v = on_ok ((l a).parse (behind at x) y) (λ b. on ((m a b).parse (behind (behind at x) y) z) (λ c. Ok (a, b, c))) p u.2 in
    let b = v.0 in
    let rb = wl a ra.1 (behind at x) y b v.1 in
    let t = on_ok ((m a b).parse (behind (behind at x) y) z) (λ c. Ok (a, b, c)) p v.2 in
    let c = t.0 in
    let rc = wm a b ra.1 rb.1 (behind (behind at x) y) z c t.1 in
    let f = t.2 in
    let s : (a, b, c) ≡ p = cc in
    subst (λ (q : A × B × C). ((three k l m).print q ≡ x ∷ y ∷ z ∷ []) × ((three k l m).good q ≡ true)) s (
      ap (λ (i : List ℕ). i ∷ (l a).print b ∷ (m a b).print c ∷ []) ra.0 ∙ (ap (λ (i : List ℕ). x ∷ i ∷ (m a b).print c ∷ []) rb.0 ∙ ap (λ (i : List ℕ). x ∷ y ∷ i ∷ []) rc.0),
      and_from (k.good a) ((l a).good b && (m a b).good c) ra.1 (and_from ((l a).good b) ((m a b).good c) rb.1 rc.1),
    )

pub four_back : {A B C D : Type 0} (k : Codec A) (l : Codec B) (m : Codec C) (n : Codec D) → Backs k → Backs l → Backs m → Backs n → RowBacks (four k l m n)
four_back k l m n wk wl wm wn at [] p e = not_ok (Line (FieldCount at)) p e
four_back k l m n wk wl wm wn at (x ∷ []) p e = not_ok (Line (FieldCount at)) p e
four_back k l m n wk wl wm wn at (x ∷ y ∷ []) p e = not_ok (Line (FieldCount at)) p e
four_back k l m n wk wl wm wn at (x ∷ y ∷ z ∷ []) p e = not_ok (Line (FieldCount at)) p e
four_back k l m n wk wl wm wn at (x ∷ y ∷ z ∷ w ∷ v ∷ fs) p e = not_ok (Line (FieldCount at)) p e
four_back {A} {B} {C} {D} k l m n wk wl wm wn at (x ∷ y ∷ z ∷ w ∷ []) p e =
    let at2 = behind at x in
    let at3 = behind at2 y in
    let at4 = behind at3 z in
    let u = on_ok (k.parse at x) (λ a. on (l.parse at2 y) (λ b. on (m.parse at3 z) (λ c. on (n.parse at4 w) (λ d. Ok (a, b, c, d))))) p e in
    let a = u.0 in
    let ra = wk at x a u.1 in
    let v = on_ok (l.parse at2 y) (λ b. on (m.parse at3 z) (λ c. on (n.parse at4 w) (λ d. Ok (a, b, c, d)))) p u.2 in
    let b = v.0 in
    let rb = wl at2 y b v.1 in
    let t = on_ok (m.parse at3 z) (λ c. on (n.parse at4 w) (λ d. Ok (a, b, c, d))) p v.2 in
    let c = t.0 in
    let rc = wm at3 z c t.1 in
    let o = on_ok (n.parse at4 w) (λ d. Ok (a, b, c, d)) p t.2 in
    let d = o.0 in
    let rd = wn at4 w d o.1 in
    let f = o.2 in
    let s : (a, b, c, d) ≡ p = cc in
    subst (λ (q : A × B × C × D). ((four k l m n).print q ≡ x ∷ y ∷ z ∷ w ∷ []) × ((four k l m n).good q ≡ true)) s (
      ap (λ (i : List ℕ). i ∷ l.print b ∷ m.print c ∷ n.print d ∷ []) ra.0 ∙ (ap (λ (i : List ℕ). x ∷ i ∷ m.print c ∷ n.print d ∷ []) rb.0 ∙ (ap (λ (i : List ℕ). x ∷ y ∷ i ∷ n.print d ∷ []) rc.0 ∙ ap (λ (i : List ℕ). x ∷ y ∷ z ∷ i ∷ []) rd.0)),
      and_from (k.good a) (l.good b && (m.good c && n.good d)) ra.1 (and_from (l.good b) (m.good c && n.good d) rb.1 (and_from (m.good c) (n.good d) rc.1 rd.1)),
    )

-- ---- the row of each key

mag_low : (low : ℤ) → (integer lowest highest).good low ≡ true → mag low < 2 ^ 63
mag_low low g = mag_between lowest highest low g (omega arith) (omega arith)

mag_high : (low high : ℤ) → (integer lowest highest).good low ≡ true → (integer low highest).good high ≡ true → mag high < 2 ^ 63
mag_high low high g h = mag_between low highest high h (mag_low low g) (omega arith)

pub row_back : (n : There) (k : Key) → RowBacks (row n k)
row_back n Form = one_back (count 1 1) (count_back 1 1 (omega arith))
row_back n Autos = one_back (count 1 8) (count_back 1 8 (omega arith))
row_back n Clocks = one_back (count 0 16) (count_back 0 16 (omega arith))
row_back n Triggers = one_back (count 0 16) (count_back 0 16 (omega arith))
row_back n Chans = one_back (count 0 8) (count_back 0 8 (omega arith))
row_back n Var =
    three_back (integer lowest highest) (λ low. integer low highest) (λ low high. integer low high) (integer_back lowest highest (omega arith) (omega arith))
    (λ low g. integer_back low highest (mag_low low g) (omega arith)) (λ low high g h. integer_back low high (mag_low low g) (mag_high low high g h))
row_back n Task = three_back (count 1 longest) (λ c. count c longest) (λ c d. count 0 255) (count_back 1 longest (omega arith)) (λ c g. count_back c longest (omega arith)) (λ c d g h. count_back 0 255 (omega arith))
row_back n Set =
    three_back (reference n.variables) (λ v. optional (reference n.variables)) (λ v w. integer lowest highest) (reference_back n.variables)
    (λ v g. optional_back (reference n.variables) (reference_back n.variables)) (λ v w g h. integer_back lowest highest (omega arith) (omega arith))
row_back n Loc = two_back (reference n.automata) (optional (reference n.tasks)) (reference_back n.automata) (optional_back (reference n.tasks) (reference_back n.tasks))
row_back n Inv = three_back (reference n.clocks) (λ c. strictness) (λ c r. count 0 last_tick) (reference_back n.clocks) (λ c g. strictness_back) (λ c r g h. count_back 0 last_tick (omega arith))
row_back n Edge = three_back (reference n.locations) (λ f. reference n.locations) (λ f t. label n.triggers n.channels) (reference_back n.locations) (λ f g. reference_back n.locations) (λ f t g h. label_back n.triggers n.channels)
row_back n Clk = three_back (reference n.clocks) (λ c. relation) (λ c r. count 0 last_tick) (reference_back n.clocks) (λ c g. relation_back) (λ c r g h. count_back 0 last_tick (omega arith))
row_back n Dif = four_back (reference n.clocks) (reference n.clocks) relation (integer (negsuc 999999999) (pos last_tick)) (reference_back n.clocks) (reference_back n.clocks) relation_back (integer_back (negsuc 999999999) (pos last_tick) (omega arith) (omega arith))
row_back n Val = three_back (reference n.variables) (λ v. relation) (λ v r. integer lowest highest) (reference_back n.variables) (λ v g. relation_back) (λ v r g h. integer_back lowest highest (omega arith) (omega arith))
row_back n Zero = one_back (reference n.clocks) (reference_back n.clocks)
row_back n Edges = one_back (count 0 128) (count_back 0 128 (omega arith))

-- what is written does not depend on what is there
pub print_same : (n : There) (k : Key) (f : Fields k) → (row n k).print f ≡ (row nothing_there k).print f
print_same n Form f = refl
print_same n Autos f = refl
print_same n Clocks f = refl
print_same n Triggers f = refl
print_same n Chans f = refl
print_same n Var f = refl
print_same n Task f = refl
print_same n Set f = refl
print_same n Loc f = refl
print_same n Inv f = refl
print_same n Edge f = refl
print_same n Clk f = refl
print_same n Dif f = refl
print_same n Val f = refl
print_same n Zero f = refl
print_same n Edges f = refl
