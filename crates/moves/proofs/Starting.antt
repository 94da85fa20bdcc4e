-- The parts of the state that a run starts in, place by place.
use Rattle.std.proofs.Common.{◌≡◌, ℕ, zero, suc, ◌+◌, ◌<◌, ◌≤◌, Bool, true, false, cond, not, ◌&&◌, eqb, ltb, leb, List, [], ◌∷◌, length, get_or, take, map, position, replicate, ℤ, pos, Some, None, Option, sym, refl, ap, ◌∙◌, subst, add-zero, arith}
use Rattle.std.proofs.lemmas.Bool.{lt-ltb, and_parts, leb-true}
use Rattle.std.proofs.lemmas.Bool.Decides.{nat_tests}
use Rattle.std.proofs.lemmas.List.FromFn.{fill_by_all, take-map-range_with_len}
use Rattle.std.specs.Array.{IsFromFnResult, IsFromFnResultFrom}
use Rattle.std.specs.Fn.{Mut, Called}
use Rattle.std.specs.List.{range_with_len, position_or_len}
use Rattle.std.specs.Option.{unwrap_or}
use Rattle.parts.specs.declared.part.Location.{Location}
use Rattle.parts.specs.declared.part.Variable.{Variable}
use Rattle.jobs.specs.declared.job.Job.{Job}
use Rattle.sources.specs.declared.trigger.Trigger.{Trigger}
use Rattle.sequence.specs.Plan.{Plan, sound}
use Rattle.sequence.proofs.Sound.{sound_facts}
use Rattle.runs.specs.declared.event.Phase.TheVariants.{Late}
use Rattle.runs.specs.State.{State, lowest, starting_places, starting_values, start}
use Rattle.runs.specs.Values.{no_variable}

-- the first location of an automaton, or 0 where none is found, is its lowest
abbrev place_of : ℕ → List Location → ℕ
place_of a ls = position_or_len (λ (l : Location). eqb l.automaton a) ls

lowest_from : (a i : ℕ) (ls : List Location) → unwrap_or (cond (ltb (place_of a ls) (length ls)) (Some (i + place_of a ls)) None) 0 ≡ lowest a i ls
lowest_from a i [] = refl
lowest_from a i (l ∷ ls) = by (lowest_from a (i + 1) ls) (eqb l.automaton a)
  where
    by : unwrap_or (cond (ltb (place_of a ls) (length ls)) (Some ((i + 1) + place_of a ls)) None) 0 ≡ lowest a (i + 1) ls → (b : Bool) → unwrap_or (cond (ltb (cond (not b) (1 + place_of a ls) 0) (length (l ∷ ls))) (Some (i + cond (not b) (1 + place_of a ls) 0)) None) 0 ≡ cond b i (lowest a (i + 1) ls)
    by h true = let e : ltb 0 (length (l ∷ ls)) ≡ true = lt-ltb 0 (length (l ∷ ls)) (omega arith) in ap (λ t. unwrap_or (cond t (Some (i + 0)) None) 0) e ∙ add-zero i
    by h false =
        let e : ltb (1 + place_of a ls) (length (l ∷ ls)) ≡ ltb (place_of a ls) (length ls) = grind (arith, nat_tests) in
        let f : i + (1 + place_of a ls) ≡ (i + 1) + place_of a ls = omega arith in
        ap (λ t. unwrap_or (cond t (Some (i + (1 + place_of a ls))) None) 0) e ∙ (ap (λ k. unwrap_or (cond (ltb (place_of a ls) (length ls)) (Some k) None) 0) f ∙ h)

pub lowest_is : (a : ℕ) (ls : List Location) (r : Option ℕ) → r ≡ position (λ (l : Location). eqb l.automaton a) ls → unwrap_or r 0 ≡ lowest a 0 ls
lowest_is a ls r e = let z : 0 + place_of a ls ≡ place_of a ls = omega arith in
    ap (λ o. unwrap_or o 0) e ∙ (ap (λ k. unwrap_or (cond (ltb (place_of a ls) (length ls)) (Some k) None) 0) (sym z) ∙ lowest_from a 0 ls)

-- a list made by calls at the numbers below its length, each of which gives what h gives
module _ {F X : Type 0} (g : Mut F (ℕ × Unit {0}) X) (f : F) (h : ℕ → X) (calls : (i : ℕ) (y : X) (q : F) → Called g f (i, tt) y q → (q ≡ f) × (y ≡ h i)) (xs : List X) (d : X) where
  made_at : (n i k : ℕ) → IsFromFnResultFrom g f xs i n → k < n → get_or xs (i + k) d ≡ h (i + k)
  made_at zero i k m l = absurd (omega arith)
  made_at (suc n) i zero m l =
      let z : i + 0 ≡ i = omega arith in
      ap (λ j. get_or xs j d) z ∙ (m.2.1 d ∙ ((calls i m.1 m.0 m.3).1 ∙ ap h (sym z)))
  made_at (suc n) i (suc k) m l =
      let z : i + suc k ≡ (i + 1) + k = omega arith in
      let rest = subst (λ q. IsFromFnResultFrom g q xs (i + 1) n) (calls i m.1 m.0 m.3).0 m.4 in
      ap (λ j. get_or xs j d) z ∙ (made_at n (i + 1) k rest (omega arith) ∙ ap h (sym z))

  pub made : (n : ℕ) → IsFromFnResult g f xs n → xs ≡ map h (range_with_len 0 n)
  made n m = fill_by_all h xs n d m.long (λ k l. let z : 0 + k ≡ k = omega arith in ap (λ j. get_or xs j d) (sym z) ∙ (made_at n 0 k m.each l ∙ ap h z))

  pub made_first : (n k : ℕ) → k ≤ n → IsFromFnResult g f xs n → take k xs ≡ map h (range_with_len 0 k)
  made_first n k l m = ap (take k) (made n m) ∙ take-map-range_with_len h 0 n k l

pub places_made : (n a : ℕ) (ls : List Location) → map (λ k. lowest k 0 ls) (range_with_len a n) ≡ starting_places n a ls
places_made zero a ls = refl
places_made (suc n) a ls = ap (λ ps. lowest a 0 ls ∷ ps) (places_made n (a + 1) ls)

start_at : (vs : List Variable) (k : ℕ) → k < length vs → get_or (starting_values vs) k (pos 0) ≡ (get_or vs k no_variable).start
start_at [] k l = absurd (omega arith)
start_at (v ∷ vs) zero l = refl
start_at (v ∷ vs) (suc k) l = start_at vs k (omega arith)

starts : (vs : List Variable) → length (starting_values vs) ≡ length vs
starts [] = refl
starts (v ∷ vs) = ap suc (starts vs)

pub values_made : (vs : List Variable) → map (λ k. (get_or vs k no_variable).start) (range_with_len 0 (length vs)) ≡ starting_values vs
values_made vs = sym (fill_by_all (λ k. (get_or vs k no_variable).start) (starting_values vs) (length vs) (pos 0) (starts vs) (start_at vs))

-- limits of the counts
pub record Few (p : Plan) : Type 0 where
  pub automata : p.counts.automata ≤ 8
  pub clocks : p.counts.clocks ≤ 16
  pub triggers : p.counts.triggers ≤ 16
  pub variables : length p.variables ≤ 16
  pub locations : length p.locations ≤ 64

pub few : (p : Plan) → sound p ≡ true → Few p
few p h =
    let s = sound_facts p h in
    let c = p.counts in
    let a = (and_parts (leb 1 c.automata) (leb c.automata 8 && (leb c.clocks 16 && (leb c.triggers 16 && leb c.channels 8))) s.counts).1 in
    let b = and_parts (leb c.automata 8) (leb c.clocks 16 && (leb c.triggers 16 && leb c.channels 8)) a in
    let d = and_parts (leb c.clocks 16) (leb c.triggers 16 && leb c.channels 8) b.1 in
    let e = and_parts (leb c.triggers 16) (leb c.channels 8) d.1 in
    record { automata = leb-true _ _ b.0; clocks = leb-true _ _ d.0; triggers = leb-true _ _ e.0; variables = s.few_variables; locations = s.few_locations }

pub start_is : (p : Plan) (ts : List Trigger) (places zeroed : List ℕ) (values : List ℤ) (jobs : List Job) (present : List Bool) →
    places ≡ starting_places p.counts.automata 0 p.locations → zeroed ≡ replicate p.counts.clocks 0 → values ≡ starting_values p.variables → jobs ≡ [] → present ≡ replicate p.counts.triggers false →
    ◌≡◌ {A = State} (record { plan = p; now = 0; phase = Late; places = places; zeroed = zeroed; values = values; waiting = jobs; next = 0; present = present; steps = 0; ended = false; coming = ts }) (start p ts)
start_is p ts places zeroed values jobs present a b c d e = simp (a, b, c, d, e)
