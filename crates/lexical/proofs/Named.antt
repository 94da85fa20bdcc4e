-- Bytes that are a key's, and bytes that are no key's.
use Rattle.std.proofs.Common.{◌≡◌, ◌≢◌, ℕ, List, [], ◌∷◌, length, Some, None, sym, refl, ap, ◌∙◌}
use Rattle.std.proofs.lemmas.Slice.Eq.{HasBytesAt, text_from_reads}
use Rattle.std.proofs.lemmas.Bool.{cond-false}
use Rattle.lexical.specs.declared.key.Key.{Key}
use Rattle.lexical.specs.declared.key.Key.TheVariants.{Form, Autos, Clocks, Triggers, Chans, Var, Task, Set, Loc, Inv, Edge, Clk, Dif, Val, Zero, Edges}
use Rattle.lexical.specs.Bytes.{same}
use Rattle.lexical.specs.Keys.{key_bytes, key_named, named_among, all_keys}
use Rattle.lexical.proofs.Parting.{same_false}

known_self : (k : Key) → Some k ≡ key_named (key_bytes k)
known_self Form = refl
known_self Autos = refl
known_self Clocks = refl
known_self Triggers = refl
known_self Chans = refl
known_self Var = refl
known_self Task = refl
known_self Set = refl
known_self Loc = refl
known_self Inv = refl
known_self Edge = refl
known_self Clk = refl
known_self Dif = refl
known_self Val = refl
known_self Zero = refl
known_self Edges = refl

pub known : (k : Key) (bs : List ℕ) → length bs ≡ length (key_bytes k) → HasBytesAt bs 0 (key_bytes k) → Some k ≡ key_named bs
known k bs n h = known_self k ∙ ap key_named (sym (text_from_reads bs (key_bytes k) n h))

none_among : (ks : List Key) (bs : List ℕ) → ((k : Key) → bs ≢ key_bytes k) → None ≡ named_among ks bs
none_among [] bs n = refl
none_among (k ∷ ks) bs n = none_among ks bs n ∙ sym (cond-false (same bs (key_bytes k)) (Some k) (named_among ks bs) (same_false bs (key_bytes k) (n k)))

pub none_named : (bs : List ℕ) → ((k : Key) → bs ≢ key_bytes k) → None ≡ key_named bs
none_named bs n = none_among all_keys bs n
