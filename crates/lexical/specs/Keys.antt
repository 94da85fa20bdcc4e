-- The keys and their bytes.
use Rattle.std.specs.Prelude.{ℕ, cond, List, [], ◌∷◌, Some, None, codes, Option}
use Rattle.lexical.specs.declared.key.Key.{Key}
use Rattle.lexical.specs.declared.key.Key.TheVariants.{Form, Autos, Clocks, Triggers, Chans, Var, Task, Set, Loc, Inv, Edge, Clk, Dif, Val, Zero, Edges}
use Rattle.lexical.specs.Bytes.{same}

abbrev pub key_bytes : Key → List ℕ
key_bytes Form = codes "form"
key_bytes Autos = codes "autos"
key_bytes Clocks = codes "clocks"
key_bytes Triggers = codes "triggers"
key_bytes Chans = codes "chans"
key_bytes Var = codes "var"
key_bytes Task = codes "task"
key_bytes Set = codes "set"
key_bytes Loc = codes "loc"
key_bytes Inv = codes "inv"
key_bytes Edge = codes "edge"
key_bytes Clk = codes "clk"
key_bytes Dif = codes "dif"
key_bytes Val = codes "val"
key_bytes Zero = codes "zero"
key_bytes Edges = codes "edges"

abbrev pub all_keys : List Key
all_keys = Form ∷ Autos ∷ Clocks ∷ Triggers ∷ Chans ∷ Var ∷ Task ∷ Set ∷ Loc ∷ Inv ∷ Edge ∷ Clk ∷ Dif ∷ Val ∷ Zero ∷ Edges ∷ []

-- those behind the counts
abbrev pub part_keys : List Key
part_keys = Var ∷ Task ∷ Set ∷ Loc ∷ Inv ∷ Edge ∷ Clk ∷ Dif ∷ Val ∷ Zero ∷ Edges ∷ []

abbrev pub named_among : List Key → List ℕ → Option Key
named_among [] bytes = None
named_among (k ∷ ks) bytes = cond (same bytes (key_bytes k)) (Some k) (named_among ks bytes)

-- the key that bytes are, or none
abbrev pub key_named : List ℕ → Option Key
key_named = named_among all_keys
