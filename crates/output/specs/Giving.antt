-- Bytes given to a sink, one after another.
use Rattle.std.specs.Prelude.{◌≡◌, ℕ, ◌+◌, ◌<◌, ◌≤◌, List, ◌++◌, length, take, drop, Ok, Err, Result, Option, Some, None}
use Rattle.output.specs.declared.OutputShort.{OutputShort}

-- a sink that was s is t once it was given the bytes, over the same buffer
pub record Gives {S : Type 0} (holds : S → List ℕ → List ℕ → Type 0) (lender : S → ℕ) (s : S) (bytes : List ℕ) (t : S) : Type 0 where
  pub further : (start given : List ℕ) → holds s start given → holds t start (given ++ bytes)
  pub same : lender t ≡ lender s

-- so many places of a buffer are left behind what was given, or none where more was given than fits
abbrev pub Counted : (left : Option ℕ) (start given : List ℕ) → Type 0
Counted None start given = length start < length given
Counted (Some n) start given = n + length given ≡ length start

-- a buffer that began as start has the bytes at its front, so many, and is unchanged behind them; none where more was given than fits
abbrev pub Written : (len : Option ℕ) (buffer start given : List ℕ) → Type 0
Written None buffer start given = length start < length given
Written (Some n) buffer start given = (buffer ≡ given ++ drop (length given) start) × (n ≡ length given) × (length given ≤ length start)

-- bytes laid over a buffer from a place on
abbrev pub laid : ℕ → (bytes buffer : List ℕ) → List ℕ
laid at bytes buffer = take at buffer ++ (bytes ++ drop (at + length bytes) buffer)

-- all of the bytes stand behind the first n of the buffer, or they do not fit and nothing changed; a cursor that is short takes none
abbrev pub Added : (len : Option ℕ) (buffer bytes : List ℕ) → (len_after : Option ℕ) (buffer_after : List ℕ) → Result Unit OutputShort → Type 0
Added None buffer bytes len_after buffer_after (Ok _) = ⊥
Added None buffer bytes len_after buffer_after (Err _) = (len_after ≡ None) × (buffer_after ≡ buffer)
Added (Some n) buffer bytes len_after buffer_after (Ok _) = (n + length bytes ≤ length buffer) × (len_after ≡ Some (n + length bytes)) × (buffer_after ≡ laid n bytes buffer)
Added (Some n) buffer bytes len_after buffer_after (Err _) = (length buffer < n + length bytes) × (len_after ≡ Some n) × (buffer_after ≡ buffer)
