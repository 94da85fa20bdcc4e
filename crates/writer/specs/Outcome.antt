-- What writing a text into a buffer does.
use Rattle.std.specs.Prelude.{◌≡◌, ℕ, ◌<◌, List, ◌++◌, length, drop, Ok, Err, Result}
use Rattle.output.specs.declared.OutputShort.{OutputShort}

-- the text stands at the buffer's front, or it does not fit and nothing changed
abbrev pub Writes : (text before after : List ℕ) → Result ℕ OutputShort → Type 0
Writes text before after (Ok n) = (n ≡ length text) × (after ≡ text ++ drop n before)
Writes text before after (Err _) = (length before < length text) × (after ≡ before)
