-- What is left of a buffer, and what it holds, when more bytes are given.
use Rattle.std.proofs.Common.{◌≡◌, ℕ, ◌+◌, ◌≤◌, Option, Some, None, List, ◌++◌, length, Result, Ok, Err, is_err, false, ap, ◌∙◌, append_assoc, arith, length-append, length-drop}
use Rattle.std.proofs.Math.Seq.{take-append_seam, drop-append-add}
use Rattle.std.proofs.lemmas.List.{drop-drop}
use Rattle.output.specs.declared.OutputShort.{OutputShort}
use Rattle.output.specs.Giving.{Written, Added, laid}

written_on : (n : ℕ) (buffer start given bytes : List ℕ) → n + length bytes ≤ length buffer → Written (Some n) buffer start given → Written (Some (n + length bytes)) (laid n bytes buffer) start (given ++ bytes)
written_on n buffer start given bytes l h =
    let s : length buffer ≡ length start = ap length h.0 ∙ simp (length-append, length-drop) (omega arith) in
    (simp (h.1, h.0, take-append_seam, drop-append-add, drop-drop, append_assoc, length-append), simp length-append (omega arith), simp length-append (omega arith))

-- bytes that were added
pub written_more : (len : Option ℕ) (buffer bytes : List ℕ) (len_after : Option ℕ) (after : List ℕ) (r : Result Unit OutputShort) (start given : List ℕ) → Added len buffer bytes len_after after r → is_err r ≡ false → Written len buffer start given → Written len_after after start (given ++ bytes)
written_more len buffer bytes len_after after (Err f) start given a e h = absurd (let z : ◌≡◌ {A = ℕ} 0 1 = cc in omega arith)
written_more None buffer bytes len_after after (Ok _) start given a e h = absurd a
written_more (Some n) buffer bytes len_after after (Ok _) start given a e h = rw (a.1, a.2) (written_on n buffer start given bytes a.0 h)
