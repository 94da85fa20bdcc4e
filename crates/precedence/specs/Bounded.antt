-- The records of a bounded list, and what an insertion into it does.
use Rattle.std.specs.Prelude.{◌≡◌, ℕ, ◌<◌, Bool, List, length, take, Ok, Err, Result}
use Rattle.precedence.specs.Sorted.{put}
use Rattle.precedence.specs.Insertion.{Inserted}
use Rattle.precedence.specs.declared.bounded.BoundedList.{BoundedList}

abbrev pub records : {T : Type 0} {N : ℕ} → BoundedList T N → List T
records b = take b.len b.slots

-- The record is put at its place, and refused only where no place is left.
abbrev pub Adds : {T : Type 0} {N : ℕ} → (T → T → Bool) → T → (before after : BoundedList T N) → Result Unit T → Type 0
Adds {T} {N} g x before after (Ok _) =
    (length (records before) < N)
    × (records after ≡ put g x (records before))
    × Inserted g x (records before) (records after)
Adds {T} {N} g x before after (Err y) = (length (records before) ≡ N) × (y ≡ x) × (after ≡ before)
