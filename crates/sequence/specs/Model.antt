-- What a draft and a sequence hold, as the lists of their parts.
use Rattle.std.specs.Prelude.{◌≡◌, Ok, Err, Result}
use Rattle.parts.specs.declared.part.Rule.{Rule}
use Rattle.sequence.specs.declared.draft.Draft.{Draft}
use Rattle.sequence.specs.Plan.{Plan}
use Rattle.sequence.specs.Listed.{plan_at}

abbrev pub plan_of : Draft → Plan
plan_of d = plan_at d.counts d.lists

-- a part was added as the outcome says, or its rule is named and nothing changed
abbrev pub Adds : (outcome : Result Plan Rule) → (before after : Plan) → Result Unit Rule → Type 0
Adds outcome before after (Ok _) = outcome ≡ Ok after
Adds outcome before after (Err rule) = (outcome ≡ Err rule) × (after ≡ before)
