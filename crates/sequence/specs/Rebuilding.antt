-- Every sequence can be built: its parts, put in again, give it.
use Rattle.std.specs.Prelude.{◌≡◌, List, [], ◌∷◌, Ok, Err, Result}
use Rattle.parts.specs.declared.part.Rule.{Rule}
use Rattle.sequence.specs.declared.whole.Sequence.{Sequence}
use Rattle.sequence.specs.Plan.{Plan, Valid}
use Rattle.sequence.specs.Building.{begin, add_variable, add_task, add_location, add_edge}
use Rattle.sequence.specs.Whole.{plan}

-- go on with a plan, or stay refused
abbrev pub and_then : Result Plan Rule → (Plan → Result Plan Rule) → Result Plan Rule
and_then (Ok p) next = next p
and_then (Err r) next = Err r

-- parts of one kind, added one by one
abbrev pub add_all : {X : Type 0} → (Plan → X → Result Plan Rule) → List X → Plan → Result Plan Rule
add_all add [] p = Ok p
add_all add (x ∷ xs) p = and_then (add p x) (add_all add xs)

-- a plan begun again and given the same parts
abbrev pub rebuilt : Plan → Result Plan Rule
rebuilt p =
    and_then (begin p.counts) (λ a.
    and_then (add_all add_variable p.variables a) (λ b.
    and_then (add_all add_task p.tasks b) (λ c.
    and_then (add_all add_location p.locations c) (λ d.
    add_all add_edge p.edges d))))

-- a sequence is valid, and every valid plan is built from its own parts
abbrev pub EverySequenceIsBuilt : Type 0
EverySequenceIsBuilt = ((s : Sequence) → Valid (plan s)) × ((p : Plan) → Valid p → rebuilt p ≡ Ok p)
