-- A sequence, as the lists of its parts.
use Rattle.sequence.specs.declared.whole.Sequence.{Sequence}
use Rattle.sequence.specs.Plan.{Plan}
use Rattle.sequence.specs.Model.{plan_of}

abbrev pub plan : Sequence → Plan
plan s = plan_of s.draft
