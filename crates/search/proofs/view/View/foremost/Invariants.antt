use Rattle.search.specs.Views.{state_of, Covers, Rises}
use Rattle.search.proofs.Candidates.{ShutBefore, UnfitBefore}
use Rattle.search.proofs.view.View.foremost.Given as goal

-- no candidate in front is open
abbrev pub invariant-loop-e : goal.invariant-loop-e
invariant-loop-e l = Rises l.candidates → Covers (state_of l.self) l.candidates → ShutBefore (state_of l.self) l.candidates l.e-index

-- no candidate in front fits
abbrev pub invariant-loop-p : goal.invariant-loop-p
invariant-loop-p l = UnfitBefore (state_of l.self) l.candidates l.e l.p-index
