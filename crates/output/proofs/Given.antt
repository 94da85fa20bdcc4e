-- Pieces given one after another are their bytes in a row.
use Rattle.std.proofs.Common.{◌≡◌, ℕ, List, ◌++◌, sym, ◌∙◌, subst, append_assoc}
use Rattle.output.specs.Giving.{Gives}

module _ {S : Type 0} {holds : S → List ℕ → List ℕ → Type 0} {lender : S → ℕ} where
  pub gives_then : {s t u : S} {a b : List ℕ} → Gives holds lender s a t → Gives holds lender t b u → Gives holds lender s (a ++ b) u
  gives_then {s} {t} {u} {a} {b} p q = record {
    further = λ start given h. rw (← append_assoc) (q.further start (given ++ a) (p.further start given h));
    same = q.same ∙ p.same;
  }

  pub gives_as : {s t : S} {a b : List ℕ} → a ≡ b → Gives holds lender s a t → Gives holds lender s b t
  gives_as {s} {t} e p = let P : List ℕ → Type 0 = λ x. Gives holds lender s x t in subst P e p

  pub gives_from : {s t u : S} {a : List ℕ} → s ≡ t → Gives holds lender t a u → Gives holds lender s a u
  gives_from {s} {t} {u} {a} e p = let P : S → Type 0 = λ x. Gives holds lender x a u in subst P (sym e) p
