use Rattle.std.proofs.Common.{◌≡◌, ℕ, ◌+◌, ◌%◌, ◌<◌, [], ◌∷◌, decimal, sym, ap, ◌∙◌, arith}
use Rattle.std.proofs.lemmas.Fmt.{decimal_step, decimal_digit}
use Rattle.output.proofs.Given.{gives_then, gives_as, gives_from}
use Rattle.output.proofs.+put_natural.Goals as goal
use Rattle.output.proofs.+put_natural.Goals.{then-n-ge10, else-n-ge10}

-- a number of one digit
only : (n : ℕ) → n < 10 → (48 + n % 10) ∷ [] ≡ decimal n
only n h = let e : n % 10 ≡ n = omega arith in ap (λ (d : ℕ). (48 + d) ∷ []) e ∙ sym (decimal_digit n h)

pub returns : goal.returns
returns g t c =
    elim c.if-n-ge10.branch [
      | then-n-ge10 w ↦ gives_as (sym (decimal_step c.args.n (omega arith) (omega arith))) (gives_then w.put_natural.ensures (gives_from (sym w.out-is) c.put.ensures))
      | else-n-ge10 w ↦ gives_as (only c.args.n (omega arith)) (gives_from (sym w.out-is) c.put.ensures)
    ]
