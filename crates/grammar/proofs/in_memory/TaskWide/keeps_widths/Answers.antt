use Rattle.std.proofs.Common.{◌≡◌, ◌≤◌, length, rules}
use Rattle.std.proofs.lemmas.Bool.{and_from, le-leb}
use Rattle.grammar.specs.Widths.{assignment_in_widths}
use Rattle.grammar.proofs.Kept.{kept_group}
use Rattle.grammar.proofs.in_memory.TaskWide.keeps_widths.Goals as goal

pub returns : goal.returns
returns c =
    let t = c.args.self in
    let places : length t.assignments ≡ 4 = search rules in
    let small : t.priority ≤ 255 = search rules in
    and_from _ _ (le-leb t.priority 255 small) (kept_group assignment_in_widths 4 t.assignments places c.all_keep_widths.ensures)
