use Rattle.std.proofs.Common.{[], ◌∷◌, map}
use Rattle.std.specs.List.{flat_map}
use Rattle.std.proofs.lemmas.List.Concat.{flat_map_single}
use Rattle.sequence.specs.Whole.{plan}
use Rattle.grammar.specs.Writing.{count_items, variable_item, task_items, location_items, edge_items, last_item}
use Rattle.output.proofs.Given.{gives_then, gives_as}
use Rattle.writer.proofs.Pieces.{six_kinds}
use Rattle.writer.proofs.SequenceLines.write.Goals as goal

pub returns : goal.returns
returns g c =
    let p = plan c.args.self.now in
    gives_as (six_kinds (count_items p.counts) (map variable_item p.variables) (flat_map task_items p.tasks) (flat_map location_items p.locations) (flat_map edge_items p.edges) (last_item p ∷ []))
    (gives_then (simp c.counts.ensures at c.write.ensures)
    (gives_then (simp (c.variables.ensures, flat_map_single) at c.write_all.ensures)
    (gives_then (simp c.tasks.ensures at c.write_all-2.ensures)
    (gives_then (simp c.locations.ensures at c.write_all-3.ensures)
    (gives_then (simp c.edges.ensures at c.write_all-4.ensures)
    (simp c.edges-2.ensures at c.put_line.ensures))))))
