use Rattle.std.proofs.Common.{ap}
use Rattle.lexical.specs.declared.key.Key.TheVariants.{Edges}
use Rattle.sequence.specs.Model.{plan_of}
use Rattle.sequence.proofs.Sound.{sound_facts}
use Rattle.reader.proofs.Taken.{variable, task, assignment, location, invariant, edge, clock, difference, value, reset, taken, refused, by_kind}
use Rattle.reader.proofs.take.take_value.Goals as goal
use Rattle.reader.proofs.take.take_value.Goals.{in-Var+in_ok-variable_line-in-Var, in-Task+in_ok-task_line-in-Task, in-Set+in_ok-assignment_line-in-Set, in-Loc+in_ok-location_line-in-Loc, in-Inv+in_ok-invariant_line-in-Inv, in-Edge+in_ok-edge_line-in-Edge, in-Clk+in_ok-clock_line-in-Clk, in-Dif+in_ok-difference_line-in-Dif, in-Val+in_ok-value_line-in-Val, in-Zero+in_ok-reset_line-in-Zero}

pub returns-in_err-variable_line-in-Var : goal.returns-in_err-variable_line-in-Var
returns-in_err-variable_line-in-Var c =
    refused (variable _ _) c.args.value.bytes.now c.present-present.ensures c.in-Var.is c.in_err-variable_line-in-Var.ensures _ c.from_residual.ensures.1

pub returns-in_err-task_line-in-Task : goal.returns-in_err-task_line-in-Task
returns-in_err-task_line-in-Task c =
    refused (task _ _) c.args.value.bytes.now c.present-present.ensures c.in-Task.is c.in_err-task_line-in-Task.ensures _ c.from_residual-in_err-task_line-in-Task.ensures.1

pub returns-in_err-assignment_line-in-Set : goal.returns-in_err-assignment_line-in-Set
returns-in_err-assignment_line-in-Set c =
    refused (assignment _ _ (sound_facts _ c.args.draft.now.valid)) c.args.value.bytes.now c.present-present.ensures c.in-Set.is c.in_err-assignment_line-in-Set.ensures _ c.from_residual-in_err-assignment_line-in-Set.ensures.1

pub returns-in_err-location_line-in-Loc : goal.returns-in_err-location_line-in-Loc
returns-in_err-location_line-in-Loc c =
    refused (location _ _) c.args.value.bytes.now c.present-present.ensures c.in-Loc.is c.in_err-location_line-in-Loc.ensures _ c.from_residual-in_err-location_line-in-Loc.ensures.1

pub returns-in_err-invariant_line-in-Inv : goal.returns-in_err-invariant_line-in-Inv
returns-in_err-invariant_line-in-Inv c =
    refused (invariant _ _) c.args.value.bytes.now c.present-present.ensures c.in-Inv.is c.in_err-invariant_line-in-Inv.ensures _ c.from_residual-in_err-invariant_line-in-Inv.ensures.1

pub returns-in_err-edge_line-in-Edge : goal.returns-in_err-edge_line-in-Edge
returns-in_err-edge_line-in-Edge c =
    refused (edge _ _) c.args.value.bytes.now c.present-present.ensures c.in-Edge.is c.in_err-edge_line-in-Edge.ensures _ c.from_residual-in_err-edge_line-in-Edge.ensures.1

pub returns-in_err-clock_line-in-Clk : goal.returns-in_err-clock_line-in-Clk
returns-in_err-clock_line-in-Clk c =
    refused (clock _ _ (sound_facts _ c.args.draft.now.valid)) c.args.value.bytes.now c.present-present.ensures c.in-Clk.is c.in_err-clock_line-in-Clk.ensures _ c.from_residual-in_err-clock_line-in-Clk.ensures.1

pub returns-in_err-difference_line-in-Dif : goal.returns-in_err-difference_line-in-Dif
returns-in_err-difference_line-in-Dif c =
    refused (difference _ _ (sound_facts _ c.args.draft.now.valid)) c.args.value.bytes.now c.present-present.ensures c.in-Dif.is c.in_err-difference_line-in-Dif.ensures _ c.from_residual-in_err-difference_line-in-Dif.ensures.1

pub returns-in_err-value_line-in-Val : goal.returns-in_err-value_line-in-Val
returns-in_err-value_line-in-Val c =
    refused (value _ _ (sound_facts _ c.args.draft.now.valid)) c.args.value.bytes.now c.present-present.ensures c.in-Val.is c.in_err-value_line-in-Val.ensures _ c.from_residual-in_err-value_line-in-Val.ensures.1

pub returns-in_err-reset_line-in-Zero : goal.returns-in_err-reset_line-in-Zero
returns-in_err-reset_line-in-Zero c =
    refused (reset _ _) c.args.value.bytes.now c.present-present.ensures c.in-Zero.is c.in_err-reset_line-in-Zero.ensures _ c.from_residual-in_err-reset_line-in-Zero.ensures.1

pub returns-in-Edges : goal.returns-in-Edges
returns-in-Edges c = by_kind (plan_of c.args.draft.now) c.args.value.at c.args.value.bytes.now (plan_of c.args.draft.now) c.take_edge_count.result c.args.key Edges c.in-Edges.is c.take_edge_count.ensures

pub returns : goal.returns
returns c =
    elim c.match-key.branch [
      | in-Var+in_ok-variable_line-in-Var w ↦ taken (variable _ _) c.args.value.bytes.now c.present-present.ensures w.in-Var.is w.in_ok-variable_line-in-Var.ensures w.add_variable-added.ensures (ap plan_of w.draft-is) w.added-is _ c.placed.ensures
      | in-Task+in_ok-task_line-in-Task w ↦ taken (task _ _) c.args.value.bytes.now c.present-present.ensures w.in-Task.is w.in_ok-task_line-in-Task.ensures w.add_task-added.ensures (ap plan_of w.draft-is) w.added-is _ c.placed.ensures
      | in-Set+in_ok-assignment_line-in-Set w ↦ taken (assignment _ _ (sound_facts _ c.args.draft.now.valid)) c.args.value.bytes.now c.present-present.ensures w.in-Set.is w.in_ok-assignment_line-in-Set.ensures w.add_assignment-added.ensures (ap plan_of w.draft-is) w.added-is _ c.placed.ensures
      | in-Loc+in_ok-location_line-in-Loc w ↦ taken (location _ _) c.args.value.bytes.now c.present-present.ensures w.in-Loc.is w.in_ok-location_line-in-Loc.ensures w.add_location-added.ensures (ap plan_of w.draft-is) w.added-is _ c.placed.ensures
      | in-Inv+in_ok-invariant_line-in-Inv w ↦ taken (invariant _ _) c.args.value.bytes.now c.present-present.ensures w.in-Inv.is w.in_ok-invariant_line-in-Inv.ensures w.add_invariant-added.ensures (ap plan_of w.draft-is) w.added-is _ c.placed.ensures
      | in-Edge+in_ok-edge_line-in-Edge w ↦ taken (edge _ _) c.args.value.bytes.now c.present-present.ensures w.in-Edge.is w.in_ok-edge_line-in-Edge.ensures w.add_edge-added.ensures (ap plan_of w.draft-is) w.added-is _ c.placed.ensures
      | in-Clk+in_ok-clock_line-in-Clk w ↦ taken (clock _ _ (sound_facts _ c.args.draft.now.valid)) c.args.value.bytes.now c.present-present.ensures w.in-Clk.is w.in_ok-clock_line-in-Clk.ensures w.add_condition-added.ensures (ap plan_of w.draft-is) w.added-is _ c.placed.ensures
      | in-Dif+in_ok-difference_line-in-Dif w ↦ taken (difference _ _ (sound_facts _ c.args.draft.now.valid)) c.args.value.bytes.now c.present-present.ensures w.in-Dif.is w.in_ok-difference_line-in-Dif.ensures w.add_condition-added-in-Dif.ensures (ap plan_of w.draft-is) w.added-is _ c.placed.ensures
      | in-Val+in_ok-value_line-in-Val w ↦ taken (value _ _ (sound_facts _ c.args.draft.now.valid)) c.args.value.bytes.now c.present-present.ensures w.in-Val.is w.in_ok-value_line-in-Val.ensures w.add_condition-added-in-Val.ensures (ap plan_of w.draft-is) w.added-is _ c.placed.ensures
      | in-Zero+in_ok-reset_line-in-Zero w ↦ taken (reset _ _) c.args.value.bytes.now c.present-present.ensures w.in-Zero.is w.in_ok-reset_line-in-Zero.ensures w.add_reset-added.ensures (ap plan_of w.draft-is) w.added-is _ c.placed.ensures
    ]
