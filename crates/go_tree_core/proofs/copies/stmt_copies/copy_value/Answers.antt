use Rattle.std.proofs.Common.{ap, sym, ◌∙◌}
use Rattle.go_tree_nodes.specs.Trees.{Single, Group}
use Rattle.go_tree_nodes.specs.Shapes.{shape_value_specs}
use Rattle.go_tree_core.specs.copies.Respelled.{spelled, specs_with, value_spec_with}
use Rattle.go_tree_core.proofs.CopiesUnchanged.{value_of}
use Rattle.go_tree_core.proofs.copies.stmt_copies.copy_value.Goals as goal
use Rattle.go_tree_core.proofs.copies.stmt_copies.copy_value.Goals.{in-One+in-Ok, in-Group+in-Ok-copy_value_lines}

pub returns : goal.returns
returns c = elim c.match-value.branch [
  | in-One+in-Ok w ↦
      ap (value_of c.args.value.now.kind c.args.value.now.keyword)
      (ap shape_value_specs w.specs-is ∙ ap Single w.in-Ok.ensures ∙ sym (ap (λ s. specs_with (value_spec_with (spelled c.args.copier.now)) (shape_value_specs s)) w.in-One.is))
  | in-Group+in-Ok-copy_value_lines w ↦
      ap (value_of c.args.value.now.kind c.args.value.now.keyword)
      (ap shape_value_specs w.specs-is ∙ ap (λ l. Group w.in-Group.«open» l w.in-Group.close) w.in-Ok-copy_value_lines.ensures ∙ sym (ap (λ s. specs_with (value_spec_with (spelled c.args.copier.now)) (shape_value_specs s)) w.in-Group.is))
]
