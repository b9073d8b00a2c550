use Rattle.std.proofs.Common.{ap, sym, ◌∙◌}
use Rattle.go_tree_nodes.specs.Trees.{Single, Group}
use Rattle.go_tree_nodes.specs.Shapes.{shape_type_specs}
use Rattle.go_tree_core.specs.copies.Respelled.{spelled, specs_with, type_spec_with}
use Rattle.go_tree_core.proofs.CopiesUnchanged.{type_decl_of}
use Rattle.go_tree_core.proofs.copies.stmt_copies.copy_type_decl.Goals as goal
use Rattle.go_tree_core.proofs.copies.stmt_copies.copy_type_decl.Goals.{in-One+in-Ok, in-Group+in-Ok-copy_type_lines}

pub returns : goal.returns
returns c = elim c.match-types.branch [
  | in-One+in-Ok w ↦
      ap (type_decl_of c.args.types.now.keyword)
      (ap shape_type_specs w.specs-is ∙ ap Single w.in-Ok.ensures ∙ sym (ap (λ s. specs_with (type_spec_with (spelled c.args.copier.now)) (shape_type_specs s)) w.in-One.is))
  | in-Group+in-Ok-copy_type_lines w ↦
      ap (type_decl_of c.args.types.now.keyword)
      (ap shape_type_specs w.specs-is ∙ ap (λ l. Group w.in-Group.«open» l w.in-Group.close) w.in-Ok-copy_type_lines.ensures ∙ sym (ap (λ s. specs_with (type_spec_with (spelled c.args.copier.now)) (shape_type_specs s)) w.in-Group.is))
]
