use Rattle.std.proofs.Common.{ap, sym, ◌∙◌}
use Rattle.go_tree_nodes.specs.Trees.{Single, Group}
use Rattle.go_tree_nodes.specs.Shapes.{shape_import_specs}
use Rattle.go_tree_core.specs.copies.Respelled.{spelled, specs_with, import_spec_with}
use Rattle.go_tree_core.proofs.CopiesUnchanged.{import_of}
use Rattle.go_tree_core.proofs.copies.stmt_copies.copy_import.Goals as goal
use Rattle.go_tree_core.proofs.copies.stmt_copies.copy_import.Goals.{in-One+in-Ok, in-Group+in-Ok-copy_import_lines}

pub returns : goal.returns
returns c = elim c.match-import.branch [
  | in-One+in-Ok w ↦
      ap (import_of c.args.import.now.keyword c.args.import.now.semicolon)
      (ap shape_import_specs w.specs-is ∙ ap Single w.in-Ok.ensures ∙ sym (ap (λ s. specs_with (import_spec_with (spelled c.args.copier.now)) (shape_import_specs s)) w.in-One.is))
  | in-Group+in-Ok-copy_import_lines w ↦
      ap (import_of c.args.import.now.keyword c.args.import.now.semicolon)
      (ap shape_import_specs w.specs-is ∙ ap (λ l. Group w.in-Group.«open» l w.in-Group.close) w.in-Ok-copy_import_lines.ensures ∙ sym (ap (λ s. specs_with (import_spec_with (spelled c.args.copier.now)) (shape_import_specs s)) w.in-Group.is))
]
