use Rattle.std.proofs.Common.{[], ◌∷◌, ◌++◌, ap, ◌∙◌}
use Rattle.go_tree_nodes.specs.Shapes.{file_of}
use Rattle.govisd_resolve.proofs.Putting.{are_refused, refused_alone}
use Rattle.govisd_resolve.proofs.alone.imports_alone.Goals as goal

pub file_imports-requires : goal.file_imports-requires
file_imports-requires c = are_refused c.args.workspace.now c.requires.0 (file_of c.args.tree.now) c.in_ok-plan.plan c.requires.1 c.in_ok-plan.ensures

pub returns : goal.returns
returns c =
    refused_alone c.args.workspace.now c.in_ok-plan.plan (file_of c.args.tree.now) c.add.new.all.items c.in_ok-of_file.of_file c.in_ok-plan.ensures
    (c.in_ok-add.ensures ∙ ap (λ l. l ++ c.in_ok-of_file.of_file ∷ []) c.new-imports.ensures.items) c.in_ok-of_file.ensures
