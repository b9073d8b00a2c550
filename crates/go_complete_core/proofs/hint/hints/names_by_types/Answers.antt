use Rattle.go_tree_nodes.specs.Shapes.{file_of}
use Rattle.go_complete_core.proofs.hint.hints.names_by_types.Goals as goal

pub returns-in-Ok-clause-ok : goal.returns-in-Ok-clause-ok
returns-in-Ok-clause-ok c = c.in-Ok.ensures (file_of c.args.tree.now) c.requires.file
