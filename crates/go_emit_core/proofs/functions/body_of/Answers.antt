use Rattle.go_tree_nodes.specs.Shapes.{func_of}
use Rattle.go_emit_core.proofs.Passing.{known_within}
use Rattle.go_emit_core.proofs.functions.body_of.Goals as goal

pub passed-last-requires : goal.passed-last-requires
passed-last-requires c = known_within c.args.file.now.answers.now c.args.first (func_of c.args.func.now).open_brace.start c.requires
