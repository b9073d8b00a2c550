use Rattle.go_graph_core.proofs.Keeping.{tests_inside}
use Rattle.go_import_core.proofs.head.outside.is_inside.Goals as goal

pub returns : goal.returns
returns c = tests_inside c.args.own.now c.args.path.now c.contains.result c.contains.ensures.0 c.contains.ensures.1
