use Rattle.go_graph_core.proofs.Numbers.{path_is_utf8}
use Rattle.go_import_core.proofs.ListVisited.{text_malformed}
use Rattle.go_import_core.proofs.list.reaching.visit_bytes.Goals as goal

pub returns-in_default : goal.returns-in_default
returns-in_default c = text_malformed c.args.packages.now c.args.from.now c.args.text.now c.args.marks.now c.args.stack.now.items (λ path. c.in_default.ensures.cases.0 (path_is_utf8 c.args.text.now path))
