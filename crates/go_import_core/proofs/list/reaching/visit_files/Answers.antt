use Rattle.go_graph_core.specs.Imports.{import_texts}
use Rattle.go_import_core.proofs.ListVisited.{texts_more}
use Rattle.go_import_core.proofs.list.reaching.visit_files.Goals as goal

pub loop-file-preserved : goal.loop-file-preserved
loop-file-preserved c =
    texts_more c.args.packages.now c.args.from.now import_texts c.args.files.now c.loop-file.file-index c.file-item.result c.args.marks.now c.loop-file.marks c.visit_file.new.marks c.args.stack.now.items c.loop-file.stack.items c.visit_file.new.stack.items c.loop-file-test.true c.file-item.is c.loop-file.invariant c.in_ok-visit_file.ensures
