use Rattle.go_import_core.specs.list.mirrors.Visits.{line_texts}
use Rattle.go_import_core.proofs.ListVisited.{texts_more}
use Rattle.go_import_core.proofs.list.reaching.visit_lines.Goals as goal

pub loop-line-preserved : goal.loop-line-preserved
loop-line-preserved c =
    texts_more c.args.packages.now c.args.from.now line_texts c.args.lines.now c.loop-line.line-index c.line-item.result c.args.marks.now c.loop-line.marks c.visit_spec.new.marks c.args.stack.now.items c.loop-line.stack.items c.visit_spec.new.stack.items c.loop-line-test.true c.line-item.is c.loop-line.invariant c.in_ok-visit_spec.ensures
