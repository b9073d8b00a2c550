use Rattle.std.proofs.Common.{◌<◌, subst}
use Rattle.go_tree_nodes.specs.declared.files.ImportLine.{ImportLine}
use Rattle.go_graph_core.proofs.ToldApart.{told_apart}
use Rattle.go_import_core.proofs.head.heads.same_lines.Goals as goal

pub returns-then-not-is_same_line : goal.returns-then-not-is_same_line
returns-then-not-is_same_line c = told_apart (λ (l : ImportLine). l.spec.path.spelled) c.args.lines.now c.args.others.now c.loop-place.place c.index-lines-place.result c.index-others-place.result c.is_same_line.result c.loop-place-test.true (subst (λ n. c.loop-place.place < n) c.if-lines-others.false c.loop-place-test.true) c.index-lines-place.is c.index-others-place.is c.is_same_line.ensures c.if-not-is_same_line.true
