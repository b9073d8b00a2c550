use Rattle.std.proofs.Common.{ap}
use Rattle.go_tree_nodes.specs.Shapes.{shape_import_line}
use Rattle.go_tree_core.specs.copies.Respelled.{spelled, line_with, import_spec_with}
use Rattle.go_tree_core.proofs.CopiesSameTrees.{one_copied, all_copied}
use Rattle.go_tree_core.proofs.copies.stmt_copies.copy_import_lines.Goals as goal

pub loop-line-preserved : goal.loop-line-preserved
loop-line-preserved c = one_copied (line_with (import_spec_with (spelled c.args.copier.now))) shape_import_line _ _ _ _ _ _ c.loop-line-test.true c.line-item.is c.in-Ok-add.ensures (ap (λ s. (s, c.line-item.result.semicolon)) c.in-Ok.ensures) c.loop-line.invariant

pub returns : goal.returns
returns c = all_copied (line_with (import_spec_with (spelled c.args.copier.now))) shape_import_line _ _ _ _ c.deref-line-items.ensures.value c.loop-line-test.false c.loop-line.invariant
