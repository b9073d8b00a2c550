use Rattle.std.proofs.Common.{refl, sym, ap, ◌∙◌}
use Rattle.go_tree_nodes.specs.Trees.{of_specs}
use Rattle.go_tree_nodes.specs.Shapes.{shape_type_specs}
use Rattle.go_cursor_core.specs.Used.{first_used, type_used}
use Rattle.go_cursor_core.proofs.Finding.{passed, hit}
use Rattle.go_cursor_core.proofs.TreeLists.{listed_types, one_type}
use Rattle.go_cursor_core.proofs.file.in_type_specs.Goals as goal

pub returns-then-is_some : goal.returns-then-is_some
returns-then-is_some c =
    hit c.args.start listed_types one_type (λ n. refl) (λ n x xs. refl) c.deref-line-items.result.now c.in-Group.lines.items c.loop-line.line-index c.line-item.result c.in_type-found.result c.deref-line-items.ensures.value c.loop-line-test.true c.line-item.is c.loop-line.invariant c.in_type-found.ensures (sym c.is_some.ensures ∙ c.if-is_some.true)
    ∙ sym (ap (λ s. first_used c.args.start (of_specs (λ y. type_used y.type_expr) (shape_type_specs s))) c.in-Group.is)

pub loop-line-preserved : goal.loop-line-preserved
loop-line-preserved c =
    passed c.args.start listed_types one_type (λ n. refl) (λ n x xs. refl) c.deref-line-items.result.now c.loop-line.line-index c.line-item.result c.in_type-found.result c.loop-line-test.true c.line-item.is c.loop-line.invariant c.in_type-found.ensures (sym c.is_some.ensures ∙ c.if-is_some.false)
