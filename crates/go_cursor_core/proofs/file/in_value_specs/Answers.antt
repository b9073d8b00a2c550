use Rattle.std.proofs.Common.{refl, sym, ap, ◌∙◌}
use Rattle.go_tree_nodes.specs.Trees.{of_specs}
use Rattle.go_tree_nodes.specs.Shapes.{shape_value_specs}
use Rattle.go_cursor_core.specs.Used.{first_used, spec_used}
use Rattle.go_cursor_core.proofs.Finding.{passed, hit}
use Rattle.go_cursor_core.proofs.TreeLists.{listed_specs, one_spec}
use Rattle.go_cursor_core.proofs.file.in_value_specs.Goals as goal

pub returns-then-is_some : goal.returns-then-is_some
returns-then-is_some c =
    hit c.args.start listed_specs one_spec (λ n. refl) (λ n x xs. refl) c.deref-line-items.result.now c.in-Group.lines.items c.loop-line.line-index c.line-item.result c.in_spec-found.result c.deref-line-items.ensures.value c.loop-line-test.true c.line-item.is c.loop-line.invariant c.in_spec-found.ensures (sym c.is_some.ensures ∙ c.if-is_some.true)
    ∙ sym (ap (λ s. first_used c.args.start (of_specs spec_used (shape_value_specs s))) c.in-Group.is)

pub loop-line-preserved : goal.loop-line-preserved
loop-line-preserved c =
    passed c.args.start listed_specs one_spec (λ n. refl) (λ n x xs. refl) c.deref-line-items.result.now c.loop-line.line-index c.line-item.result c.in_spec-found.result c.loop-line-test.true c.line-item.is c.loop-line.invariant c.in_spec-found.ensures (sym c.is_some.ensures ∙ c.if-is_some.false)
