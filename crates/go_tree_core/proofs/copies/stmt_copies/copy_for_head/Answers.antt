use Rattle.std.proofs.Common.{ap, sym, ◌∙◌}
use Rattle.go_tree_nodes.specs.Trees.{While, Clauses}
use Rattle.go_tree_nodes.specs.Shapes.{shape_some_expr, shape_some_simple, shape_for}
use Rattle.go_tree_core.specs.copies.Respelled.{spelled, some_with, expr_with, simple_with, for_with}
use Rattle.go_tree_core.proofs.CopiesSameTrees.{of_made}
use Rattle.go_tree_core.proofs.copies.stmt_copies.copy_for_head.Goals as goal

pub returns-in-Ok : goal.returns-in-Ok
returns-in-Ok c = ap While c.in-Ok.ensures ∙ sym (ap (λ i. for_with (spelled c.args.copier.now) (shape_for i)) c.in-While.is)

pub returns-in-Ok-both : goal.returns-in-Ok-both
returns-in-Ok-both c =
    let w = c.in-Clauses in
    let h = spelled c.args.copier.now in
    let test = shape_some_expr c.in-Ok-both.copy.1.0 in
    let post = shape_some_simple c.in-Ok-both.copy.1.1 in
    let made = of_made _ _ _ c.in-Ok-both.ensures.1 c.both.ensures in
    ap (λ s. Clauses s w.first test w.second post) (of_made _ _ _ c.in-Ok-both.ensures.0 c.copy_some_simple-init.ensures)
    ∙ ap (λ e. Clauses (some_with (simple_with h) (shape_some_simple w.init)) w.first e w.second post) (of_made _ _ _ made.0 c.copy_some_expr-condition.ensures)
    ∙ ap (Clauses (some_with (simple_with h) (shape_some_simple w.init)) w.first (some_with (expr_with h) (shape_some_expr w.condition)) w.second) (of_made _ _ _ made.1 c.copy_some_simple-post.ensures)
    ∙ sym (ap (λ i. for_with h (shape_for i)) w.is)
