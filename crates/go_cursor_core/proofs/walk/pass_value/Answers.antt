use Rattle.std.proofs.Common.{refl, ap}
use Rattle.go_tree_nodes.specs.Shapes.{shape_value_specs}
use Rattle.go_expr_core.specs.local_core.Outline.{specs_steps}
use Rattle.go_expr_core.specs.local_core.WalksVisits.{whole}
use Rattle.go_expr_core.specs.local_core.WalksStepLemmas.{group, one_spec}
use Rattle.go_cursor_core.specs.mirrors.Searching.{Leads}
use Rattle.go_cursor_core.proofs.States.{same, leads_none}
use Rattle.go_cursor_core.proofs.walk.pass_value.Goals as goal

pub returns-after-loop-line : goal.returns-after-loop-line
returns-after-loop-line c =
    same _ _ _ _ (ap (λ o. specs_steps c.args.value.now.kind (shape_value_specs o)) c.in-Group.is)
    (whole Leads (group c.args.value.now.kind) (one_spec c.args.value.now.kind) refl (λ x xs. refl) leads_none c.args.search.now c.deref-line-items.result.now c.in-Group.lines.items c.loop-line.line-index _ c.deref-line-items.ensures.value c.loop-line-test.false c.loop-line.invariant)
