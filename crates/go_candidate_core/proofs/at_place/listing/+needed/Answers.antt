use Rattle.std.proofs.Common.{refl, ◌∙◌}
use Rattle.go_tree_nodes.specs.declared.exprs.«Item» as declared_item
use Rattle.go_tree_nodes.specs.Shapes.{shape, items_of}
use Rattle.go_expr_core.specs.Locality.{needed_types, needed_types_in}
use Rattle.go_expr_core.proofs.Steps.{ok_adds, ok_both}
use Rattle.go_expr_core.proofs.TypeTurns.{step}
use Rattle.go_candidate_core.proofs.AtPlaceNeeding.{call_needs, literal_needs, none_more, struct_literal_needs}
use Rattle.go_candidate_core.proofs.at_place.listing.+needed.Goals as goal

pub list_needed-returns-in_ok-list_needed-in-Call : goal.list_needed-returns-in_ok-list_needed-in-Call
list_needed-returns-in_ok-list_needed-in-Call t c =
    let w = c.in-Call in
    ok_both c.list_needed_args.result _ _ _ _ _ _ c.in_ok-list_needed-in-Call.ensures (call_needs c.args.expr.now w.call c.deref-in-Call.result.now c.deref-in-Call-2.result.now w.is c.deref-in-Call.ensures c.deref-in-Call-2.ensures) c.list_needed_args.ensures

pub list_needed-returns-in-Literal : goal.list_needed-returns-in-Literal
list_needed-returns-in-Literal t c = none_more _ _ (literal_needs c.args.expr.now c.in-Literal.field-0 c.in-Literal.is)

pub list_needed-returns-in-StructLiteral : goal.list_needed-returns-in-StructLiteral
list_needed-returns-in-StructLiteral t c =
    let w = c.in-StructLiteral in
    ok_adds c.list_type.result _ _ _ _ (struct_literal_needs c.args.expr.now w.literal c.deref-in-StructLiteral.result.now w.is c.deref-in-StructLiteral.ensures) c.list_type.ensures

pub list_needed_args-loop-item-preserved : goal.list_needed_args-loop-item-preserved
list_needed_args-loop-item-preserved t c =
    step (λ l. needed_types_in (items_of l)) (λ (y : declared_item.Item). needed_types (shape y.value)) (λ y ys. refl) c.deref-item-items.result.now c.loop-item.item-index c.item-item.result c.loop-item-test.true c.item-item.is _ _ c.in_ok-list_needed.ensures
    ∙ c.loop-item.invariant
