use Rattle.go_tree_nodes.specs.Shapes.{shape_value_spec}
use Rattle.go_decl_core.proofs.Naming.{names_first, names_next, names_done}
use Rattle.go_decl_core.proofs.file_places.list_names.Goals as goal

pub loop-before-init : goal.loop-before-init
loop-before-init c = names_first c.args.kind (shape_value_spec c.args.spec.now) c.args.spec.now.names.first _ _ c.kind_of_value-decl_kind.result c.kind_of_value-decl_kind.ensures c.add.ensures

pub loop-before-preserved : goal.loop-before-preserved
loop-before-preserved c = names_next c.args.kind (shape_value_spec c.args.spec.now) c.args.spec.now.names.first _ _ c.deref-next-items.result.now c.loop-before.before c.next-item.result c.kind_of_value-decl_kind.result c.loop-before-test.true c.next-item.is c.kind_of_value-decl_kind.ensures c.loop-before.invariant c.add-in-loop-before.ensures

pub returns : goal.returns
returns c = names_done c.args.kind (shape_value_spec c.args.spec.now) c.args.spec.now.names.first _ _ c.deref-next-items.result.now c.args.spec.now.names.more.items c.loop-before.before c.deref-next-items.ensures.value c.loop-before-test.false c.loop-before.invariant
