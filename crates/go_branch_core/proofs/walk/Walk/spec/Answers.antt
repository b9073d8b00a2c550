use Rattle.std.proofs.Common.{false}
use Rattle.go_tree_nodes.specs.Shapes.{shape_value_spec}
use Rattle.go_tree_nodes.specs.TypeShapes.{shape_idents}
use Rattle.go_tree_nodes.specs.Spelling.{spell_value_spec}
use Rattle.go_local_core.specs.Steps.{Spec}
use Rattle.go_local_core.specs.Outline.{idents, end_of}
use Rattle.go_branch_core.proofs.Stepping.{declared_at}
use Rattle.go_branch_core.proofs.walk.Walk.spec.Goals as goal

pub returns : goal.returns
returns g c =
    let self = c.args.self.now in
    let tree = shape_value_spec c.args.spec.now in
    declared_at g.C.Meaning.Meant.outside (g.C.Checker.rules self.checker.now) (g.met.C.Checker.at_names self.checker.now) c.declare.result self.scopes c.declare.new.scopes self.locals.items c.declare.new.locals.items
    self.notes.items c.check_spec.new.notes.items self.faults.items c.declare.new.faults.items self.lacks_memory false
    (end_of (spell_value_spec tree)) (Spec c.args.kind tree) (idents (shape_idents c.args.spec.now.names))
    c.in_ok-news.news c.as_slice-firsts.result.now c.in_ok-means.means.items c.as_slice-2.result.now c.at-names.result c.as_slice.result.now
    c.at-names.ensures.scopes c.at-names.ensures.locals c.as_slice.ensures.value c.requires c.in_ok-news.ensures c.as_slice-firsts.ensures.value c.as_slice-2.ensures.value
    c.in_ok-means.ensures.notes c.in_ok-means.ensures.means c.declare.ensures.faults c.declare.ensures.scene
