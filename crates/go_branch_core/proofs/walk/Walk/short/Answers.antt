use Rattle.std.proofs.Common.{true}
use Rattle.go_tree_nodes.specs.Shapes.{shape_exprs}
use Rattle.go_tree_nodes.specs.TypeShapes.{shape_idents}
use Rattle.go_tree_nodes.specs.Trees.{Define}
use Rattle.go_tree_nodes.specs.Spelling.{spell_simple}
use Rattle.go_local_core.specs.Steps.{Act}
use Rattle.go_local_core.specs.Outline.{idents, end_of}
use Rattle.go_branch_core.proofs.Stepping.{declared_at}
use Rattle.go_branch_core.proofs.walk.Walk.short.Goals as goal

pub returns : goal.returns
returns g c =
    let self = c.args.self.now in
    let tree = Define (shape_idents c.args.definition.now.names) c.args.definition.now.define (shape_exprs c.args.definition.now.values) in
    declared_at g.C.Meaning.Meant.outside (g.C.Checker.rules self.checker.now) (g.met.C.Checker.at_names self.checker.now) c.declare.result self.scopes c.declare.new.scopes self.locals.items c.declare.new.locals.items
    self.notes.items c.check_short.new.notes.items self.faults.items c.declare.new.faults.items self.lacks_memory true
    (end_of (spell_simple tree)) (Act tree) (idents (shape_idents c.args.definition.now.names))
    c.in_ok-news.news c.as_slice-firsts.result.now c.in_ok-means.means.items c.as_slice-2.result.now c.at-names.result c.as_slice.result.now
    c.at-names.ensures.scopes c.at-names.ensures.locals c.as_slice.ensures.value c.requires c.in_ok-news.ensures c.as_slice-firsts.ensures.value c.as_slice-2.ensures.value
    c.in_ok-means.ensures.notes c.in_ok-means.ensures.means c.declare.ensures.faults c.declare.ensures.scene
