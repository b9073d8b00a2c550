use Rattle.std.specs.Vec.Iter.{into_iter_items}
use Rattle.go_tree_nodes.specs.Shapes.{file_of}
use Rattle.go_package_core.proofs.PackagePartNumbering.{counted, file_within, one_more}
use Rattle.go_package_core.proofs.package_part.files.files_made.Goals as goal

pub tree-requires : goal.tree-requires
tree-requires c = file_within c.args.blocks.now c.args.package.now c.args.checked.items (into_iter_items c.loop-answers.answers-iterator) (into_iter_items c.next.new.self) c.in-Some.answers c.loop-answers.files.items c.len-file.result c.requires (counted c.loop-answers.files c.len-file.result c.len-file.ensures) c.in-Some.ensures.steps.0 c.loop-answers.invariant

pub loop-answers-preserved : goal.loop-answers-preserved
loop-answers-preserved c =
    one_more c.args.blocks.now c.args.package.now c.args.checked.items (into_iter_items c.loop-answers.answers-iterator) (into_iter_items c.next.new.self) c.in-Some.answers c.loop-answers.files.items c.add.new.all.items c.len-file.result (file_of c.tree.result.now) c.in_ok-made.made
    c.requires (counted c.loop-answers.files c.len-file.result c.len-file.ensures) c.tree.ensures.tree c.in-Some.ensures.steps.0 c.in_ok-add.ensures c.in_ok-made.ensures c.loop-answers.invariant
