use Rattle.std.proofs.Common.{◌<◌, subst}
use Rattle.go_block_core.specs.graph_core.ToldApart.{told_apart}
use Rattle.go_block_core.specs.Naming.{imported_in}
use Rattle.go_package_core.proofs.package_part.same.same_imports.Goals as goal

pub returns-then-not-is_same_file : goal.returns-then-not-is_same_file
returns-then-not-is_same_file c = told_apart imported_in c.args.files.now c.args.others.now c.loop-place.place c.index-files-place.result c.index-others-place.result c.is_same_file.result c.loop-place-test.true (subst (λ n. c.loop-place.place < n) c.if-files-others.false c.loop-place-test.true) c.index-files-place.is c.index-others-place.is c.is_same_file.ensures c.if-not-is_same_file.true
