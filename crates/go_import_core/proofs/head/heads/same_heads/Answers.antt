use Rattle.std.proofs.Common.{◌<◌, subst}
use Rattle.go_import_core.specs.head.Heads.{spelled_head_of_file}
use Rattle.go_graph_core.proofs.ToldApart.{told_apart}
use Rattle.go_import_core.proofs.head.heads.same_heads.Goals as goal

pub returns-then-not-is_same_head : goal.returns-then-not-is_same_head
returns-then-not-is_same_head c = told_apart spelled_head_of_file c.args.files.now c.args.others.now c.loop-place.place c.index-files-place.result c.index-others-place.result c.is_same_head.result c.loop-place-test.true (subst (λ n. c.loop-place.place < n) c.if-files-others.false c.loop-place-test.true) c.index-files-place.is c.index-others-place.is c.is_same_head.ensures c.if-not-is_same_head.true
