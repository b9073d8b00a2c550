use Rattle.std.proofs.Common.{◌<◌, subst}
use Rattle.go_declared_core.specs.graph_core.ToldApart.{told_apart}
use Rattle.go_declared_core.specs.block_core.Exports.{name_and_decl}
use Rattle.go_summary_core.proofs.alike.names.same_decls.Goals as goal

pub returns-then-not-is_same_named : goal.returns-then-not-is_same_named
returns-then-not-is_same_named c = told_apart name_and_decl c.args.names.now c.args.others.now c.loop-place.place c.index-names-place.result c.index-others-place.result c.is_same_named.result c.loop-place-test.true (subst (λ n. c.loop-place.place < n) c.if-names-others.false c.loop-place-test.true) c.index-names-place.is c.index-others-place.is c.is_same_named.ensures c.if-not-is_same_named.true
