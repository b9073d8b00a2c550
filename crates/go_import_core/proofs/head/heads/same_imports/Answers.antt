use Rattle.std.proofs.Common.{◌<◌, subst}
use Rattle.go_tree_nodes.specs.Shapes.{import_of}
use Rattle.go_import_core.specs.head.Heads.{spelled_in}
use Rattle.go_tree_nodes.specs.declared.files.ImportDecl.{ImportDecl}
use Rattle.go_graph_core.proofs.ToldApart.{told_apart}
use Rattle.go_import_core.proofs.head.heads.same_imports.Goals as goal

pub returns-then-not-is_same_import : goal.returns-then-not-is_same_import
returns-then-not-is_same_import c = told_apart (λ (i : ImportDecl). spelled_in (import_of i).specs) c.args.imports.now c.args.others.now c.loop-place.place c.index-imports-place.result c.index-others-place.result c.is_same_import.result c.loop-place-test.true (subst (λ n. c.loop-place.place < n) c.if-imports-others.false c.loop-place-test.true) c.index-imports-place.is c.index-others-place.is c.is_same_import.ensures c.if-not-is_same_import.true
