use Rattle.std.proofs.Common.{◌∙◌, sym}
use Rattle.go_graph_core.specs.Workspaces.{is_path_inside}
use Rattle.go_graph_core.proofs.Keeping.{some_kept, on_err}
use Rattle.go_graph_core.proofs.workspace.share_inside.Goals as goal

pub returns-in_err-share-clause-memory : goal.returns-in_err-share-clause-memory
returns-in_err-share-clause-memory c =
    on_err c.from_residual.result
    (some_kept (λ p. is_path_inside c.args.own.now p.0) c.args.packages.now c.loop-package.package-index c.package-item.result c.loop-package-test.true c.package-item.is (sym c.lies_inside.ensures ∙ c.if-lies_inside.true))

pub returns-in_err-add-clause-memory : goal.returns-in_err-add-clause-memory
returns-in_err-add-clause-memory c =
    on_err c.from_residual-in_err-add.result
    (some_kept (λ p. is_path_inside c.args.own.now p.0) c.args.packages.now c.loop-package.package-index c.package-item.result c.loop-package-test.true c.package-item.is (sym c.lies_inside.ensures ∙ c.if-lies_inside.true))
