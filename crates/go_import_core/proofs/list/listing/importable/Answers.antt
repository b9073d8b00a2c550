use Rattle.std.proofs.Common.{List, ℕ, subst}
use Rattle.std.specs.Prelude.{◌↔◌, Contains, IfOk}
use Rattle.go_graph_core.specs.Workspaces.{PackageModel}
use Rattle.go_import_core.specs.list.Importing.{IsImportable}
use Rattle.go_import_core.proofs.list.listing.importable.Goals as goal

pub returns-clause-exact : goal.returns-clause-exact
returns-clause-exact c =
    subst (λ (l : List PackageModel). IfOk c.importable_among.result (λ numbers. (n : ℕ) → Contains numbers.items n ↔ IsImportable l c.args.own n)) c.packages.ensures.packages c.importable_among.ensures.exact
