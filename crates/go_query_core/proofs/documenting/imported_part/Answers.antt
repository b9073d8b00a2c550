use Rattle.std.proofs.Common.{List, ◌<◌, length, inr, sym, subst}
use Rattle.go_import_core.specs.graph_core.declared.imports.ImportOutcome.TheVariants.{Package, Refused}
use Rattle.go_import_core.specs.graph_core.Workspaces.{PackageModel}
use Rattle.go_import_core.specs.list.Importing.{IsJudgedAt}
use Rattle.go_query_core.proofs.Listed as listed
use Rattle.go_query_core.proofs.documenting.imported_part.Goals as goal

pub judge_import-requires : goal.judge_import-requires
judge_import-requires c = subst (λ (l : List PackageModel). c.args.own < length l) (sym c.sources-sources.ensures.value) c.requires

pub part_there-requires : goal.part_there-requires
part_there-requires c =
    let judged = rw c.in-Ok-Package.field-0-is at c.in-Ok-Package.ensures in
    let own = subst (λ (l : List PackageModel). IsJudgedAt l c.args.own c.args.path.now (Package c.in-Ok-Package.number)) c.sources-sources.ensures.value judged in
    listed.imported_part c.args.snapshot.now c.sources-sources.ensures.whole c.args.own c.args.path.now c.in-Ok-Package.number own

pub returns-in-Ok-Package-clause-ok : goal.returns-in-Ok-Package-clause-ok
returns-in-Ok-Package-clause-ok c =
    let judged = rw c.in-Ok-Package.field-0-is at c.in-Ok-Package.ensures in
    let own = subst (λ (l : List PackageModel). IsJudgedAt l c.args.own c.args.path.now (Package c.in-Ok-Package.number)) c.sources-sources.ensures.value judged in
    record { to = c.in-Ok-Package.number; judged = own; there = c.part_there.ensures }

pub returns-in-Ok-Refused-clause-err : goal.returns-in-Ok-Refused-clause-err
returns-in-Ok-Refused-clause-err c =
    let judged = rw c.in-Ok-Refused.field-0-is at c.in-Ok-Refused.ensures in
    inr (subst (λ (l : List PackageModel). IsJudgedAt l c.args.own c.args.path.now (Refused c.in-Ok-Refused.rule)) c.sources-sources.ensures.value judged)
