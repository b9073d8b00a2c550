use Rattle.std.proofs.Common.{ℕ, List, ◌<◌, length, sym, subst}
use Rattle.std.specs.Prelude.{◌↔◌, All, Contains}
use Rattle.std.specs.List.{AllZip}
use Rattle.std.proofs.lemmas.Result.{IfOk-weaker}
use Rattle.go_import_core.specs.graph_core.Workspaces.{PackageModel}
use Rattle.go_import_core.specs.list.Importing.{IsImportable}
use Rattle.go_query_core.specs.Listing.{IsEntryOf}
use Rattle.go_query_core.specs.Parts.{HasPart}
use Rattle.go_query_core.proofs.Listed.{have_parts}
use Rattle.go_query_core.proofs.listing.importable_entries.Goals as goal

pub importable-requires : goal.importable-requires
importable-requires c = subst (λ (l : List PackageModel). c.args.own < length l) (sym c.sources-sources.ensures.value) c.requires

pub entries_of-requires : goal.entries_of-requires
entries_of-requires c =
    let s = c.args.snapshot.now in
    let exact = subst (λ (l : List PackageModel). (n : ℕ) → Contains c.in_ok-numbers.numbers.items n ↔ IsImportable l c.args.own n) c.sources-sources.ensures.value c.in_ok-numbers.ensures.exact in
    subst (λ (l : List ℕ). All (HasPart s) l) (sym c.deref.ensures.value) (have_parts s c.sources-sources.ensures.whole c.args.own c.in_ok-numbers.numbers.items exact)

pub returns : goal.returns
returns c =
    let s = c.args.snapshot.now in
    let exact = subst (λ (l : List PackageModel). (n : ℕ) → Contains c.in_ok-numbers.numbers.items n ↔ IsImportable l c.args.own n) c.sources-sources.ensures.value c.in_ok-numbers.ensures.exact in
    IfOk-weaker c.entries_of.result _ _ (λ entries h. (c.in_ok-numbers.numbers.items, c.in_ok-numbers.ensures.rising, exact, subst (λ (l : List ℕ). AllZip (IsEntryOf s c.args.from.now) l entries.items) c.deref.ensures.value h)) c.entries_of.ensures
