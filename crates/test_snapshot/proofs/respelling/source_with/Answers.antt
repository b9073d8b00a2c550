use Rattle.std.proofs.Common.{◌≡◌, List, sym, ap, subst, ◌∙◌, slice_set}
use Rattle.std.specs.List.Sorted.{IsStrictlySortedBy}
use Rattle.std.proofs.lemmas.List.{take_all}
use Rattle.go_site_core.specs.graph_core.Packages.{trees_of}
use Rattle.go_site_core.specs.graph_core.Workspaces.{by_bytes, names_of_files}
use Rattle.go_declared_core.specs.block_core.Naming.{HaveOneEach}
use Rattle.go_declared_core.specs.block_core.declared.imports.Imported.{Imported}
use Rattle.test_snapshot.proofs.LikeFiles.{imports_stay, made_stays, names_stay}
use Rattle.test_snapshot.proofs.respelling.source_with.Goals as goal

pub new-requires-clause-order : goal.new-requires-clause-order
new-requires-clause-order c =
    let old = c.args.package.now.1 in
    let all : c.loop-source.files.items ≡ old = c.loop-source.invariant ∙ (take_all c.loop-source.source-index c.files-sources.result.now c.loop-source-test.false ∙ c.files-sources.ensures.files) in
    let same : names_of_files (slice_set c.loop-source.files.items c.args.file c.args.changed) ≡ names_of_files old =
    ap (λ l. names_of_files (slice_set l c.args.file c.args.changed)) all ∙ names_stay old c.args.file c.args.changed c.requires.there c.requires.alike in
    subst (λ l. IsStrictlySortedBy by_bytes l) (sym same) c.files-sources.ensures.well.order

pub returns-clause-imports : goal.returns-clause-imports
returns-clause-imports c =
    let old = c.args.package.now.1 in
    let all : c.loop-source.files.items ≡ old = c.loop-source.invariant ∙ (take_all c.loop-source.source-index c.files-sources.result.now c.loop-source-test.false ∙ c.files-sources.ensures.files) in
    made_stays c.new.result _ old (slice_set c.loop-source.files.items c.args.file c.args.changed) c.new.ensures
    (subst (λ l. (is : List (List Imported)) → HaveOneEach (trees_of old) is → HaveOneEach (trees_of (slice_set l c.args.file c.args.changed)) is) (sym all) (imports_stay old c.args.file c.args.changed c.requires.there c.requires.alike))
