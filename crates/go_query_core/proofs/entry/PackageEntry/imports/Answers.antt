use Rattle.std.proofs.Common.{ap, subst, ◌∙◌}
use Rattle.go_complete_core.specs.package_core.PackagePartInputs.{InputModel}
use Rattle.go_complete_core.specs.summary_core.ShownShown.{texts}
use Rattle.go_query_core.specs.Entries.{EntryOf, IsEntry}
use Rattle.go_query_core.proofs.Importing.{both_ok, shown_imports}
use Rattle.go_query_core.proofs.entry.PackageEntry.imports.Goals as goal

pub returns : goal.returns
returns c =
    let e = c.args.self.now in
    let own = subst IsEntry c.self.view_is c.self.invariant in
    let input = c.input.ensures ∙ ap (λ (x : EntryOf). x.of_part.input) c.self.view_is in
    let files = c.imports.ensures.value ∙ ap (λ (i : InputModel). i.imports) input in
    let from = ap (λ (x : EntryOf). x.from) c.self.view_is in
    both_ok c.imports_shown.result _ _ _ (λ paths order each. shown_imports e own _ _ files from (texts paths.items) order each) c.imports_shown.ensures.order c.imports_shown.ensures.each
