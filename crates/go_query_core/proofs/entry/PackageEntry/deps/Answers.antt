use Rattle.std.proofs.Common.{ap, subst, ◌∙◌}
use Rattle.std.proofs.lemmas.Result.{IfOk-weaker}
use Rattle.go_complete_core.specs.package_core.PackagePartInputs.{InputModel}
use Rattle.go_complete_core.specs.summary_core.ShownShown.{texts}
use Rattle.go_query_core.specs.Entries.{EntryOf, IsEntry}
use Rattle.go_query_core.proofs.Reaching.{shown_deps}
use Rattle.go_query_core.proofs.entry.PackageEntry.deps.Goals as goal

pub returns : goal.returns
returns c =
    let e = c.args.self.now in
    let own = subst IsEntry c.self.view_is c.self.invariant in
    let input = c.input.ensures ∙ ap (λ (x : EntryOf). x.of_part.input) c.self.view_is in
    let reached = c.reached.ensures.value ∙ ap (λ (i : InputModel). i.reached) input in
    let from = ap (λ (x : EntryOf). x.from) c.self.view_is in
    IfOk-weaker c.deps_shown.result _ _ (λ paths picks. shown_deps e own _ _ reached from (texts paths.items) picks) c.deps_shown.ensures
