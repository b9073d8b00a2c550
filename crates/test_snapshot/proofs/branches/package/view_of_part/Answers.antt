use Rattle.std.proofs.Common.{◌≡◌, sym, subst, ◌∙◌}
use Rattle.go_package_core.specs.summary_core.Views.{PathsAreApart}
use Rattle.test_snapshot.proofs.branches.package.view_of_part.Goals as goal

pub view_of-requires : goal.view_of-requires
view_of-requires c =
    let told : c.deref.result.now ≡ c.input.result.now.reached = c.deref.ensures.value ∙ (c.in_ok-summaries.ensures ∙ c.reached.ensures.value) in
    subst PathsAreApart (sym told) c.reached.ensures.well.reached.apart
