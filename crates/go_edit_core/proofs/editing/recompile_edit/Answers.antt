use Rattle.std.proofs.Common.{◌≡◌, sym, subst, ◌∙◌}
use Rattle.go_edit_core.specs.Edits.{DifferAt, IsChange}
use Rattle.go_edit_core.proofs.editing.recompile_edit.Goals as goal

pub unchanged-requires : goal.unchanged-requires
unchanged-requires c =
    let same : c.packages-before.result.now ≡ c.packages-packages.result.now = subst (IsChange c.packages-before.result.now c.packages-packages.result.now) c.in-Nothing.is c.change_of-change.ensures in
    sym (c.packages-before.ensures.packages ∙ c.sources-sources.ensures.value) ∙ (same ∙ c.packages-packages.ensures.packages)

pub edited-requires : goal.edited-requires
edited-requires c =
    let differ = subst (IsChange c.packages-before.result.now c.packages-packages.result.now) c.in-One.is c.change_of-change.ensures in
    subst (λ l. DifferAt l c.args.workspace.now c.in-One.number) (c.packages-before.ensures.packages ∙ c.sources-sources.ensures.value)
    (subst (λ l. DifferAt c.packages-before.result.now l c.in-One.number) c.packages-packages.ensures.packages differ)
