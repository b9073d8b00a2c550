use Rattle.std.proofs.Common.{◌≡◌, map, sym, ap, subst, ◌∙◌}
use Rattle.std.specs.Prelude.{is_some}
use Rattle.go_snap_core.specs.whole_workspace.Inputs.{AreParts}
use Rattle.go_snap_core.specs.make.Keeping.{AreKept}
use Rattle.go_edit_core.proofs.KeptParts.{all_kept}
use Rattle.go_edit_core.proofs.editing.unchanged.Goals as goal

pub joined-requires : goal.joined-requires
joined-requires c =
    let was = c.args.earlier.now.parts in
    let parts : c.in_ok-parts.parts ≡ was = c.in_ok-parts.ensures ∙ c.parts.ensures in
    subst (AreParts c.args.workspace.now) (sym parts) (subst (λ l. AreParts l was) c.requires c.sources-sources.ensures.whole.made)

pub returns-clause-kept : goal.returns-clause-kept
returns-clause-kept c =
    let was = c.args.earlier.now.parts in
    let made = c.in_ok-made.made in
    let parts : made.snapshot.parts ≡ was = c.in_ok-made.ensures.parts ∙ (c.in_ok-parts.ensures ∙ c.parts.ensures) in
    let marks : made.kept.items ≡ map is_some was = ap (λ v. v.items) c.in_ok-made.ensures.kept ∙ (c.in_ok-kept.ensures ∙ ap (map is_some) c.parts-2.ensures) in
    subst (λ l. AreKept was l made.kept.items) (sym parts) (subst (AreKept was was) (sym marks) (all_kept was))
