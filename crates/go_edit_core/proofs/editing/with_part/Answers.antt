use Rattle.std.proofs.Common.{◌≡◌, false, length, map, Some, sym, ap, subst, ◌∙◌, arith}
use Rattle.std.specs.Prelude.{is_some, slice_set}
use Rattle.std.proofs.lemmas.List.{length-map}
use Rattle.std.proofs.lemmas.Option.{slice_get_within}
use Rattle.go_graph_core.specs.Workspaces.{IsWorkspace}
use Rattle.go_snap_core.specs.whole_workspace.Inputs.{AreParts}
use Rattle.go_snap_core.specs.make.Keeping.{AreKept}
use Rattle.go_edit_core.proofs.EditedParts.{new_not_there, parts_after}
use Rattle.go_edit_core.proofs.KeptParts.{all_but_one}
use Rattle.go_edit_core.proofs.editing.with_part.Goals as goal

pub put-requires : goal.put-requires
put-requires c =
    let was = c.args.earlier.now.parts in
    let parts : c.in_ok-parts.parts ≡ was = c.in_ok-parts.ensures ∙ c.parts.ensures in
    let e = c.requires.edited in
    omega (arith, slice_get_within was c.args.number (Some e.old) e.had, ap length parts)

pub unmark-requires : goal.unmark-requires
unmark-requires c =
    let was = c.args.earlier.now.parts in
    let marks : c.in_ok-kept.kept.items ≡ map is_some was = c.in_ok-kept.ensures ∙ ap (map is_some) c.parts-2.ensures in
    let e = c.requires.edited in
    omega (arith, slice_get_within was c.args.number (Some e.old) e.had, ap length marks, length-map was is_some)

pub joined-requires : goal.joined-requires
joined-requires c =
    let s = c.args.earlier.now in
    let n = c.args.number in
    let parts : c.put.new.self ≡ slice_set s.parts n (Some c.args.part) = c.put.ensures ∙ ap (λ l. slice_set l n (Some c.args.part)) (c.in_ok-parts.ensures ∙ c.parts.ensures) in
    let well = subst IsWorkspace c.sources-sources.ensures.value c.packages-earlier.ensures.well in
    subst (AreParts c.args.workspace.now) (sym parts)
    (parts_after s.sources c.args.workspace.now s.parts n c.args.part well c.packages-packages.ensures.well c.outcomes_stay.ensures c.sources-sources.ensures.whole.made c.requires.alone c.requires.edited)

pub returns-clause-kept : goal.returns-clause-kept
returns-clause-kept c =
    let s = c.args.earlier.now in
    let n = c.args.number in
    let made = c.in_ok-made.made in
    let e = c.requires.edited in
    let parts : made.snapshot.parts ≡ slice_set s.parts n (Some c.args.part)
    = c.in_ok-made.ensures.parts ∙ (c.put.ensures ∙ ap (λ l. slice_set l n (Some c.args.part)) (c.in_ok-parts.ensures ∙ c.parts.ensures)) in
    let marks : made.kept.items ≡ slice_set (map is_some s.parts) n false
    = ap (λ v. v.items) c.in_ok-made.ensures.kept ∙ (c.unmark.ensures ∙ ap (λ l. slice_set l n false) (c.in_ok-kept.ensures ∙ ap (map is_some) c.parts-2.ensures)) in
    let well = subst IsWorkspace c.sources-sources.ensures.value c.packages-earlier.ensures.well in
    let none = new_not_there s.sources c.args.workspace.now s.parts n c.args.part well c.packages-packages.ensures.well c.outcomes_stay.ensures c.sources-sources.ensures.whole.made c.requires.alone e in
    subst (λ l. AreKept s.parts l made.kept.items) (sym parts)
    (subst (AreKept s.parts (slice_set s.parts n (Some c.args.part))) (sym marks) (all_but_one s.parts n c.args.part (slice_get_within s.parts n (Some e.old) e.had) none))
