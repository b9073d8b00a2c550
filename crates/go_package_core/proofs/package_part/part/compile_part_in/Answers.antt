use Rattle.std.proofs.Common.{◌≡◌, ap, sym, subst, ◌∙◌}
use Rattle.go_type_core.specs.table_core.Tables.{AreOthers}
use Rattle.go_report_core.specs.summary_core.Views.{PathsAreApart, exports_told, faces_told, types_told}
use Rattle.go_package_core.specs.package_part.Inputs.{InputModel, path_in}
use Rattle.go_package_core.specs.package_part.Parts.{ContentOf, IsPart, PartModel, part_content_shown}
use Rattle.go_package_core.proofs.PackagePartSeen.{others_told, part_is}
use Rattle.go_package_core.proofs.package_part.part.compile_part_in.Goals as goal

pub view_of-requires : goal.view_of-requires
view_of-requires c =
    let told : c.deref.result.now ≡ c.args.input.now.reached = c.deref.ensures.value ∙ (c.in_ok-summaries.ensures ∙ c.reached.ensures.value) in
    subst PathsAreApart (sym told) c.reached.ensures.well.reached.apart

pub compile_over-requires : goal.compile_over-requires
compile_over-requires c =
    let told : c.deref.result.now ≡ c.args.input.now.reached = c.deref.ensures.value ∙ (c.in_ok-summaries.ensures ∙ c.reached.ensures.value) in
    subst (AreOthers (path_in c.args.input.now)) (sym (c.in_ok-seen.ensures.types ∙ ap types_told told)) (others_told c.args.input.now c.reached.ensures.well)

pub of_generation-requires : goal.of_generation-requires
of_generation-requires c =
    let seen = c.in_ok-seen.seen in
    let told : c.deref.result.now ≡ c.args.input.now.reached = c.deref.ensures.value ∙ (c.in_ok-summaries.ensures ∙ c.reached.ensures.value) in
    subst (λ (i : InputModel). IsPart i (part_content_shown c.in_ok-content.content)) (sym c.in_ok-shared.ensures)
    (part_is c.args.input.now seen.types seen.shown seen.faces (part_content_shown c.in_ok-content.content) (c.in_ok-seen.ensures.types ∙ ap types_told told) (c.in_ok-seen.ensures.shown ∙ ap exports_told told) (c.in_ok-seen.ensures.faces ∙ ap faces_told told) c.in_ok-content.ensures.made)

pub returns-clause-input : goal.returns-clause-input
returns-clause-input c = ap (λ (p : PartModel). p.input) c.in_ok-part.ensures ∙ c.in_ok-shared.ensures

pub returns-clause-made : goal.returns-clause-made
returns-clause-made c =
    let seen = c.in_ok-seen.seen in
    let told : c.deref.result.now ≡ c.args.input.now.reached = c.deref.ensures.value ∙ (c.in_ok-summaries.ensures ∙ c.reached.ensures.value) in
    subst (λ (x : ContentOf). IsPart c.args.input.now x) (sym (ap (λ (p : PartModel). p.content) c.in_ok-part.ensures))
    (part_is c.args.input.now seen.types seen.shown seen.faces (part_content_shown c.in_ok-content.content) (c.in_ok-seen.ensures.types ∙ ap types_told told) (c.in_ok-seen.ensures.shown ∙ ap exports_told told) (c.in_ok-seen.ensures.faces ∙ ap faces_told told) c.in_ok-content.ensures.made)
