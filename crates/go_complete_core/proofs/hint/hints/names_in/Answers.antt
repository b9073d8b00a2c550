use Rattle.std.proofs.Common.{map, ap, subst, ◌∙◌}
use Rattle.go_package_core.specs.summary_core.Views.{exports_told, faces_told}
use Rattle.go_package_core.specs.package_part.Inputs.{InputModel, IsInput}
use Rattle.go_package_core.specs.package_part.Parts.{ContentOf}
use Rattle.go_complete_core.specs.views.Imported.{told_by_imports}
use Rattle.go_complete_core.proofs.ViewsLeading.{names_are}
use Rattle.go_complete_core.proofs.HintGiving.{is_package, package_of}
use Rattle.go_complete_core.proofs.hint.hints.names_in.Goals as goal

pub names_over-requires-clause-names : goal.names_over-requires-clause-names
names_over-requires-clause-names c =
    let view = c.in_ok-view.view in
    let q = package_of c.package.result.now c.content-content.result.now.blocks (map (λ is. is.items) c.imports.result.now) view.shown view.faces in
    names_are q c.path.result.now c.in_ok-aliases.aliases c.path.ensures c.in_ok-aliases.ensures

pub names_over-requires-clause-seen : goal.names_over-requires-clause-seen
names_over-requires-clause-seen c =
    let p = c.args.part.now in
    let here = c.input-input.ensures in
    let view = c.in_ok-view.view in
    let content = c.content-content.ensures.value in
    record {
      input = subst IsInput here c.imports.ensures.well;
      seen =
          is_package p.input _ _ p.content.blocks _ view.shown view.faces (c.package.ensures ∙ ap (λ (i : InputModel). i.source) here) (ap (λ (x : ContentOf). x.blocks) content) (c.imports.ensures.value ∙ ap (λ (i : InputModel). i.imports) here)
          (c.in_ok-view.ensures.shown ∙ ap (λ (i : InputModel). exports_told (told_by_imports i)) here) (c.in_ok-view.ensures.faces ∙ ap (λ (i : InputModel). faces_told (told_by_imports i)) here);
      types_are = c.in_ok-types.ensures;
      placed = c.in_ok-outlines.ensures.trees;
    }
