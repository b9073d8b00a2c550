use Rattle.std.proofs.Common.{map, ap, ◌∙◌}
use Rattle.go_declared_core.specs.typexpr_core.EntryOutlines.{outline_of, outline_shown}
use Rattle.go_package_core.specs.summary_core.Summaries.{SummaryModel}
use Rattle.go_declared_core.specs.graph_core.Packages.{trees_of}
use Rattle.go_declared_core.specs.graph_core.Workspaces.{PackageModel}
use Rattle.go_package_core.specs.package_part.Inputs.{InputModel}
use Rattle.go_package_core.specs.package_part.Parts.{ContentOf, file_shown}
use Rattle.go_object_core.specs.Objects.{object_shown}
use Rattle.go_emit_core.specs.Imports.{all_passing}
use Rattle.go_emit_core.specs.meaning.mirrors.Naming.{code_scene_shown, scene_with}
use Rattle.go_emit_core.proofs.Outlined.{functions_made, object_made}
use Rattle.go_emit_core.proofs.object.whole_object.Goals as goal

pub returns : goal.returns
returns c =
    let i = c.args.part.now.input in
    let k = c.args.part.now.content in
    let source = c.package.ensures ∙ ap (λ (x : InputModel). x.source) c.input.ensures in
    let outlined = ap (λ l. map outline_shown l) c.deref-2.ensures.value ∙ (c.in_ok-outlines.ensures.files ∙ ap (λ fs. map (λ t. outline_of t.1) (trees_of fs)) (c.files.ensures.files ∙ ap (λ (p : PackageModel). p.1) source)) in
    let files = ap (λ l. map file_shown l) c.deref-3.ensures.value ∙ ap (λ (x : ContentOf). x.files) c.content.ensures.value in
    let scene = scene_with c.args.tables.now i k in
    object_made i k scene (object_shown (record { path = c.in_ok-path.path; name = c.in_ok-name.name; imports = c.in_ok-imports.imports; functions = c.in_ok-functions.functions }))
    (c.in_ok-path.ensures ∙ c.path.ensures)
    (c.in_ok-name.ensures.same ∙ (c.name.ensures ∙ ap (λ e. e.name) (c.exports.ensures ∙ ap (λ (s : SummaryModel). s.exports) c.summary.ensures)))
    (c.in_ok-imports.ensures ∙ ap all_passing (c.imports.ensures.value ∙ ap (λ (x : InputModel). x.imports) c.input-2.ensures))
    (c.in_ok-functions.ensures ∙ functions_made i k (code_scene_shown c.in_ok-names.names) scene (map outline_shown c.deref-2.result.now) (map file_shown c.deref-3.result.now) c.in_ok-names.ensures outlined files)
