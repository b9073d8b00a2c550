use Rattle.std.proofs.Common.{◌≡◌, ◌<◌, List, length, map, get_or, Some, All, slice_get, sym, ap, subst, ◌∙◌, arith, rules}
use Rattle.std.proofs.lemmas.List.{length-map}
use Rattle.std.proofs.lemmas.Option.{slice_get-get_or, slice_get_within}
use Rattle.go_graph_core.specs.Sources.{SourceModel}
use Rattle.go_graph_core.specs.Workspaces.{PackageModel}
use Rattle.go_emit_core.specs.package_core.PackagePartInputs.{InputModel}
use Rattle.go_emit_core.specs.package_core.PackagePartParts.{ContentOf, file_shown}
use Rattle.go_snap_core.proofs.Filed.{file_is, file_made, no_such_file, none_found}
use Rattle.go_snap_core.proofs.Finding.{mapped_at}
use Rattle.go_snap_core.proofs.snapshot.Snapshot.file.Goals as goal

pub returns-in_err-part : goal.returns-in_err-part
returns-in_err-part c =
    none_found c.args.self.now.sources c.args.self.now.parts c.args.path.now c.args.name.now c.from_residual.result c.from_residual.ensures (λ p at. absurd (c.in_err-part.ensures.part p at))

pub returns-in_err-number : goal.returns-in_err-number
returns-in_err-number c =
    let part = c.in_ok-part.part.now in
    let source : c.package-package.result.now ≡ part.input.source = c.package-package.ensures ∙ ap (λ (i : InputModel). i.source) c.input.ensures in
    let files : c.files-files.result.now ≡ part.input.source.1 = c.files-files.ensures.files ∙ ap (λ (p : PackageModel). p.1) source in
    none_found c.args.self.now.sources c.args.self.now.parts c.args.path.now c.args.name.now c.from_residual-in_err-number.result c.from_residual-in_err-number.ensures
    (no_such_file c.args.self.now.sources c.find.ensures.well c.args.self.now.parts c.args.path.now c.args.name.now part c.in_ok-part.ensures.part
    (subst (λ (fs : List SourceModel). All (λ f. f.name ≡ c.args.name.now → ⊥) fs) files c.in_err-number.ensures))

pub tree-tree-requires : goal.tree-tree-requires
tree-tree-requires c =
    let found = c.in_ok-number.ensures in
    let lt : c.in_ok-number.number < length c.package-package.result.now.1 = omega (arith, slice_get_within c.files-files.result.now c.in_ok-number.number found.0 found.1, ap length c.files-files.ensures.files) in
    lt

pub bounds-files-number : goal.bounds-files-number
bounds-files-number c = (let found = c.in_ok-number.ensures in slice_get_within c.files-files.result.now c.in_ok-number.number found.0 found.1)

pub offset_bounds-files-number : goal.offset_bounds-files-number
offset_bounds-files-number c =
    let found = c.in_ok-number.ensures in
    let lt : c.in_ok-number.number < length c.files-files.result.now = slice_get_within c.files-files.result.now c.in_ok-number.number found.0 found.1 in
    search rules

pub index-requires : goal.index-requires
index-requires c =
    let part = c.in_ok-part.part.now in
    let source : c.package-package.result.now ≡ part.input.source = c.package-package.ensures ∙ ap (λ (i : InputModel). i.source) c.input.ensures in
    let made = c.content-content.result.now.files.items in
    let same : map file_shown made ≡ part.content.files = ap (λ (x : ContentOf). x.files) c.content-content.ensures.value in
    let lt = file_made part c.content-content.ensures.made c.package-package.result.now source c.in_ok-number.number _ c.tree-tree.ensures.tree in
    omega (arith, lt, length-map made file_shown, ap length same, c.content-content.result.now.files.ok.0)

pub returns : goal.returns
returns c =
    let part = c.in_ok-part.part.now in
    let k = c.in_ok-number.number in
    let found = c.in_ok-number.ensures in
    let source : c.package-package.result.now ≡ part.input.source = c.package-package.ensures ∙ ap (λ (i : InputModel). i.source) c.input.ensures in
    let made = c.content-content.result.now.files.items in
    let same : map file_shown made ≡ part.content.files = ap (λ (x : ContentOf). x.files) c.content-content.ensures.value in
    let lt : k < length made = (let low = file_made part c.content-content.ensures.made c.package-package.result.now source k _ c.tree-tree.ensures.tree in omega (arith, low, length-map made file_shown, ap length same)) in
    let here : slice_get made k ≡ Some c.index.result.now = slice_get-get_or made k c.index.result.now lt ∙ ap Some (sym c.index.ensures) in
    file_is c.args.self.now.sources c.args.self.now.parts c.args.path.now c.args.name.now part c.in_ok-part.ensures.part c.package-package.result.now source c.files-files.result.now c.files-files.ensures.files k found.0 c.index-files-number.result found.1 found.2 c.index-files-number.is
    _ c.tree-tree.ensures.content (map file_shown made) same (file_shown c.index.result.now) (mapped_at file_shown made k c.index.result.now here)
