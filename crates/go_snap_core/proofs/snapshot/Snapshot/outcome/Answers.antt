use Rattle.std.proofs.Common.{◌≡◌, List, length, map, Some, None, All, slice_get, refl, ap, subst, ◌∙◌}
use Rattle.std.specs.List.Sorted.{IsStrictlySortedBy}
use Rattle.std.proofs.lemmas.Option.{slice_get_past, slice_get_read}
use Rattle.go_graph_core.specs.Sources.{SourceModel}
use Rattle.go_graph_core.specs.Workspaces.{PackageModel, by_bytes, names_of_files}
use Rattle.go_emit_core.specs.package_core.PackagePartInputs.{InputModel}
use Rattle.go_emit_core.specs.package_core.PackagePartParts.{ContentOf, file_shown}
use Rattle.go_snap_core.proofs.Finding.{is_answer, looked_up, mapped_at, mapped_past, no_answer, no_file, no_made, none_told}
use Rattle.go_snap_core.proofs.snapshot.Snapshot.outcome.Goals as goal

pub returns-in_err-part : goal.returns-in_err-part
returns-in_err-part c =
    none_told c.args.self.now.sources c.args.self.now.parts c.args.path.now c.args.file.now c.args.occurrence.0 c.from_residual.result c.from_residual.ensures (λ u h. c.in_err-part.ensures.part h.of_part h.in_workspace)

pub returns-in_err-number : goal.returns-in_err-number
returns-in_err-number c =
    let source : c.package.result.now ≡ c.in_ok-part.part.now.input.source = c.package.ensures ∙ ap (λ (i : InputModel). i.source) c.input.ensures in
    let files : c.files.result.now ≡ c.in_ok-part.part.now.input.source.1 = c.files.ensures.files ∙ ap (λ (p : PackageModel). p.1) source in
    none_told c.args.self.now.sources c.args.self.now.parts c.args.path.now c.args.file.now c.args.occurrence.0 c.from_residual-in_err-number.result c.from_residual-in_err-number.ensures
    (no_file c.args.self.now.sources c.find.ensures.well c.args.self.now.parts c.args.path.now c.in_ok-part.part.now c.in_ok-part.ensures.part c.args.file.now
    (subst (λ (fs : List SourceModel). All (λ f. f.name ≡ c.args.file.now → ⊥) fs) files c.in_err-number.ensures) c.args.occurrence.0)

pub returns-in_err-made : goal.returns-in_err-made
returns-in_err-made c =
    let source : c.package.result.now ≡ c.in_ok-part.part.now.input.source = c.package.ensures ∙ ap (λ (i : InputModel). i.source) c.input.ensures in
    let files : c.files.result.now ≡ c.in_ok-part.part.now.input.source.1 = c.files.ensures.files ∙ ap (λ (p : PackageModel). p.1) source in
    let order : IsStrictlySortedBy by_bytes (names_of_files c.in_ok-part.part.now.input.source.1) = subst (λ (p : PackageModel). IsStrictlySortedBy by_bytes (names_of_files p.1)) source c.files.ensures.well.order in
    let found = c.in_ok-number.ensures in
    let at : slice_get c.in_ok-part.part.now.input.source.1 c.in_ok-number.number ≡ Some found.0 = subst (λ fs. slice_get fs c.in_ok-number.number ≡ Some found.0) files found.1 in
    let made : map file_shown c.deref.result.now ≡ c.in_ok-part.part.now.content.files = ap (λ fs. map file_shown fs) c.deref.ensures.value ∙ ap (λ (x : ContentOf). x.files) c.content.ensures.value in
    let past : slice_get c.in_ok-part.part.now.content.files c.in_ok-number.number ≡ None =
    subst (λ fs. slice_get fs c.in_ok-number.number ≡ None) made (mapped_past file_shown c.deref.result.now c.in_ok-number.number (slice_get_past c.deref.result.now c.in_ok-number.number c.in_err-made.ensures.lookup.3)) in
    none_told c.args.self.now.sources c.args.self.now.parts c.args.path.now c.args.file.now c.args.occurrence.0 c.from_residual-in_err-made.result c.from_residual-in_err-made.ensures
    (no_made c.args.self.now.sources c.find.ensures.well c.args.self.now.parts c.args.path.now c.in_ok-part.part.now c.in_ok-part.ensures.part c.args.file.now order c.in_ok-number.number found.0 at found.2 past c.args.occurrence.0)

pub returns : goal.returns
returns c =
    let source : c.package.result.now ≡ c.in_ok-part.part.now.input.source = c.package.ensures ∙ ap (λ (i : InputModel). i.source) c.input.ensures in
    let files : c.files.result.now ≡ c.in_ok-part.part.now.input.source.1 = c.files.ensures.files ∙ ap (λ (p : PackageModel). p.1) source in
    let order : IsStrictlySortedBy by_bytes (names_of_files c.in_ok-part.part.now.input.source.1) = subst (λ (p : PackageModel). IsStrictlySortedBy by_bytes (names_of_files p.1)) source c.files.ensures.well.order in
    let found = c.in_ok-number.ensures in
    let at : slice_get c.in_ok-part.part.now.input.source.1 c.in_ok-number.number ≡ Some found.0 = subst (λ fs. slice_get fs c.in_ok-number.number ≡ Some found.0) files found.1 in
    let made : map file_shown c.deref.result.now ≡ c.in_ok-part.part.now.content.files = ap (λ fs. map file_shown fs) c.deref.ensures.value ∙ ap (λ (x : ContentOf). x.files) c.content.ensures.value in
    let read : slice_get c.deref.result.now c.in_ok-number.number ≡ Some c.in_ok-made.made.now =
    slice_get_read c.deref.result.now (length c.deref.result.now) c.in_ok-number.number c.in_ok-made.made.now refl c.in_ok-made.ensures.lookup.3.0 c.in_ok-made.ensures.lookup.1 in
    let here : slice_get c.in_ok-part.part.now.content.files c.in_ok-number.number ≡ Some (file_shown c.in_ok-made.made.now) =
    subst (λ fs. slice_get fs c.in_ok-number.number ≡ Some (file_shown c.in_ok-made.made.now)) made (mapped_at file_shown c.deref.result.now c.in_ok-number.number c.in_ok-made.made.now read) in
    let uses : c.deref-2.result.now ≡ (file_shown c.in_ok-made.made.now).answers.uses = c.deref-2.ensures.value in
    looked_up c.deref-2.result.now c.args.occurrence.0 c.get-2.result _ _ c.get-2.ensures.lookup
    (λ none. no_answer c.args.self.now.sources c.find.ensures.well c.args.self.now.parts c.args.path.now c.in_ok-part.part.now c.in_ok-part.ensures.part c.args.file.now order c.in_ok-number.number found.0 at found.2 (file_shown c.in_ok-made.made.now) here c.args.occurrence.0
    (subst (λ us. slice_get us c.args.occurrence.0 ≡ None) uses none))
    (λ u some. is_answer c.args.self.now.sources c.find.ensures.well c.args.self.now.parts c.args.path.now c.in_ok-part.part.now c.in_ok-part.ensures.part c.args.file.now order c.in_ok-number.number found.0 at found.2 (file_shown c.in_ok-made.made.now) here c.args.occurrence.0 u
    (subst (λ us. slice_get us c.args.occurrence.0 ≡ Some u) uses some))
