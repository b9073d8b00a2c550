use Rattle.std.proofs.Common.{◌≡◌, ◌++◌, ℕ, List, ap, ap₂, sym, subst, ◌∙◌}
use Rattle.go_type_core.specs.table_core.Entries.{Entry}
use Rattle.go_type_core.specs.table_core.Tables.{AreOthers, PackageTypesModel}
use Rattle.go_report_core.specs.summary_core.Summaries.{SummaryModel, path_of}
use Rattle.go_report_core.specs.summary_core.Views.{PathsAreApart, types_told}
use Rattle.go_package_core.specs.package_part.Inputs.{InputModel, IsInput, path_in}
use Rattle.go_package_core.proofs.PackagePartSeen.{others_told}
use Rattle.go_package_core.proofs.package_part.part.types_of.Goals as goal

pub types-requires : goal.types-requires
types-requires c = subst PathsAreApart (sym c.reached-reached.ensures.value) c.reached-reached.ensures.well.reached.apart

pub add-requires : goal.add-requires
add-requires c =
    let i = c.args.part.now.input in
    let s = c.args.part.now.content.summary in
    let here : c.input.result.now ≡ i = c.input.ensures in
    let well : IsInput i = subst IsInput here c.reached-reached.ensures.well in
    let seen : c.in_ok-types.types ≡ types_told i.reached = c.in_ok-types.ensures ∙ ap types_told (c.reached-reached.ensures.value ∙ ap (λ (j : InputModel). j.reached) here) in
    let own : c.summary-summary.result.now ≡ s = c.summary-summary.ensures in
    let types : c.in_ok-share.field-0 ≡ s.types = c.in_ok-share.ensures ∙ (c.types-2.ensures ∙ ap (λ (t : SummaryModel). t.types) own) in
    let path : s.types.path ≡ path_in i = subst (λ (t : SummaryModel). t.types.path ≡ path_of t) own c.path-path.ensures.own.types ∙ ap path_of c.content-content.ensures.made.summary in
    subst (λ (t : PackageTypesModel). AreOthers t.path c.in_ok-types.types) (sym types)
    (subst (λ (p : List ℕ). AreOthers p c.in_ok-types.types) (sym path) (subst (AreOthers (path_in i)) (sym seen) (others_told i well)))

pub returns : goal.returns
returns c =
    let i = c.args.part.now.input in
    let s = c.args.part.now.content.summary in
    let here : c.input.result.now ≡ i = c.input.ensures in
    let seen : c.in_ok-types.types ≡ types_told i.reached = c.in_ok-types.ensures ∙ ap types_told (c.reached-reached.ensures.value ∙ ap (λ (j : InputModel). j.reached) here) in
    let own : c.summary-summary.result.now ≡ s = c.summary-summary.ensures in
    let types : c.in_ok-share.field-0 ≡ s.types = c.in_ok-share.ensures ∙ (c.types-2.ensures ∙ ap (λ (t : SummaryModel). t.types) own) in
    c.in_ok-add.ensures.ok ∙ ap₂ (λ (l m : List Entry). l ++ m) seen (ap (λ (t : PackageTypesModel). t.entries) types)
