use Rattle.std.proofs.Common.{◌≡◌, true, false, sym, subst, ◌∙◌}
use Rattle.go_report_core.specs.summary_core.Summaries.{path_of}
use Rattle.go_emit_core.specs.package_core.PackagePartParts.{PartModel}
use Rattle.go_snap_core.specs.make.Finding.{IsPartAt}
use Rattle.go_snap_core.proofs.MakeMarking.{told_at, told_is, told_nowhere}
use Rattle.go_snap_core.proofs.make.kept.is_told_again.Goals as goal

pub returns-in-Some : goal.returns-in-Some
returns-in-Some c =
    let ps = c.args.sources.now in
    let parts = c.args.earlier.now in
    let s = c.args.summary.now in
    let part = c.in-Some.part.now in
    let well = c.in-Some.ensures.well in
    let here : c.as_str.result.now ≡ path_of s = c.as_str.ensures.text ∙ c.path.ensures.value in
    let at : IsPartAt ps parts (path_of s) part = subst (λ path. IsPartAt ps parts path part) here c.in-Some.ensures.part in (
      λ yes. told_at ps parts well c.requires (path_of s) part at s (c.is_same.ensures.0 yes ∙ c.summary.ensures),
      λ was. c.is_same.ensures.1 (told_is ps parts well c.requires s part at was ∙ sym c.summary.ensures),
    )

pub returns-in-None : goal.returns-in-None
returns-in-None c =
    let ps = c.args.sources.now in
    let parts = c.args.earlier.now in
    let s = c.args.summary.now in
    let here : c.as_str.result.now ≡ path_of s = c.as_str.ensures.text ∙ c.path.ensures.value in
    let none : (part : PartModel) → IsPartAt ps parts (path_of s) part → ⊥ = subst (λ path. (part : PartModel) → IsPartAt ps parts path part → ⊥) here c.in-None.ensures.part in (
      λ yes. absurd (let no : false ≡ true = yes in cc),
      λ was. absurd (told_nowhere ps parts c.in-None.ensures.well c.requires s none was),
    )
