-- What is seen by an input alone.
use Rattle.std.proofs.Common.{◌≡◌, ℕ, suc, List, [], ◌∷◌, All, sym, subst, arith}
use Rattle.go_block_core.specs.Exports.{ExportsModel}
use Rattle.go_type_core.specs.table_core.Entries.{Entry}
use Rattle.go_body_core.specs.typexpr_core.EntryShowing.{shown_in}
use Rattle.go_report_core.specs.declared_core.Packages.{PackageFacesModel}
use Rattle.go_type_core.specs.table_core.Tables.{AreOthers}
use Rattle.go_report_core.specs.summary_core.Summaries.{SummaryModel, path_of}
use Rattle.go_report_core.specs.summary_core.Views.{exports_told, faces_told, types_told}
use Rattle.go_report_core.specs.summary_core.Telling.{of_one}
use Rattle.go_report_core.specs.summary_core.Viewed.{AreElsewhere, types_apart}
use Rattle.go_package_core.specs.package_part.Inputs.{InputModel, IsInput, path_in}
use Rattle.go_package_core.specs.package_part.Parts.{ContentOf, IsMade, IsPart, seen_with}

pub part_is : (i : InputModel) (types : List Entry) (shown : List ExportsModel) (faces : List PackageFacesModel) (c : ContentOf)
    → types ≡ types_told i.reached → shown ≡ exports_told i.reached → faces ≡ faces_told i.reached → IsMade i (seen_with types (shown_in shown) faces) c → IsPart i c
part_is i types shown faces c a b d h =
    subst (λ x. IsMade i (seen_with (types_told i.reached) (shown_in (exports_told i.reached)) x) c) d
    (subst (λ x. IsMade i (seen_with (types_told i.reached) (shown_in x) faces) c) b
    (subst (λ x. IsMade i (seen_with x (shown_in shown) faces) c) a h))

-- the summaries of an input are of other packages

elsewhere : (ss : List SummaryModel) (path : List ℕ) → All (λ s. path ≡ path_of s → ⊥) ss → AreElsewhere ss path
elsewhere [] path h = tt
elsewhere (s ∷ ss) path h = ((λ e. h 0 s (omega arith) (sym e)), elsewhere ss path (λ k d lt. h (suc k) d (omega (arith, lt))))

pub others_told : (i : InputModel) → IsInput i → AreOthers (path_in i) (types_told i.reached)
others_told i h = types_apart i.reached (path_in i) (of_one i.reached h.own) (elsewhere i.reached (path_in i) h.reached.others)
