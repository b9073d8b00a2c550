-- What the parts of the packages of a workspace tell stands apart: each is of the path of its own package.
use Rattle.std.proofs.Common.{◌≡◌, ℕ, zero, suc, ◌+◌, inl, inr, List, [], ◌∷◌, Option, Some, None, refl, sym, ap, subst, ◌∙◌, arith}
use Rattle.std.specs.Prelude.{slice_get}
use Rattle.std.proofs.lemmas.List.Kept.{AllPairs-cons}
use Rattle.go_body_core.specs.typexpr_core.EntryAmong.{Among}
use Rattle.go_graph_core.specs.Workspaces.{PackageModel, IsWorkspace}
use Rattle.go_report_core.specs.summary_core.Summaries.{SummaryModel, path_of}
use Rattle.go_emit_core.specs.package_core.PackagePartParts.{PartModel}
use Rattle.go_snap_core.specs.whole_workspace.Inputs.{AreParts, Tells}
use Rattle.go_snap_core.specs.whole_workspace.mirrors.Steps.{AreRight}
use Rattle.go_snap_core.proofs.WholeWorkspaceLists.{all_from_among}
use Rattle.go_snap_core.proofs.WholeWorkspaceParts.{told_apart}
use Rattle.go_snap_core.proofs.WholeWorkspacePartsWhole.{all_right}
use Rattle.go_emit_core.specs.Emitted.{AreOfDifferentPackages, told_by}
use Rattle.go_emit_core.specs.package_core.PackagePartSlots.{somes}

-- what is told is told by one of the parts
record IsToldBy (xs : List (Option PartModel)) (s : SummaryModel) : Type 0 where
  number : ℕ
  of_part : PartModel
  there : slice_get xs number ≡ Some (Some of_part)
  is : of_part.content.summary ≡ s

told_among : (xs : List (Option PartModel)) (s : SummaryModel) → Among (told_by (somes xs)) s → IsToldBy xs s
told_among [] s h = absurd h
told_among (None ∷ xs) s h = (let r = told_among xs s h in record { number = suc r.number; of_part = r.of_part; there = r.there; is = r.is })
told_among (Some p ∷ xs) s h = elim h [
  | inl e ↦ record { number = 0; of_part = p; there = refl; is = e }
  | inr a ↦ (let r = told_among xs s a in record { number = suc r.number; of_part = r.of_part; there = r.there; is = r.is })
]

module _ (ps : List PackageModel) (parts : List (Option PartModel)) (well : IsWorkspace ps) (right : AreRight ps parts) where
  -- these are the parts from a number on
  abbrev AreFrom : ℕ → List (Option PartModel) → Type 0
  AreFrom k xs = (i : ℕ) (p : PartModel) → slice_get xs i ≡ Some (Some p) → slice_get parts (k + i) ≡ Some (Some p)

  from_next : (k : ℕ) (x : Option PartModel) (xs : List (Option PartModel)) → AreFrom k (x ∷ xs) → AreFrom (suc k) xs
  from_next k x xs h = λ i p at. (let e : k + suc i ≡ suc k + i = omega arith in subst (λ n. slice_get parts n ≡ Some (Some p)) e (h (suc i) p at))

  tells : (n : ℕ) (p : PartModel) → slice_get parts n ≡ Some (Some p) → Tells parts n p.content.summary
  tells n p at = record { of_part = p; there = at; is = refl }

  apart_from : (k : ℕ) (xs : List (Option PartModel)) → AreFrom k xs → AreOfDifferentPackages (somes xs)
  apart_from k [] h = λ i j d lt below. absurd (omega (arith, below))
  apart_from k (None ∷ xs) h = apart_from (suc k) xs (from_next k None xs h)
  apart_from k (Some p ∷ xs) h =
      AllPairs-cons (λ s t. path_of s ≡ path_of t → ⊥) p.content.summary (told_by (somes xs))
      (all_from_among (λ t. path_of p.content.summary ≡ path_of t → ⊥) (told_by (somes xs))
      (λ t at same. (let r = told_among xs t at in
      let one : slice_get parts (k + 0) ≡ Some (Some p) = h 0 p refl in
      let other : slice_get parts (suc k + r.number) ≡ Some (Some r.of_part) = from_next k (Some p) xs h r.number r.of_part r.there in
      let number : k + 0 ≡ suc k + r.number =
      told_apart ps parts well right (k + 0) (suc k + r.number) p.content.summary r.of_part.content.summary (tells (k + 0) p one) (tells (suc k + r.number) r.of_part other) (same ∙ ap path_of (sym r.is)) in
      omega (arith, number))))
      (apart_from (suc k) xs (from_next k (Some p) xs h))

pub parts_apart : (ps : List PackageModel) (parts : List (Option PartModel)) → IsWorkspace ps → AreParts ps parts → AreOfDifferentPackages (somes parts)
parts_apart ps parts well made =
    apart_from ps parts well (all_right ps parts made) 0 parts (λ i p at. (let e : i ≡ 0 + i = omega arith in subst (λ n. slice_get parts n ≡ Some (Some p)) e at))
