-- The faults of one package more, by its part.
use Rattle.std.proofs.Common.{◌≡◌, ℕ, suc, ◌+◌, ◌<◌, List, [], ◌∷◌, ◌++◌, length, map, get_or, All, Option, Some, None, refl, sym, ap, subst, ◌∙◌, arith}
use Rattle.std.specs.Prelude.{slice_get, AllPairs}
use Rattle.std.specs.Option.{option_map}
use Rattle.std.proofs.lemmas.List.{length-map}
use Rattle.std.proofs.lemmas.Option.{slice_get-get_or, slice_get-map, slice_get_within, get_or_from_slice_get}
use Rattle.go_graph_core.specs.Packages.{IsAssembled}
use Rattle.go_graph_core.specs.Sources.{IsRead}
use Rattle.go_graph_core.specs.Workspaces.{PackageModel, AreAllRead}
use Rattle.go_graph_core.proofs.Zips.{numbered_at, numbered_back, numbered_length}
use Rattle.go_emit_core.specs.package_core.PreparePackages.{trees_in}
use Rattle.go_report_core.specs.Faults as report
use Rattle.go_emit_core.specs.package_core.PackagePartInputs.{InputModel}
use Rattle.go_emit_core.specs.package_core.PackagePartParts.{ContentOf, FileOf, IsFileMadeIn, IsPart, PartModel}
use Rattle.go_snap_core.specs.declared.fault.PlacedFault.{PlacedFault}
use Rattle.go_snap_core.specs.Faults.{AreFaults}
use Rattle.go_snap_core.specs.whole_workspace.Inputs.{AreParts, IsPartOf}
use Rattle.go_snap_core.specs.Snapshots.{contents_of}
use Rattle.go_snap_core.specs.mirrors.Reports.{AddsUnassembled, AreFaultsTo, AreOfPackage, part_faults}
use Rattle.go_snap_core.proofs.WholeWorkspaceLists.{one_at}
use Rattle.go_snap_core.proofs.Reporting.{all_faults, one_more, package_all}

pub contents_at : (parts : List (Option PartModel)) (n : ℕ) (x : Option PartModel) → slice_get parts n ≡ Some x → slice_get (contents_of parts) n ≡ Some (option_map (λ (p : PartModel). p.content) x)
contents_at parts n x h = slice_get-map (option_map (λ (p : PartModel). p.content)) parts n ∙ ap (option_map (option_map (λ (p : PartModel). p.content))) h

-- what is reported of each file of a part is in order
reports_ordered : (i : InputModel) (c : ContentOf) → IsPart i c → (k : ℕ) (x : FileOf) → slice_get c.files k ≡ Some x → AllPairs report.ComesBefore x.report
reports_ordered i c made k x at = (let b = numbered_back (IsFileMadeIn c.blocks made.checked.files) 0 (trees_in i.source) c.files k x made.files at in b.2.made_of.reported.ordered)

-- the files of a package of a workspace that is read
pub read_there : (ps : List PackageModel) (n : ℕ) (p : PackageModel) → All AreAllRead ps → slice_get ps n ≡ Some p → All IsRead p.1
read_there ps n p read at = subst AreAllRead (get_or_from_slice_get ps n p p at) (read n p (slice_get_within ps n p at))

module _ (ps : List PackageModel) (parts : List (Option PartModel)) (read : All AreAllRead ps) (all : AreParts ps parts) where
  pub as_many : length parts ≡ length ps
  as_many = sym (numbered_length (λ n p x. IsPartOf ps parts n p x) 0 ps parts all)

  entry_at : (n : ℕ) (p : PackageModel) (x : Option PartModel) → slice_get ps n ≡ Some p → slice_get parts n ≡ Some x → IsPartOf ps parts n p x
  entry_at n p x at there =
      let b = numbered_at (λ m q y. IsPartOf ps parts m q y) 0 ps parts n p all at in
      let e : 0 + n ≡ n = omega arith in
      subst (λ y. IsPartOf ps parts n p y) (one_at parts n b.0 x b.1 there) (subst (λ m. IsPartOf ps parts m p b.0) e b.2)

  -- what the code reads of a package and of its part
  pub source_at : (sources : List PackageModel) (n : ℕ) (p : PackageModel) → sources ≡ ps → n < length sources → p ≡ get_or sources n p → slice_get ps n ≡ Some p
  source_at sources n p same lt is = subst (λ l. slice_get l n ≡ Some p) same (slice_get-get_or sources n p lt ∙ ap Some (sym is))

  pub package_there : (sources : List PackageModel) (n : ℕ) → sources ≡ ps → n < length sources → (p : PackageModel) × (slice_get ps n ≡ Some p)
  package_there sources n same lt = (let none : PackageModel = ([], []) in (get_or sources n none, subst (λ l. slice_get l n ≡ Some (get_or sources n none)) same (slice_get-get_or sources n none lt)))

  pub slot_below : (sources : List PackageModel) (n : ℕ) → sources ≡ ps → n < length sources → n < length parts
  slot_below sources n same lt = omega (arith, lt, ap length same, as_many)

  pub slot_at : (sources : List PackageModel) (n : ℕ) (x y : Option PartModel) → sources ≡ ps → n < length sources → x ≡ get_or parts n x → x ≡ y → slice_get parts n ≡ Some y
  slot_at sources n x y same lt is one = slice_get-get_or parts n x (slot_below sources n same lt) ∙ ap Some (sym is ∙ one)

  -- a package without a part is not assembled
  pub none_assembled : (n : ℕ) (p : PackageModel) → slice_get ps n ≡ Some p → slice_get parts n ≡ Some None → IsAssembled p.1 → ⊥
  none_assembled n p at there = entry_at n p None at there

  pub part_added : (n : ℕ) (p : PackageModel) (part : PartModel) (old new : List PlacedFault) → slice_get ps n ≡ Some p → slice_get parts n ≡ Some (Some part) → AreFaultsTo ps (contents_of parts) n old
      → new ≡ old ++ part_faults n 0 part.content.files → AreFaultsTo ps (contents_of parts) (n + 1) new
  part_added n p part old new at there before is =
      let h = entry_at n p (Some part) at there in
      let every = package_all ps (contents_of parts) n p at (read_there ps n p read at) (Some part.content) (part_faults n 0 part.content.files) (contents_at parts n (Some part) there)
      (λ c e k x slot. (let same : part.content ≡ c = cc in reports_ordered part.input part.content h.2 k x (subst (λ (y : ContentOf). slice_get y.files k ≡ Some x) (sym same) slot))) refl in
      next n old new (part_faults n 0 part.content.files) (one_more ps (contents_of parts) n p at (read_there ps n p read at) old (part_faults n 0 part.content.files) before every) is
    where
      next : (n : ℕ) (old new more : List PlacedFault) → AreFaultsTo ps (contents_of parts) (suc n) (old ++ more) → new ≡ old ++ more → AreFaultsTo ps (contents_of parts) (n + 1) new
      next n old new more h is = (let e : suc n ≡ n + 1 = omega arith in subst (λ m. AreFaultsTo ps (contents_of parts) m new) e (subst (AreFaultsTo ps (contents_of parts) (suc n)) (sym is) h))

  pub none_added : (n : ℕ) (p : PackageModel) (old new : List PlacedFault) → slice_get ps n ≡ Some p → slice_get parts n ≡ Some None → AreFaultsTo ps (contents_of parts) n old → AddsUnassembled n p.1 old new → AreFaultsTo ps (contents_of parts) (n + 1) new
  none_added n p old new at there before h =
      let every = package_all ps (contents_of parts) n p at (read_there ps n p read at) None h.more (contents_at parts n None there) (λ c e k x slot. absurd (let no : None ≡ Some c = e in cc)) h.are in
      let more = one_more ps (contents_of parts) n p at (read_there ps n p read at) old h.more before every in
      let e : suc n ≡ n + 1 = omega arith in
      subst (λ m. AreFaultsTo ps (contents_of parts) m new) e (subst (AreFaultsTo ps (contents_of parts) (suc n)) (sym h.is) more)

  pub all_added : (faults : List PlacedFault) (n : ℕ) → n ≡ length ps → AreFaultsTo ps (contents_of parts) n faults → AreFaults ps (contents_of parts) faults
  all_added faults n e h = all_faults ps (contents_of parts) faults (length-map parts (option_map (λ (p : PartModel). p.content)) ∙ as_many) (subst (λ m. AreFaultsTo ps (contents_of parts) m faults) e h)
