-- The packages of a listing.
use Rattle.std.proofs.Common.{◌≡◌, ℕ, ◌+◌, ◌<◌, List, [], ◌∷◌, length, get_or, map, Option, Some, None, slice_get, refl, sym, ap, ◌∙◌, subst, arith}
use Rattle.std.specs.Prelude.{◌↔◌, All, Contains}
use Rattle.std.specs.List.{AllZip}
use Rattle.std.specs.List.Sorted.{IsStrictlySortedBy}
use Rattle.std.specs.Ordering.{nat_cmp}
use Rattle.std.proofs.lemmas.List.Elements.{Contains-get_or}
use Rattle.std.proofs.lemmas.Map.Keys.{sorted_from_strictly_increasing}
use Rattle.std.proofs.lemmas.Option.{get_or_from_slice_get, same_Some, slice_get-get_or, slice_get_within}
use Rattle.go_import_core.specs.graph_core.declared.imports.ImportOutcome.TheVariants.{Package}
use Rattle.go_import_core.specs.graph_core.Imports.{HasNoPackage, IsNumbered}
use Rattle.go_import_core.specs.graph_core.Packages.{IsAssembled}
use Rattle.go_import_core.specs.graph_core.Sources.{SourceModel}
use Rattle.go_import_core.specs.graph_core.Numbers.{has_one_number}
use Rattle.go_import_core.specs.graph_core.Workspaces.{IsWorkspace, PackageModel}
use Rattle.go_import_core.specs.graph_core.Zips.{numbered_at, zip_at, zip_back}
use Rattle.go_import_core.specs.list.Importing.{IsImportable, IsJudgedAt}
use Rattle.go_complete_core.specs.package_core.PackagePartInputs.{path_in}
use Rattle.go_complete_core.specs.package_core.PackagePartParts.{PartModel}
use Rattle.go_complete_core.specs.snap_core.WholeWorkspaceInputs as inputs
use Rattle.go_complete_core.specs.snap_core.WholeWorkspacePartsWhole.{all_right}
use Rattle.go_complete_core.specs.snap_core.Snapshots.{IsPartAt, IsSnapshot, SnapshotModel}
use Rattle.go_query_core.specs.Entries.{EntryOf, entry_with}
use Rattle.go_query_core.specs.Listing.{AreEntries, IsEntryOf, IsListing}
use Rattle.go_query_core.specs.Parts.{HasPart, IsPartOf}

part_there : (ps : List PackageModel) (parts : List (Option PartModel)) (n : ℕ) (p : PackageModel) (x : Option PartModel) → IsAssembled p.1 → slice_get parts n ≡ Some x → inputs.IsPartOf ps parts n p x → (part : PartModel) × (slice_get parts n ≡ Some (Some part))
part_there ps parts n p None assembled at h = absurd (h assembled)
part_there ps parts n p (Some part) assembled at h = (part, at)

there : {A : Type 0} (xs : List A) (k : ℕ) (x : A) → slice_get xs k ≡ Some x → Contains xs x
there xs k x at = (k, slice_get_within xs k x at, get_or_from_slice_get xs k x x at)

-- the entries are of the packages of the numbers
numbers_of : (s : SnapshotModel) (from : List ℕ) (numbers : List ℕ) (entries : List EntryOf) → AllZip (IsEntryOf s from) numbers entries → map (λ (e : EntryOf). e.number) entries ≡ numbers
numbers_of s from [] [] h = refl
numbers_of s from [] (e ∷ es) h = absurd h
numbers_of s from (n ∷ ns) [] h = absurd h
numbers_of s from (n ∷ ns) (e ∷ es) h = ap (λ x. x ∷ map (λ (y : EntryOf). y.number) es) (ap (λ (x : EntryOf). x.number) h.0.2) ∙ ap (λ l. n ∷ l) (numbers_of s from ns es h.1)

module _ (s : SnapshotModel) (whole : IsSnapshot s.sources s.parts s.faults) where
  -- what an import comes to has a part
  pub imported_part : (own : ℕ) (text : List ℕ) (to : ℕ) → IsJudgedAt s.sources own text (Package to) → HasPart s to
  imported_part own text to h =
      let target = h.judged.0 in
      let entry = numbered_at (λ n p x. inputs.IsPartOf s.sources s.parts n p x) 0 s.sources s.parts to (text, target.files) whole.made target.numbered in
      let e : 0 + to ≡ to = omega arith in
      part_there s.sources s.parts to (text, target.files) entry.0 target.library.0 entry.1 (subst (λ n. inputs.IsPartOf s.sources s.parts n (text, target.files) entry.0) e entry.2)

  pub have_parts : (own : ℕ) (numbers : List ℕ) → ((n : ℕ) → Contains numbers n ↔ IsImportable s.sources own n) → All (HasPart s) numbers
  have_parts own numbers exact = λ k d lt.
      let n : ℕ = get_or numbers k d in
      let is : IsImportable s.sources own n = (exact n).0 (Contains-get_or numbers k d lt) in
      imported_part own is.path n is.judged

  -- a part is of its path
  pub path_is : (path : List ℕ) (number : ℕ) (part : PartModel) → IsPartOf s path number part → path_in part.input ≡ path
  path_is path number part h =
      let right = all_right s.sources s.parts whole.made number part h.there in
      ap (λ (p : PackageModel). p.0) (same_Some part.input.source (path, h.files) (sym right.numbered ∙ h.numbered))

-- the entries of what a package could import, as it sees them
pub is_listing : (s : SnapshotModel) (from path : List ℕ) (number : ℕ) (part : PartModel) (own : EntryOf) (entries : List EntryOf) → IsPartOf s from number part → path ≡ from → own ≡ entry_with s number part path → AreEntries s number path entries → IsListing s from own entries
is_listing s from path number part own entries h same is are =
    let numbers : List ℕ = are.0 in
    let zipped : AllZip (IsEntryOf s from) numbers entries = subst (λ (p : List ℕ). AllZip (IsEntryOf s p) numbers entries) same are.3 in
    record {
      of_part = part;
      number = number;
      in_workspace = h;
      is_own = is ∙ ap (λ (p : List ℕ). entry_with s number part p) same;
      order = subst (λ (l : List ℕ). IsStrictlySortedBy nat_cmp l) (sym (numbers_of s from numbers entries zipped)) (sorted_from_strictly_increasing numbers are.1);
      each = λ n is_one.
          let among = (are.2 n).1 is_one in
          let at : slice_get numbers among.0 ≡ Some n = slice_get-get_or numbers among.0 n among.1 ∙ ap Some among.2 in
          let found = zip_at (IsEntryOf s from) numbers entries among.0 n zipped at in
          (found.0, there entries among.0 found.0 found.1, found.2);
      only = λ k d lt.
          let e : EntryOf = get_or entries k d in
          let found = zip_back (IsEntryOf s from) numbers entries k e zipped (slice_get-get_or entries k d lt) in
          let number_is : e.number ≡ found.0 = ap (λ (x : EntryOf). x.number) found.2.2 in
          let among : IsImportable s.sources number found.0 = (are.2 found.0).0 (there numbers k found.0 found.1) in
          (subst (λ n. IsImportable s.sources number n) (sym number_is) among, subst (λ n. IsEntryOf s from n e) (sym number_is) found.2);
    }

-- the number and the part of a path

module _ (s : SnapshotModel) (sources packages : List PackageModel) (same : sources ≡ s.sources) (are : packages ≡ sources) (well : IsWorkspace sources) (path text : List ℕ) (named : text ≡ path) where
  pub part_of : (number : ℕ) (files : List SourceModel) (p : PartModel) → IsNumbered packages text number files → IsPartAt s.sources s.parts path p → IsPartOf s path number p
  part_of number files p at k =
      let there_is : IsNumbered s.sources path number files = subst (λ (t : List ℕ). IsNumbered s.sources t number files) named (subst (λ (l : List PackageModel). IsNumbered l text number files) (are ∙ same) at) in
      let one : k.number ≡ number = has_one_number s.sources path k.number number k.files files (subst IsWorkspace same well) k.numbered there_is in
      record { files = files; numbered = there_is; there = subst (λ (n : ℕ). slice_get s.parts n ≡ Some (Some p)) one k.there }

  pub no_part : HasNoPackage packages text → (p : PartModel) → IsPartAt s.sources s.parts path p → ⊥
  no_part none p k =
      none k.number k.files (subst (λ (t : List ℕ). IsNumbered packages t k.number k.files) (sym named) (subst (λ (l : List PackageModel). IsNumbered l path k.number k.files) (sym (are ∙ same)) k.numbered))

pub part_in_range : (s : SnapshotModel) (path : List ℕ) (number : ℕ) (p : PartModel) → IsPartOf s path number p → number < length s.sources
part_in_range s path number p h = slice_get_within s.sources number (path, h.files) h.numbered
