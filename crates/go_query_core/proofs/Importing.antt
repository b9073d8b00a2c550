-- What the imports of a package come to.
use Rattle.std.proofs.Common.{◌≡◌, ℕ, zero, suc, ◌+◌, ◌<◌, inl, inr, List, [], ◌∷◌, length, get_or, map, Option, Some, slice_get, refl, sym, ap, ◌∙◌, subst, arith}
use Rattle.std.specs.Prelude.{◌↔◌, Contains, Err, IfOk, Ok, Result}
use Rattle.std.specs.List.Sorted.{IsStrictlySortedBy}
use Rattle.std.specs.List.{flat_map}
use Rattle.std.proofs.lemmas.List.Elements.{Contains-append_cases, Contains-append_left, Contains-append_right}
use Rattle.std.proofs.lemmas.Option.{get_or_from_slice_get, same_Some, slice_get_within}
use Rattle.go_import_core.specs.graph_core.declared.imports.ImportAt.{ImportAt}
use Rattle.go_import_core.specs.graph_core.declared.imports.ImportOutcome.{ImportOutcome}
use Rattle.go_import_core.specs.graph_core.declared.imports.ImportOutcome.TheVariants as outcomes
use Rattle.go_import_core.specs.graph_core.Imports.{content_texts, import_texts}
use Rattle.go_import_core.specs.graph_core.Packages.{HasNoClause, trees_of}
use Rattle.go_import_core.specs.graph_core.Sources.{SourceModel}
use Rattle.go_import_core.specs.graph_core.Workspaces.{IsWorkspace, PackageModel, by_bytes}
use Rattle.go_import_core.specs.graph_core.Assemblies.{tree_at, tree_of}
use Rattle.go_import_core.specs.graph_core.OutcomeLaws.{has_one_outcome}
use Rattle.go_import_core.specs.graph_core.Zips.{numbered_at}
use Rattle.go_declared_core.specs.block_core.declared.imports.Imported.{Imported}
use Rattle.go_declared_core.specs.block_core.declared.imports.Imported.TheVariants as given
use Rattle.go_declared_core.specs.block_core.Exports.{ExportsModel}
use Rattle.go_declared_core.specs.block_core.Naming.{AreInFile, IsGiven, file_specs, import_at}
use Rattle.go_declared_core.specs.block_core.NamingLemmas.{same_texts, text_of}
use Rattle.go_complete_core.specs.package_core.PackagePartParts.{PartModel}
use Rattle.go_complete_core.specs.snap_core.WholeWorkspaceInputs.{AreParts, ComesTo, Shown}
use Rattle.go_complete_core.specs.summary_core.ShownShown.{MayBeShown, import_paths, path_in}
use Rattle.go_complete_core.specs.snap_core.WholeWorkspaceKnown.{IsImportedPath}
use Rattle.go_complete_core.specs.snap_core.WholeWorkspaceMirrors.Steps.{AreRight, IsRight}
use Rattle.go_complete_core.specs.snap_core.WholeWorkspaceParts.{path_told}
use Rattle.go_complete_core.specs.snap_core.WholeWorkspacePartsWhole.{all_right}
use Rattle.go_complete_core.specs.snap_core.WholeWorkspaceTheirs.{imports_lead, passes}
use Rattle.go_query_core.specs.Entries.{AreImports, EntryOf, HasPath, Imports, IsEntry}

-- the paths of imports, and the imports

module _ {A B : Type 0} (f : A → List B) where
  in_first : (x : A) (xs : List A) (y : B) → Contains (f x) y → Contains (flat_map f (x ∷ xs)) y
  in_first x xs y h = Contains-append_left (f x) (flat_map f xs) y h

  flat_there : (xs : List A) (k : ℕ) (x : A) (y : B) → slice_get xs k ≡ Some x → Contains (f x) y → Contains (flat_map f xs) y
  flat_there [] k x y at h = cc
  flat_there (z ∷ xs) zero x y at h = (let same : z ≡ x = cc in in_first z xs y (subst (λ (w : A). Contains (f w) y) (sym same) h))
  flat_there (z ∷ xs) (suc k) x y at h = Contains-append_right (f z) (flat_map f xs) y (flat_there xs k x y at h)

  flat_from : (xs : List A) (y : B) → Contains (flat_map f xs) y → (k : ℕ) × (x : A) × (slice_get xs k ≡ Some x) × Contains (f x) y
  flat_from [] y h = (let lt = h.1 in absurd (omega (arith, lt)))
  flat_from (z ∷ xs) y h = elim (Contains-append_cases (f z) (flat_map f xs) y h) [
    | inl first ↦ (0, z, refl, first)
    | inr later ↦ (let r = flat_from xs y later in (suc r.0, r.1, r.2, r.3))
  ]

there : {A : Type 0} (xs : List A) (k : ℕ) (x : A) → slice_get xs k ≡ Some x → Contains xs x
there xs k x at = (k, slice_get_within xs k x at, get_or_from_slice_get xs k x x at)

path_of_import : (i : Imported) (path : List ℕ) → Contains (path_in i) path → (e : ExportsModel) × (i ≡ given.«Package» e) × (path ≡ e.path)
path_of_import (given.«Package» e) path h = (e, refl, sym (by h.0 h.1 h.2))
  where
    by : (k : ℕ) → k < length (e.path ∷ []) → get_or (e.path ∷ []) k path ≡ path → e.path ≡ path
    by zero lt is = is
    by (suc k) lt is = absurd (omega (arith, lt))
path_of_import (given.Refused rule) path h = (let lt = h.1 in absurd (omega (arith, lt)))

pub imported_path : (imports : List (List Imported)) (path : List ℕ) → Contains (import_paths imports) path → IsImportedPath imports path
imported_path imports path h =
    let file = flat_from (λ is. flat_map path_in is) imports path h in
    let import = flat_from path_in file.1 path file.3 in
    let shown = path_of_import import.1 path import.3 in
    record { of_file = file.1; file = there imports file.0 file.1 file.2; shown = shown.0; there = subst (λ (i : Imported). Contains file.1 i) shown.1 (there file.1 import.0 import.1 import.2); is = shown.2 }

pub path_imported : (imports : List (List Imported)) (file n : ℕ) (is : List Imported) (e : ExportsModel) → slice_get imports file ≡ Some is → slice_get is n ≡ Some (given.«Package» e) → Contains (import_paths imports) e.path
path_imported imports file n is e in_files in_file =
    flat_there (λ is. flat_map path_in is) imports file is e.path in_files (flat_there path_in is n (given.«Package» e) e.path in_file (0, (let lt : 0 < 1 = omega arith in lt), refl))

mapped_back : {A B : Type 0} (f : A → B) (xs : List A) (k : ℕ) (y : B) → slice_get (map f xs) k ≡ Some y → (x : A) × (slice_get xs k ≡ Some x)
mapped_back f [] k y at = cc
mapped_back f (x ∷ xs) zero y at = (x, refl)
mapped_back f (x ∷ xs) (suc k) y at = mapped_back f xs k y at

given_package : (Shows : ℕ → ExportsModel → Type 0) (to : ℕ) (i : Imported) → IsGiven Shows (outcomes.«Package» to) i → (e : ExportsModel) × (i ≡ given.«Package» e) × Shows to e
given_package Shows to (given.«Package» e) h = (e, refl, h)
given_package Shows to (given.Refused rule) h = absurd h

same_place : (at : ImportAt) (n : ℕ) → at.«package» ≡ n → import_at n (0 + at.file) (0 + at.import) ≡ at
same_place at n is =
    let a : 0 + at.file ≡ at.file = omega arith in
    let b : 0 + at.import ≡ at.import = omega arith in
    ap (λ (f : ℕ). import_at n f (0 + at.import)) a ∙ (ap (λ (k : ℕ). import_at n at.file k) b ∙ ap (λ (p : ℕ). import_at p at.file at.import) (sym is))

-- of a package of a workspace

module _ (ps : List PackageModel) (parts : List (Option PartModel)) (well : IsWorkspace ps) (made : AreParts ps parts) where
  right : AreRight ps parts
  right = all_right ps parts made

  pub told_path : (m : ℕ) (e : ExportsModel) → Shown parts m e → HasPath ps m e.path
  told_path m e h =
      let source : PackageModel = h.told.of_part.input.source in
      let path : e.path ≡ source.0 = ap (λ (x : ExportsModel). x.path) h.is ∙ path_told ps parts well right m h.summary h.told in
      (source.1, subst (λ (p : List ℕ). slice_get ps m ≡ Some (p, source.1)) (sym path) (right m h.told.of_part h.told.there).numbered)

  module _ (n : ℕ) (part : PartModel) (at_part : slice_get parts n ≡ Some (Some part)) where
    is_right : IsRight ps parts n part
    is_right = right n part at_part

    pub imports_are : (path : List ℕ) → Contains (import_paths part.input.imports) path → Imports ps n path
    imports_are path h =
        let leads = imports_lead (ComesTo ps parts) n (trees_of part.input.source.1) part.input.imports path is_right.input.imports (imported_path part.input.imports path h) in
        let passing = passes (Shown parts) ps leads.at leads.come.outcome leads.shown leads.come.judged leads.come.given in
        let here = told_path passing.to leads.shown passing.shows in
        (leads.at, passing.to, leads.from, passing.judged, (here.0, subst (λ (p : List ℕ). slice_get ps passing.to ≡ Some (p, here.0)) (sym leads.is) here.1))

    one_path : (m : ℕ) (p q : List ℕ) → HasPath ps m p → HasPath ps m q → p ≡ q
    one_path m p q h k = ap (λ (x : PackageModel). x.0) (same_Some (p, h.0) (q, k.0) (sym h.1 ∙ k.1))

    pub all_imports : (path : List ℕ) → Imports ps n path → Contains (import_paths part.input.imports) path
    all_imports path h =
        let at : ImportAt = h.0 in
        let to : ℕ = h.1 in
        let there_is = h.3.there in
        let source : PackageModel = part.input.source in
        let here : slice_get ps n ≡ Some (h.3.q, there_is.files) = subst (λ (k : ℕ). slice_get ps k ≡ Some (h.3.q, there_is.files)) h.2 there_is.numbered in
        let same : source ≡ (h.3.q, there_is.files) = same_Some source (h.3.q, there_is.files) (sym is_right.numbered ∙ here) in
        let in_source : slice_get source.1 at.file ≡ Some there_is.file = subst (λ (p : PackageModel). slice_get p.1 at.file ≡ Some there_is.file) (sym same) there_is.in_files in
        let has : HasNoClause there_is.file → ⊥ = subst (λ (x : SourceModel). HasNoClause x → ⊥) (get_or_from_slice_get source.1 at.file there_is.file there_is.file in_source) (is_right.assembled.trees at.file there_is.file (slice_get_within source.1 at.file there_is.file in_source)) in
        let tree = tree_of there_is.file has in
        let tree_there : slice_get (trees_of source.1) at.file ≡ Some (there_is.file.name, tree.0) = tree_at source.1 at.file there_is.file tree.0 is_right.assembled.trees in_source tree.1 in
        let texts : import_texts there_is.file ≡ map text_of (file_specs tree.0) = ap content_texts tree.1 ∙ same_texts tree.0.imports in
        let spec = mapped_back text_of (file_specs tree.0) at.import h.3.text (subst (λ (l : List (List ℕ)). slice_get l at.import ≡ Some h.3.text) texts there_is.in_file) in
        let in_file = numbered_at (λ file t is. AreInFile (ComesTo ps parts) n file t.1 is) 0 (trees_of source.1) part.input.imports at.file (there_is.file.name, tree.0) is_right.input.imports tree_there in
        let in_spec = numbered_at (λ k x i. ComesTo ps parts (import_at n (0 + at.file) k) i) 0 (file_specs tree.0) in_file.0 at.import spec.0 in_file.2 spec.1 in
        let comes : ComesTo ps parts at in_spec.0 = subst (λ (a : ImportAt). ComesTo ps parts a in_spec.0) (same_place at n h.2) in_spec.2 in
        let outcome : comes.outcome ≡ outcomes.«Package» to = has_one_outcome ps at comes.outcome (outcomes.«Package» to) well comes.judged h.3 in
        let shown = given_package (Shown parts) to in_spec.0 (subst (λ (o : ImportOutcome). IsGiven (Shown parts) o in_spec.0) outcome comes.given) in
        let path_is : shown.0.path ≡ path = one_path to shown.0.path path (told_path to shown.0 shown.2) h.4 in
        subst (λ (p : List ℕ). Contains (import_paths part.input.imports) p) path_is
        (path_imported part.input.imports at.file at.import in_file.0 shown.0 in_file.1 (in_spec.1 ∙ ap Some shown.1))

    pub imports_both : (path : List ℕ) → Contains (import_paths part.input.imports) path ↔ Imports ps n path
    imports_both path = (imports_are path, all_imports path)

-- what an entry shows

pub both_ok : {T E : Type 0} (r : Result T E) (P Q R : T → Type 0) → ((x : T) → P x → Q x → R x) → IfOk r P → IfOk r Q → IfOk r R
both_ok (Ok x) P Q R f p q = f x p q
both_ok (Err e) P Q R f p q = tt

module _ (e : EntryOf) (own : IsEntry e) where
  pub shown_imports : (files : List (List Imported)) (from : List ℕ) → files ≡ e.of_part.input.imports → from ≡ e.from → (paths : List (List ℕ)) → IsStrictlySortedBy by_bytes paths
      → ((path : List ℕ) → Contains paths path ↔ (Contains (import_paths files) path × MayBeShown from path)) → AreImports e paths
  shown_imports files from same named paths order each = record {
    order = order;
    each = λ path.
        let are : Contains (import_paths e.of_part.input.imports) path ↔ Imports e.of_snapshot.sources e.number path = imports_both e.of_snapshot.sources e.of_snapshot.parts own.well own.whole.made e.number e.of_part own.there path in (
          (λ there. (
              let h = (each path).0 there in
              (are.0 (subst (λ (l : List (List Imported)). Contains (import_paths l) path) same h.0), subst (λ (q : List ℕ). MayBeShown q path) named h.1)
              )),
          (λ h. (each path).1 (subst (λ (l : List (List Imported)). Contains (import_paths l) path) (sym same) (are.1 h.0), subst (λ (q : List ℕ). MayBeShown q path) (sym named) h.1)),
        );
  }
