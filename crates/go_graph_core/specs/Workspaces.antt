-- The packages of a workspace, in order of path, each with its files in order of name.
use Rattle.std.specs.Prelude.{◌≡◌, ◌≢◌, ◌<◌, ℕ, Bool, not, List, [], ◌∷◌, map, length, Option, Some, None, All, string_bytes}
use Rattle.std.specs.List.{fold, filter, IsDistinct}
use Rattle.std.specs.List.Sorted.{IsStrictlySortedBy, IsPermutation}
use Rattle.std.specs.Ordering.{nat_cmp}
use Rattle.std.specs.declared.cmp.Ordering.{Ordering}
use Rattle.std.specs.Cmp.Lexicographic.{slice_cmp}
use Rattle.std.specs.Str.{bytes_eq}
use Rattle.std.specs.BTreeMap.{insert_entry, is_at}
use Rattle.std.specs.Map.{keys_of, lookup, remove_entry}
use Rattle.std.specs.Coded.{Coded, coded×, coded_list, coded_ℕ}
use Rattle.std.specs.declared.string.String.{String}
use Rattle.go_path_core.specs.Path.{elements, begins, IsPath, IsPrefix}
use Rattle.go_graph_core.specs.Sources.{SourceModel, coded_source, IsRead, IsPlacedSource}

-- a package: its path and its files
abbrev pub PackageModel : Type 0
PackageModel = List ℕ × List SourceModel

abbrev pub coded_package : Coded PackageModel
coded_package = coded× (coded_list coded_ℕ) (coded_list coded_source)

-- the order of texts by their bytes
abbrev pub by_bytes : List ℕ → List ℕ → Ordering
by_bytes = slice_cmp nat_cmp

-- the names of files
abbrev pub names_of_files : List SourceModel → List (List ℕ)
names_of_files fs = map (λ f. f.name) fs

-- a package of a workspace: a path, and at least one file, in order of name, no two of one name
pub record IsPackage (p : PackageModel) : Type 0 where
  pub path : IsPath p.0
  pub some : 0 < length p.1
  pub order : IsStrictlySortedBy by_bytes (names_of_files p.1)
  pub contents : All IsPlacedSource p.1

-- each file of a package is read: its content is that of its text
abbrev pub AreAllRead : PackageModel → Type 0
AreAllRead p = All IsRead p.1

-- the packages of a workspace: in order of path, no two of one path
pub record IsWorkspace (ps : List PackageModel) : Type 0 where
  pub order : IsStrictlySortedBy by_bytes (keys_of ps)
  pub packages : All IsPackage ps

-- a workspace of which each file is read
pub record IsReadWorkspace (ps : List PackageModel) : Type 0 where
  pub well : IsWorkspace ps
  pub read : All AreAllRead ps

-- the files of a path's package, if there is one
abbrev pub files_at : List PackageModel → List ℕ → Option (List SourceModel)
files_at ps path = lookup (is_at (by_bytes path)) ps

-- names and texts that a caller gives
abbrev pub given_files : {Y Z : Type 0} → List (String Y × String Z) → List (List ℕ × List ℕ)
given_files fs = map (λ f. (string_bytes f.0, string_bytes f.1)) fs

-- the names and texts of files
abbrev pub texts_of_files : List SourceModel → List (List ℕ × List ℕ)
texts_of_files fs = map (λ f. (f.name, f.text)) fs

-- no two of them have one name
abbrev pub HaveDistinctNames : List (List ℕ × List ℕ) → Type 0
HaveDistinctNames given = IsDistinct bytes_eq (keys_of given)

-- the files of these names and texts, in order of name
pub record AreReadFrom (given : List (List ℕ × List ℕ)) (fs : List SourceModel) : Type 0 where
  pub order : IsStrictlySortedBy by_bytes (names_of_files fs)
  pub same : IsPermutation given (map (λ f. (f.name, f.text)) fs)
  pub contents : All IsRead fs

-- the packages, with these files in the place of the path's; without files none is of that path
abbrev pub put_package : List PackageModel → List ℕ → List SourceModel → List PackageModel
put_package ps path [] = remove_entry (is_at (by_bytes path)) ps
put_package ps path (f ∷ fs) = insert_entry by_bytes ps path (f ∷ fs)

-- the files that a put leaves at its path
abbrev pub put_files : List SourceModel → Option (List SourceModel)
put_files [] = None
put_files (f ∷ fs) = Some (f ∷ fs)

-- the path's files are read from these names and texts, and the other packages stay
pub record Puts (old : List PackageModel) (path : List ℕ) (given : List (List ℕ × List ℕ)) (new : List PackageModel) : Type 0 where
  pub files : List SourceModel
  pub read : AreReadFrom given files
  pub packages : new ≡ put_package old path files
  pub here : files_at new path ≡ put_files files
  pub others : (q : List ℕ) → q ≢ path → files_at new q ≡ files_at old q

-- whether a path is the module's or lies below it
abbrev pub is_path_inside : List ℕ → List ℕ → Bool
is_path_inside own path = begins (elements own) (elements path)

-- the packages inside a module, and those outside it
abbrev pub packages_inside : List ℕ → List PackageModel → List PackageModel
packages_inside own ps = filter (λ p. is_path_inside own p.0) ps

abbrev pub packages_outside : List ℕ → List PackageModel → List PackageModel
packages_outside own ps = filter (λ p. not (is_path_inside own p.0)) ps

-- packages, each put into its place among others
abbrev pub put_all : List PackageModel → List PackageModel → List PackageModel
put_all base ps = fold (λ old p. insert_entry by_bytes old p.0 p.1) base ps

-- the packages with those of a module taken from another workspace
abbrev pub replaced : List ℕ → List PackageModel → List PackageModel → List PackageModel
replaced own old from = put_all (packages_outside own old) (packages_inside own from)

-- inside the module stands what the one has, and elsewhere what the other has
pub record Replaces (own : List ℕ) (old from new : List PackageModel) : Type 0 where
  pub packages : new ≡ replaced own old from
  pub here : (path : List ℕ) → IsPrefix (elements own) (elements path) → files_at new path ≡ files_at from path
  pub others : (path : List ℕ) → (IsPrefix (elements own) (elements path) → ⊥) → files_at new path ≡ files_at old path
