-- Laws of summaries and of what is seen by them.
use Rattle.std.specs.Prelude.{◌≡◌, ◌↔◌, ℕ, true, false, List, [], ◌∷◌, None, All, Contains}
use Rattle.std.specs.Str.{chars}
use Rattle.go_term_core.specs.text_core.Text.{exported}
use Rattle.go_declared_core.specs.graph_core.Packages.{trees_of}
use Rattle.go_declared_core.specs.graph_core.Workspaces.{PackageModel, names_of_files}
use Rattle.go_term_core.specs.decl_core.declared.keys.DeclKey.{DeclKey}
use Rattle.go_term_core.specs.decl_core.declared.keys.DeclRef.{DeclRef}
use Rattle.go_declared_core.specs.block_core.Blocks.{BlocksModel}
use Rattle.go_declared_core.specs.block_core.Exports.{clause_name, exported_names}
use Rattle.go_declared_core.specs.block_core.Tables.{has}
use Rattle.go_declared_core.specs.typexpr_core.EntryShowing.{shown_in}
use Rattle.go_table_core.specs.Entries.{find_entry}
use Rattle.go_table_core.specs.Tables.{PackageTypesModel}
use Rattle.go_declared_core.specs.declared.shown.ShownFace.TheVariants as shows
use Rattle.go_declared_core.specs.Packages.{DeclaredOf, exported_in, face_by, face_in, names_seen, package_faces, shown_by}
use Rattle.go_summary_core.specs.Summaries.{SummaryModel, IsOfOne, path_of, summary_of, summary_with}
use Rattle.go_summary_core.specs.Views.{PathsAreApart, exports_told, faces_told, types_told}

-- views

-- a view tells of the package of a summary exactly what the summary does: the types by their keys, what it shows behind a dot, and what
-- the declarations are
pub record TellsWhatItDoes (ss : List SummaryModel) (s : SummaryModel) : Type 0 where
  pub types : (k : DeclKey) → k.path ≡ path_of s → find_entry (types_told ss) k ≡ find_entry s.types.entries k
  pub names : (name : List ℕ) → shown_in (exports_told ss) (path_of s) name ≡ shown_in (s.exports ∷ []) (path_of s) name
  pub faces : (name : List ℕ) → exported_in (faces_told ss) (path_of s) name ≡ shown_by s.faces name
  pub declared : (d : DeclRef) → face_in (faces_told ss) (path_of s) d ≡ face_by s.faces d

abbrev pub ViewsTellSummaries : Type 0
ViewsTellSummaries = (ss : List SummaryModel) (s : SummaryModel) → PathsAreApart ss → All IsOfOne ss → Contains ss s → TellsWhatItDoes ss s

-- of a path that no summary has a view tells nothing
pub record TellsNothing (ss : List SummaryModel) (path : List ℕ) : Type 0 where
  pub types : (k : DeclKey) → k.path ≡ path → find_entry (types_told ss) k ≡ None
  pub names : (name : List ℕ) → shown_in (exports_told ss) path name ≡ None
  pub faces : (name : List ℕ) → exported_in (faces_told ss) path name ≡ shows.Absent
  pub declared : (d : DeclRef) → face_in (faces_told ss) path d ≡ None

abbrev pub ViewsTellNothingElse : Type 0
ViewsTellNothingElse = (ss : List SummaryModel) (path : List ℕ) → All IsOfOne ss → All (λ s. path ≡ path_of s → ⊥) ss → TellsNothing ss path

-- what is not exported

-- a summary but for the names of the package block
abbrev pub without_names : SummaryModel → SummaryModel
without_names s = summary_with s.exports s.types (package_faces s.faces.path [] s.faces.faces) s.files

-- two packages of one path, with one name in their clauses and files of the same names, whose blocks export the same names with the same
-- declarations
pub record ExportAlike (p q : PackageModel) (b c : BlocksModel) : Type 0 where
  pub path : p.0 ≡ q.0
  pub clause : clause_name (trees_of p.1) ≡ clause_name (trees_of q.1)
  pub files : names_of_files p.1 ≡ names_of_files q.1
  pub names : exported_names b.names ≡ exported_names c.names

-- with the same types and the same faces of what is exported they tell the same, but for the spellings of names; and all the same where
-- their blocks have the same names, as others see them
pub record HiddenNamesDoNotCount : Type 0 where
  pub apart : (p q : PackageModel) (b c : BlocksModel) (types : PackageTypesModel) (shown : List DeclaredOf)
      → ExportAlike p q b c
      → without_names (summary_of p b types (package_faces p.0 (names_seen b.names) shown)) ≡ without_names (summary_of q c types (package_faces q.0 (names_seen c.names) shown))
  pub alike : (p q : PackageModel) (b c : BlocksModel) (types : PackageTypesModel) (shown : List DeclaredOf)
      → ExportAlike p q b c → names_seen b.names ≡ names_seen c.names
      → summary_of p b types (package_faces p.0 (names_seen b.names) shown) ≡ summary_of q c types (package_faces q.0 (names_seen c.names) shown)

-- of a name that is not exported a package that is reached is told whether the package block has it, and no more: it is not exported, or
-- it is not there
pub record HiddenNamesAreKnown : Type 0 where
  pub hidden : (path : List ℕ) (b : BlocksModel) (faces : List DeclaredOf) (name : List ℕ)
      → (shown_by (package_faces path (names_seen b.names) faces) name ≡ shows.Hidden) ↔ ((has b.names name ≡ true) × (exported (chars name) ≡ false))
  pub absent : (path : List ℕ) (b : BlocksModel) (faces : List DeclaredOf) (name : List ℕ)
      → (shown_by (package_faces path (names_seen b.names) faces) name ≡ shows.Absent) ↔ (has b.names name ≡ false)
