-- What a package looks at in others: the types of those that it reaches, and what those show that it imports.
--
-- The Go specification, "Packages", "Import declarations", "Exported identifiers".
use Rattle.std.specs.Prelude.{◌≡◌, ℕ, List, ◌∷◌, All, Contains, map}
use Rattle.go_tree_nodes.specs.Spelling.{IsPlaced}
use Rattle.go_term_core.specs.decl_core.declared.keys.DeclKey.{DeclKey}
use Rattle.go_term_core.specs.decl_core.declared.keys.DeclRef.{DeclRef}
use Rattle.go_names_core.specs.block_core.declared.imports.Imported.{Imported}
use Rattle.go_body_core.specs.table_core.Entries.{find_entry}
use Rattle.go_report_core.specs.summary_core.Summaries.{SummaryModel, path_of}
use Rattle.go_emit_core.specs.declared_core.Packages.{exported_in, face_in}
use Rattle.go_emit_core.specs.package_core.PreparePackages.{trees_in}
use Rattle.go_emit_core.specs.package_core.PackagePartInputs.{InputModel, path_in}
use Rattle.go_emit_core.specs.package_core.PackagePartParts.{SeenOf, seen_by}
use Rattle.go_snap_core.specs.whole_workspace.Known.{IsImportedPath, MentionsInside}

-- what is known of packages

-- the same is known of the types of some packages, each by its key, and of what those show that are imported: which declaration a name shows, and what a
-- name and a declaration are
pub record ShownAlike (Inside Imports : List ℕ → Type 0) (one other : SeenOf) : Type 0 where
  pub types : (k : DeclKey) → Inside k.path → find_entry one.types k ≡ find_entry other.types k
  pub shows : (path name : List ℕ) → Imports path → one.shows path name ≡ other.shows path name
  pub faces : (path name : List ℕ) → Imports path → exported_in one.faces path name ≡ exported_in other.faces path name
  pub declared : (path : List ℕ) (d : DeclRef) → Imports path → face_in one.faces path d ≡ face_in other.faces path d

-- inputs

-- the path of a package, and those of the packages that it reaches
abbrev pub paths_in : InputModel → List (List ℕ)
paths_in i = path_in i ∷ map path_of i.reached

-- an input leads to no package beside its own and those that it reaches: its imports come to these, and the types and the faces that these tell mention
-- types of theirs
pub record LeadsInside (i : InputModel) : Type 0 where
  pub placed : All IsPlaced (trees_in i.source)
  pub imports : (path : List ℕ) → IsImportedPath i.imports path → Contains (paths_in i) path
  pub mentions : MentionsInside (Contains (paths_in i)) (λ from to. Contains (paths_in i) to) (seen_by i)

-- a package tells the types that it told, and where an import comes to it, the names and the faces too
pub record TellsEnough (imports : List (List Imported)) (one other : SummaryModel) : Type 0 where
  pub path : path_of one ≡ path_of other
  pub types : one.types ≡ other.types
  pub exports : IsImportedPath imports (path_of one) → one.exports ≡ other.exports
  pub faces : IsImportedPath imports (path_of one) → one.faces ≡ other.faces

-- a package that tells enough of what another told is among these
pub record HasEnough (imports : List (List Imported)) (one : SummaryModel) (reached : List SummaryModel) : Type 0 where
  pub summary : SummaryModel
  pub there : Contains reached summary
  pub enough : TellsEnough imports one summary

-- two inputs of one package, with the same files, whose imports come to the same: each package that the one reaches the other reaches too, and it tells
-- enough of what it told. The other may reach more
pub record StandsOver (one other : InputModel) : Type 0 where
  pub source : one.source ≡ other.source
  pub imports : one.imports ≡ other.imports
  pub told : (s : SummaryModel) → Contains one.reached s → HasEnough one.imports s other.reached
