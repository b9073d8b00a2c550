-- Where what an answer names is declared, and how it is spelled there.
--
-- docs/RULES.md, "Occurrences", "Imports". The Go specification, "Declarations and scope", "Blocks", "Qualified identifiers", "Selectors", "Calls".
use Rattle.std.specs.Prelude.{◌≡◌, ℕ, List, [], ◌∷◌, ◌++◌, map, Contains, Option, Some, Ok, slice_get, slice_index_or, codes, ⊤}
use Rattle.std.specs.List.{flat_map}
use Rattle.go_universe_core.specs.Universe.{spelling_of}
use Rattle.go_tree_nodes.specs.declared.names.Ident.{Ident}
use Rattle.go_tree_nodes.specs.declared.files.ImportName.{ImportName}
use Rattle.go_tree_nodes.specs.declared.files.ImportName.TheVariants as written
use Rattle.go_tree_nodes.specs.Trees.{FileTree, FuncTree, ImportSpecTree}
use Rattle.go_tree_core.specs.declared.occurrence.Role.{Role}
use Rattle.go_tree_core.specs.declared.occurrence.Role.TheVariants as roles
use Rattle.go_tree_core.specs.declared.occurrence.Occ.{Occ}
use Rattle.go_term_core.specs.decl_core.Outer.{Outer, outer_names, type_outers}
use Rattle.go_graph_core.specs.Imports.{IsNumbered}
use Rattle.go_graph_core.specs.Packages.{IsAssembled, trees_of}
use Rattle.go_graph_core.specs.Sources.{SourceModel}
use Rattle.go_graph_core.specs.Workspaces.{PackageModel}
use Rattle.go_names_core.specs.block_core.declared.imports.Imported.{Imported}
use Rattle.go_names_core.specs.block_core.declared.imports.Imported.TheVariants as given
use Rattle.go_names_core.specs.block_core.Exports.{ExportsModel, clause_name}
use Rattle.go_names_core.specs.local_core.Outline.{func_steps}
use Rattle.go_names_core.specs.local_core.Steps.{Steps, Done, Check, Declare, Inner}
use Rattle.go_term_core.specs.declared.term.MemberPlace.{MemberPlace}
use Rattle.go_term_core.specs.declared.term.MemberPlace.TheVariants as places
use Rattle.go_cursor_core.specs.denote_core.declared.things.Outcome.{Outcome}
use Rattle.go_cursor_core.specs.denote_core.declared.things.Outcome.TheVariants as outcomes
use Rattle.go_site_core.specs.handle_core.Declarations.{Declaration, Universe, OfError, Package, InFile}
use Rattle.go_stmt_core.specs.inline_core.Trees.{func_types}
use Rattle.go_query_core.specs.body_core.Notes.{TheUse}
use Rattle.go_query_core.specs.body_core.FileStands.{file_funcs}

-- where there is a declaration
abbrev pub HasDeclared : (Declaration → Type 0) → Outcome Declaration (List ℕ) → Type 0
HasDeclared Is (outcomes.Declared d) = Is d
HasDeclared Is (outcomes.Selected d path) = Is d
HasDeclared Is (outcomes.Refused rule) = ⊤

-- packages and files

-- the workspace has a package of a path, with these files, which assemble
pub record IsPackageThere (ps : List PackageModel) (path : List ℕ) (files : List SourceModel) : Type 0 where
  pub number : ℕ
  pub numbered : IsNumbered ps path number files
  pub assembled : IsAssembled files

-- the file of a number of the package of a path has this tree
pub record IsFileThere (ps : List PackageModel) (path : List ℕ) (file : ℕ) (t : FileTree) : Type 0 where
  pub files : List SourceModel
  pub there : IsPackageThere ps path files
  pub source : SourceModel
  pub in_package : slice_get files file ≡ Some source
  pub content : source.content ≡ Ok t

-- identifiers of a file

-- the names that the steps of a function declare
abbrev pub steps_declare : Steps → List Ident
steps_declare Done = []
steps_declare (Check p rest) = steps_declare rest
steps_declare (Declare m from p xs rest) = xs ++ steps_declare rest
steps_declare (Inner o c steps rest) = steps_declare steps ++ steps_declare rest

-- the identifiers that a type declares: its fields, its methods, and their parameters
abbrev pub type_declares : List Outer → List Ident
type_declares os = map (λ o. o.ident) os

-- the identifiers that a function declares: its receiver, parameters and results, the constants and variables in it, and those that the types declare
-- which it writes
abbrev pub func_declares : FuncTree → List Ident
func_declares g = steps_declare (func_steps g) ++ flat_map (λ t. type_declares (type_outers t)) (func_types g)

-- the identifier of a number, of those that a file declares outside function bodies, has this name
pub record IsOuterNamed (t : FileTree) (number : ℕ) (name : List ℕ) : Type 0 where
  pub outer : Outer
  pub there : slice_get (outer_names t) number ≡ Some outer
  pub spelled : outer.ident.name ≡ name

-- a function of the file declares an identifier at an offset which has this name
pub record IsInnerNamed (t : FileTree) (offset : ℕ) (name : List ℕ) : Type 0 where
  pub func : FuncTree
  pub in_file : Contains (file_funcs t) func
  pub ident : Ident
  pub declared : Contains (func_declares func) ident
  pub at : ident.span.start ≡ offset
  pub spelled : ident.name ≡ name

abbrev pub IsPlaceNamed : FileTree → List ℕ → MemberPlace → Type 0
IsPlaceNamed t name (places.Declared d) = IsOuterNamed t d.number name
IsPlaceNamed t name (places.Local l) = IsInnerNamed t l.offset name

-- the number of the file of a place
abbrev pub file_of_place : MemberPlace → ℕ
file_of_place (places.Declared d) = d.file
file_of_place (places.Local l) = l.file

-- a place of a package of the workspace: its file is there, and so is the identifier, under this name
pub record IsMemberThere (ps : List PackageModel) (home name : List ℕ) (place : MemberPlace) : Type 0 where
  pub tree : FileTree
  pub file : IsFileThere ps home (file_of_place place) tree
  pub named : IsPlaceNamed tree name place

-- what stands inside a function is of this file alone
abbrev pub IsOfThisFile : List ℕ → ℕ → List ℕ → MemberPlace → Type 0
IsOfThisFile path file home (places.Declared d) = ⊤
IsOfThisFile path file home (places.Local l) = (home ≡ path) × (l.file ≡ file)

-- imports

-- the name of an import: the one that is written, or else that of the clauses of its package; an import with a dot has none
abbrev pub IsNameOfImport : ImportName → List ℕ → List ℕ → Type 0
IsNameOfImport written.Own clause name = name ≡ clause
IsNameOfImport (written.Named x) clause name = name ≡ x.name
IsNameOfImport (written.Dot dot) clause name = ⊥

-- an import of a file, by its number among the file's imports, which come to these, comes to the package of a path of the workspace
pub record IsImportThere (ps : List PackageModel) (specs : List ImportSpecTree) (imports : List Imported) (path : List ℕ) (spec : ImportSpecTree) (clause : List ℕ) : Type 0 where
  pub number : ℕ
  pub is_written : slice_get specs number ≡ Some spec
  pub shown : ExportsModel
  pub comes : slice_get imports number ≡ Some (given.«Package» shown)
  pub of_path : shown.path ≡ path
  pub files : List SourceModel
  pub there : IsPackageThere ps path files
  pub clauses : clause ≡ clause_name (trees_of files)

-- where a file stands: the path of its package, its number there, its imports and what they come to
pub record FilePlace : Type 0 where
  pub path : List ℕ
  pub file : ℕ
  pub specs : List ImportSpecTree
  pub imports : List Imported

abbrev pub file_place : List ℕ → ℕ → List ImportSpecTree → List Imported → FilePlace
file_place path file specs imports = record { path = path; file = file; specs = specs; imports = imports }

-- a package that an import of the file binds to a name
pub record IsPackageNamed (ps : List PackageModel) (at : FilePlace) (name path : List ℕ) : Type 0 where
  pub spec : ImportSpecTree
  pub clause : List ℕ
  pub import_there : IsImportThere ps at.specs at.imports path spec clause
  pub named : IsNameOfImport spec.name clause name

-- a declaration that is there under a name, as a file sees it
abbrev pub IsThereUnder : List PackageModel → FilePlace → List ℕ → Declaration → Type 0
IsThereUnder ps at name (Universe predeclared) = spelling_of predeclared ≡ name
IsThereUnder ps at name OfError = name ≡ codes "Error"
IsThereUnder ps at name (Package path) = IsPackageNamed ps at name path
IsThereUnder ps at name (InFile home place) = IsMemberThere ps home name place × IsOfThisFile at.path at.file home place

-- what the import has whose string stands at an offset: the package that it comes to
pub record IsImportAt (ps : List PackageModel) (at : FilePlace) (offset : ℕ) (path : List ℕ) : Type 0 where
  pub spec : ImportSpecTree
  pub clause : List ℕ
  pub stands : spec.path.span.start ≡ offset
  pub import_there : IsImportThere ps at.specs at.imports path spec clause

abbrev pub IsImportThereAt : List PackageModel → FilePlace → ℕ → Declaration → Type 0
IsImportThereAt ps at offset (Universe predeclared) = ⊥
IsImportThereAt ps at offset OfError = ⊥
IsImportThereAt ps at offset (Package path) = IsImportAt ps at offset path
IsImportThereAt ps at offset (InFile home place) = ⊥

-- occurrences

-- what an occurrence of a role has: an identifier what is there under its own name; a call what is there under the name of the occurrence before its
-- parenthesis, which is the last of what is called; and an import its package
abbrev pub IsThereAs : (List ℕ → Declaration → Type 0) → (ℕ → Declaration → Type 0) → List ℕ → List ℕ → Role → TheUse → Type 0
IsThereAs Named Imported before name roles.Import u = HasDeclared (Imported u.offset) u.outcome
IsThereAs Named Imported before name roles.Call u = HasDeclared (Named before) u.outcome
IsThereAs Named Imported before name _ u = HasDeclared (Named name) u.outcome

-- what the occurrences of a list have, where the one before them is spelled so
abbrev pub AreThereAs : (List ℕ → Declaration → Type 0) → (ℕ → Declaration → Type 0) → List ℕ → List Occ → List TheUse → Type 0
AreThereAs Named Imported before [] [] = ⊤
AreThereAs Named Imported before (o ∷ os) (u ∷ us) = IsThereAs Named Imported before o.spelling o.role u × AreThereAs Named Imported o.spelling os us
AreThereAs Named Imported before _ _ = ⊥
