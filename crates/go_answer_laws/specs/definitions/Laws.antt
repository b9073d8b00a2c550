-- How the declarations are written that a snapshot has for identifiers at offsets.
--
-- docs/RULES.md, "Output", "Occurrences". The Go specification, "Declarations and scope", "Packages".
use Rattle.std.specs.Prelude.{◌≡◌, ℕ, List, ◌++◌, Some, codes, slice_get}
use Rattle.go_tree_nodes.specs.declared.names.Ident.{Ident}
use Rattle.go_tree_nodes.specs.Trees.{FileTree}
use Rattle.go_tree_core.specs.declared.occurrence.Occ.{Occ}
use Rattle.go_tree_core.specs.Occurrences.{Covers, file_occs}
use Rattle.go_graph_core.specs.Workspaces.{PackageModel, IsReadWorkspace}
use Rattle.go_term_core.specs.declared.term.MemberPlace.{MemberPlace}
use Rattle.go_term_core.specs.declared.term.MemberPlace.TheVariants as places
use Rattle.go_site_core.specs.handle_core.Declarations.{Declaration, Universe, OfError, Package, InFile}
use Rattle.go_site_core.specs.Sites.{located_text, site_text}
use Rattle.go_query_core.specs.Defining.{IsDefinition}
use Rattle.go_query_core.specs.snap_core.Snapshots.{FoundFile, IsSnapshot, SnapshotModel}
use Rattle.go_answer_laws.specs.declarations.Found.{FilePlace, IsMemberThere, IsPlaceNamed, IsThereUnder}
use Rattle.go_answer_laws.specs.declarations.Laws.{place_in_part}

-- the identifier of a file that is declared at a place under a name
abbrev pub ident_named : (t : FileTree) (name : List ℕ) (place : MemberPlace) → IsPlaceNamed t name place → Ident
ident_named t name (places.Declared d) h = h.outer.ident
ident_named t name (places.Local l) h = h.ident

-- PATH/FILE:OFFSET, of the file where the identifier is, and of the identifier
abbrev pub text_there : (ps : List PackageModel) (home name : List ℕ) (place : MemberPlace) → IsMemberThere ps home name place → List ℕ
text_there ps home name place h = located_text home (Some (h.file.source.name, (ident_named h.tree name place h.named).span.start))

-- how a declaration is written that is there under a name
abbrev pub IsWrittenAs : (ps : List PackageModel) (at : FilePlace) (name : List ℕ) (d : Declaration) → IsThereUnder ps at name d → List ℕ → Type 0
IsWrittenAs ps at name (Universe predeclared) there text = text ≡ codes "universe." ++ name
IsWrittenAs ps at name OfError there text = text ≡ codes "universe.error." ++ name
IsWrittenAs ps at name (Package path) there text = text ≡ codes "package " ++ path
IsWrittenAs ps at name (InFile home place) there text = text ≡ text_there ps home name place there.0

-- a declaration of a snapshot for an offset of a file: an identifier is used there, the declaration is there under its name, and is written so
pub record IsTold (ps : List PackageModel) (f : FoundFile) (offset : ℕ) (d : Declaration) : Type 0 where
  pub number : ℕ
  pub occurrence : Occ
  pub used : slice_get (file_occs f.tree) number ≡ Some occurrence
  pub covers : Covers offset occurrence
  pub there : IsThereUnder ps (place_in_part f.of_part.input f.number f.tree) occurrence.spelling d
  pub written : IsWrittenAs ps (place_in_part f.of_part.input f.number f.tree) occurrence.spelling d there (site_text ps d)

-- so is each that `define` gives: nothing that is written of it is empty, or left out for want of a package, a file or a number
abbrev pub DefinitionsAreTold : Type 0
DefinitionsAreTold = (s : SnapshotModel) → IsReadWorkspace s.sources → IsSnapshot s.sources s.parts s.faults → (path name : List ℕ) (offset : ℕ) (d : Declaration) (h : IsDefinition s path name offset d) → IsTold s.sources h.0 offset d
