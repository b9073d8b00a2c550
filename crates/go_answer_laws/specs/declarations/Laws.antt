-- Each declaration that an answer names is there.
--
-- docs/RULES.md, "Occurrences", "Whole workspaces". The Go specification, "Declarations and scope", "Packages".
use Rattle.std.specs.Prelude.{◌≡◌, ℕ, zero, suc, List, [], ◌∷◌, Option, Some, Ok, Contains, slice_get, slice_index_or, ⊤}
use Rattle.go_tree_nodes.specs.declared.names.Ident.{Ident}
use Rattle.go_tree_nodes.specs.Trees.{FileTree}
use Rattle.go_tree_core.specs.declared.occurrence.Occ.{Occ}
use Rattle.go_tree_core.specs.Occurrences.{file_occs}
use Rattle.go_graph_core.specs.Sources.{SourceModel}
use Rattle.go_graph_core.specs.Workspaces.{PackageModel, IsReadWorkspace, IsWorkspace}
use Rattle.go_names_core.specs.block_core.Naming.{file_specs}
use Rattle.go_term_core.specs.declared.term.MemberPlace.{MemberPlace}
use Rattle.go_site_core.specs.handle_core.Declarations.{Declaration, Universe, OfError, Package, InFile}
use Rattle.go_query_core.specs.body_core.Notes.{TheUse}
use Rattle.go_site_core.specs.Sites.{place_of_site}
use Rattle.go_query_core.specs.package_core.PreparePackages.{trees_in}
use Rattle.go_query_core.specs.package_core.PackagePartInputs.{InputModel, path_in}
use Rattle.go_query_core.specs.package_core.PackagePartParts.{FileOf, PartModel}
use Rattle.go_query_core.specs.package_core.PackagePartSlots.{somes}
use Rattle.go_query_core.specs.snap_core.declared.fault.PlacedFault.{PlacedFault}
use Rattle.go_query_core.specs.snap_core.Snapshots.{IsAnswerAt, IsSnapshot}
use Rattle.go_answer_laws.specs.declarations.Found.{AreThereAs, FilePlace, IsThereAs, IsImportThereAt, IsThereUnder, file_place}

-- the file of a number and a tree, as its part sees it
abbrev pub place_in_part : InputModel → ℕ → FileTree → FilePlace
place_in_part i m t = file_place (path_in i) m (file_specs t) (slice_index_or i.imports m [])

-- what each occurrence of a file of a snapshot has is there: a predeclared name; a package of the workspace that the file imports under that name; or an
-- identifier of a file of the workspace, by its number among those that the file declares outside function bodies, or, inside a function of the very same
-- file, by its offset. And it is spelled there as it is where it occurs
abbrev pub DeclarationsAreThere : Type 0
DeclarationsAreThere =
    (ps : List PackageModel) (parts : List (Option PartModel)) (faults : List PlacedFault) → IsReadWorkspace ps → IsSnapshot ps parts faults → (p : PartModel) → Contains (somes parts) p
    → (m : ℕ) (t : FileTree) (f : FileOf) → slice_get (trees_in p.input.source) m ≡ Some t → slice_get p.content.files m ≡ Some f
    → (let at : FilePlace = place_in_part p.input m t in AreThereAs (IsThereUnder ps at) (IsImportThereAt ps at) [] (file_occs t) f.answers.uses)

-- how a declaration of a file is written, by the name of its file and the offset of its identifier, which is spelled so: nothing is left out for want of a
-- package, a file or a number
pub record HasSite (ps : List PackageModel) (home name : List ℕ) (place : MemberPlace) : Type 0 where
  pub file : List ℕ
  pub ident : Ident
  pub is : place_of_site ps home place ≡ Some (file, ident.span.start)
  pub spelled : ident.name ≡ name

abbrev pub IsSited : List PackageModel → List ℕ → Declaration → Type 0
IsSited ps name (Universe predeclared) = ⊤
IsSited ps name OfError = ⊤
IsSited ps name (Package path) = ⊤
IsSited ps name (InFile home place) = HasSite ps home name place

-- what is there has such a site
abbrev pub SitesAreThere : Type 0
SitesAreThere = (ps : List PackageModel) → IsWorkspace ps → (at : FilePlace) (name : List ℕ) (d : Declaration) → IsThereUnder ps at name d → IsSited ps name d

-- how the occurrence before that of a number is spelled
abbrev pub spelled_before : List ℕ → List Occ → ℕ → List ℕ
spelled_before first os zero = first
spelled_before first [] (suc n) = first
spelled_before first (o ∷ os) (suc n) = spelled_before o.spelling os n

-- what a snapshot answers for the occurrence of a number is there, under the name of this occurrence
pub record IsAnswerThere (ps : List PackageModel) (i : InputModel) (file : ℕ) (source : SourceModel) (n : ℕ) (u : TheUse) : Type 0 where
  pub tree : FileTree
  pub content : source.content ≡ Ok tree
  pub occurrence : Occ
  pub there : slice_get (file_occs tree) n ≡ Some occurrence
  pub is : (let at : FilePlace = place_in_part i file tree in IsThereAs (IsThereUnder ps at) (IsImportThereAt ps at) (spelled_before [] (file_occs tree) n) occurrence.spelling occurrence.role u)

-- so each answer names what is there, by the path of its package, the name of its file and its number
abbrev pub AnswersAreThere : Type 0
AnswersAreThere =
    (ps : List PackageModel) (parts : List (Option PartModel)) (faults : List PlacedFault) → IsReadWorkspace ps → IsSnapshot ps parts faults
    → (path name : List ℕ) (n : ℕ) (u : TheUse) (h : IsAnswerAt ps parts path name n u) → IsAnswerThere ps h.of_part.input h.number h.source n u
