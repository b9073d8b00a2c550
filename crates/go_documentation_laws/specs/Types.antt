-- What documentation tells of a type of another package, by the workspace in which a file stands that imports that package.
--
-- docs/RULES.md, "Names, selectors and calls in expressions", "Whole workspaces", "What may be asked of a snapshot". The Go specification, "Selectors",
-- "Qualified identifiers", "Import declarations".
use Rattle.std.specs.Prelude.{◌≡◌, ◌≢◌, ◌↔◌, ℕ, List, Ok, Option, Some, Contains, length, slice_get}
use Rattle.go_path_core.specs.text_core.declared.rule.Rule.{Rule}
use Rattle.go_tree_nodes.specs.declared.usage.Usage.TheVariants as usages
use Rattle.go_tree_nodes.specs.Trees.{FileTree}
use Rattle.go_graph_core.specs.Packages.{IsTreeAt}
use Rattle.go_graph_core.specs.Workspaces.{IsWorkspace, PackageModel}
use Rattle.go_import_core.specs.list.Added.{AddsImport}
use Rattle.go_term_core.specs.Terms.{Term}
use Rattle.go_typexpr_core.specs.entry.Outlines.{outline_of}
use Rattle.go_expr_core.specs.denote_core.declared.things.Dot.TheVariants as dots
use Rattle.go_expr_core.specs.denote_core.declared.things.Outcome.TheVariants as outcomes
use Rattle.go_expr_core.specs.denote_core.Selectors.{selector_answer}
use Rattle.go_expr_core.specs.Looks.{look_of_place}
use Rattle.go_summary_core.specs.handle_core.Declarations.{Declaration, Package}
use Rattle.go_package_core.specs.body_core.FunctionStands.{outer_looks}
use Rattle.go_package_core.specs.prepare.Packages.{stand_in}
use Rattle.go_package_core.specs.package_part.Parts.{PartModel, package_seen, seen_by}
use Rattle.go_snap_core.specs.Snapshots.{SnapshotModel}
use Rattle.go_query_core.specs.Documenting.{IsImportedPart}
use Rattle.go_query_core.specs.Parts.{IsPartOf}
use Rattle.go_submit_core.specs.Published.{IsOneWorker}
use Rattle.go_type_doc_core.specs.declared.members.listing.MemberKind.{MemberKind}
use Rattle.go_type_doc_core.specs.members.Members.{TheLook, behind_variable}
use Rattle.go_type_doc_core.specs.Names.{BreaksRule, NamesType, TheAnswer}
use Rattle.go_type_doc_core.specs.Naming.{types_seen}
use Rattle.go_type_doc_core.specs.TypeDocs.{IsOtherTypeDoc, IsOtherTypeRefused, IsOwnTypeDoc, MemberShown, TypeDocOf}

-- the package of a number has one file more, behind its others, with one import, of a text; what else the file declares is left open. It is a workspace again
pub record AddsFile (ps : List PackageModel) (own : ℕ) (text : List ℕ) (more : List PackageModel) : Type 0 where
  pub adds : AddsImport ps own text more
  pub tree : FileTree
  pub content : adds.file.content ≡ Ok tree
  pub well : IsWorkspace more

-- what names and selectors have outside the functions of the file of a number and a tree, in the package of a part
abbrev pub look_in_file : PartModel → ℕ → FileTree → TheLook
look_in_file q file tree = look_of_place (outer_looks (stand_in (package_seen q.input q.content.blocks (seen_by q.input)) (types_seen q) q.content.declared file (outline_of tree))) 0

-- what a name has there where a type is written, behind the name of the package of a path and a dot
abbrev pub type_behind : PartModel → ℕ → FileTree → List ℕ → List ℕ → TheAnswer
type_behind q file tree path name = selector_answer (look_in_file q file tree) usages.«Type» (dots.«Package» (Package path)) name

-- in a snapshot, in the file of a number and a tree of the package of a number, the name of a type behind that of the package of a path names a type, and
-- behind a variable of it a selector has a declaration: a field as an operand, a method as what is called
pub record SelectsBehind (w : SnapshotModel) (own file : ℕ) (tree : FileTree) (path type_name : List ℕ) (kind : MemberKind) (name : List ℕ) : Type 0 where
  pub of_part : PartModel
  pub there : slice_get w.parts own ≡ Some (Some of_part)
  pub term : Term
  pub named : NamesType (type_behind of_part file tree path type_name) (Some term)
  pub declaration : Declaration
  pub through : List ℕ
  pub selected : behind_variable (look_in_file of_part file tree) term kind name ≡ outcomes.Selected declaration through

-- there a selector behind a variable of a type has a declaration, where there is such a type
pub record SelectsOn (w : SnapshotModel) (own file : ℕ) (tree : FileTree) (t : Option Term) (kind : MemberKind) (name : List ℕ) : Type 0 where
  pub of_part : PartModel
  pub there : slice_get w.parts own ≡ Some (Some of_part)
  pub term : Term
  pub is : t ≡ Some term
  pub declaration : Declaration
  pub through : List ℕ
  pub selected : behind_variable (look_in_file of_part file tree) term kind name ≡ outcomes.Selected declaration through

-- there the name of the type breaks a rule
pub record RefusesBehind (w : SnapshotModel) (own file : ℕ) (tree : FileTree) (path type_name : List ℕ) (rule : Rule) : Type 0 where
  pub of_part : PartModel
  pub there : slice_get w.parts own ≡ Some (Some of_part)
  pub refused : BreaksRule (type_behind of_part file tree path type_name) rule

-- documentation of a type has a member
abbrev pub TellsMember : TypeDocOf → MemberKind → List ℕ → Type 0
TellsMember d kind name = (m : MemberShown) × Contains d.members m × (m.kind ≡ kind) × (m.name ≡ name)

-- the members that are told of a type of another package are those that one worker gives behind a variable of the type, once a file with an import of
-- that package is added to the package that asks
abbrev pub TypesExactly : List PackageModel → SnapshotModel → Type 0
TypesExactly ps s =
    (from path type_name : List ℕ) (d : TypeDocOf) (told : IsOtherTypeDoc s from path type_name d) (more : List PackageModel) (h : AddsFile ps told.number path more) (kind : MemberKind) (name : List ℕ)
    → TellsMember d kind name ↔ ((w : SnapshotModel) × IsOneWorker more w × SelectsBehind w told.number (length h.adds.files) h.tree path type_name kind name)

-- where the import comes to a package, documentation of a type is refused by exactly the rule that its name breaks in that file
abbrev pub TypeRefusalsExactly : List PackageModel → SnapshotModel → Type 0
TypeRefusalsExactly ps s =
    (from path type_name : List ℕ) (rule : Rule) (number : ℕ) (importer of_part : PartModel) → path ≢ from → IsPartOf s from number importer → IsImportedPart s number path of_part
    → (more : List PackageModel) (h : AddsFile ps number path more)
    → IsOtherTypeRefused s from path type_name rule ↔ ((w : SnapshotModel) × IsOneWorker more w × RefusesBehind w number (length h.adds.files) h.tree path type_name rule)

-- the members that are told of a type which the package that asks names itself are those that selectors behind a variable of the type have in each file of the
-- package, as it stands
abbrev pub OwnTypesExactly : SnapshotModel → Type 0
OwnTypesExactly s =
    (from path type_name : List ℕ) (d : TypeDocOf) (told : IsOwnTypeDoc s from path type_name d) (file : ℕ) (tree : FileTree) → IsTreeAt told.own.files file tree
    → (kind : MemberKind) (name : List ℕ) → TellsMember d kind name ↔ SelectsOn s told.number file tree told.term kind name

-- so it is of the snapshot of each workspace
pub record TypesAreExact : Type 0 where
  pub told : (ps : List PackageModel) (s : SnapshotModel) → IsWorkspace ps → IsOneWorker ps s → TypesExactly ps s
  pub own : (ps : List PackageModel) (s : SnapshotModel) → IsWorkspace ps → IsOneWorker ps s → OwnTypesExactly s
  pub refused : (ps : List PackageModel) (s : SnapshotModel) → IsWorkspace ps → IsOneWorker ps s → TypeRefusalsExactly ps s
