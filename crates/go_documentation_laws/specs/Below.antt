-- What stays where a file with an import is added to a package: all that the import leads to.
--
-- docs/RULES.md, "Imports", "Parts of packages", "Whole workspaces". The Go specification, "Import declarations".
use Rattle.std.specs.Prelude.{◌≡◌, ◌↔◌, ◌⊎◌, ℕ, List, Option, Some, slice_get}
use Rattle.go_graph_core.specs.declared.imports.ImportAt.{ImportAt}
use Rattle.go_graph_core.specs.declared.imports.ImportOutcome.{ImportOutcome}
use Rattle.go_graph_core.specs.declared.imports.ImportOutcome.TheVariants.{Package}
use Rattle.go_graph_core.specs.Imports.{IsOutcome}
use Rattle.go_graph_core.specs.Workspaces.{IsWorkspace, PackageModel}
use Rattle.go_import_core.specs.list.Added.{AddsImport}
use Rattle.go_import_core.specs.list.Importing.{IsJudgedAt}
use Rattle.go_term_core.specs.decl_core.declared.keys.DeclRef.{DeclRef}
use Rattle.go_term_core.specs.Terms.{Term}
use Rattle.go_summary_core.specs.declared_core.declared.face.Face.TheVariants as faces
use Rattle.go_summary_core.specs.declared_core.Packages.{face_by}
use Rattle.go_summary_core.specs.table_core.Entries.{find_entry}
use Rattle.go_summary_core.specs.table_core.Laws.{AgreeFrom}
use Rattle.go_package_core.specs.package_part.Parts.{PartModel}
use Rattle.go_snap_core.specs.whole_workspace.Inputs.{AreParts, ReachesPackage}
use Rattle.go_type_doc_core.specs.Naming.{types_seen}

-- a package is the one of a number, or one that this reaches
abbrev pub IsBelow : List PackageModel → ℕ → ℕ → Type 0
IsBelow ps to m = (m ≡ to) ⊎ ReachesPackage ps to m

-- where an import of a text would come to a package, what the imports of that package and of all that it reaches come to is what they come to once a file
-- with this import is added
abbrev pub OutcomesBelowStay : Type 0
OutcomesBelowStay =
    (ps more : List PackageModel) (own to : ℕ) (text : List ℕ) → AddsImport ps own text more → IsJudgedAt ps own text (Package to)
    → (at : ImportAt) (o : ImportOutcome) → IsBelow ps to at.«package» → IsOutcome ps at o ↔ IsOutcome more at o

-- so these have the parts that they had, whatever else the file declares, and whatever becomes of the package with the file and of those that import it
abbrev pub PartsBelowStay : Type 0
PartsBelowStay =
    (ps more : List PackageModel) (parts others : List (Option PartModel)) (own to : ℕ) (text : List ℕ) → IsWorkspace ps → IsWorkspace more → AddsImport ps own text more → IsJudgedAt ps own text (Package to)
    → AreParts ps parts → AreParts more others → (m : ℕ) → IsBelow ps to m → slice_get parts m ≡ slice_get others m

-- and of all that a type reaches which the imported package declares, the package with the file sees what the imported one sees
abbrev pub TypesBelowAgree : Type 0
TypesBelowAgree =
    (ps more : List PackageModel) (parts others : List (Option PartModel)) (own to : ℕ) (text : List ℕ) → IsWorkspace ps → IsWorkspace more → AddsImport ps own text more → IsJudgedAt ps own text (Package to)
    → AreParts ps parts → AreParts more others → (p q : PartModel) → slice_get parts to ≡ Some (Some p) → slice_get others own ≡ Some (Some q)
    → (d : DeclRef) (t : Term) → face_by p.content.summary.faces d ≡ Some (faces.«Type» (Some t)) → AgreeFrom (find_entry (types_seen p)) (find_entry (types_seen q)) t
