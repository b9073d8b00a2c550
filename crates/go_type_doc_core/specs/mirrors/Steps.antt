-- What parts of the answer are.
use Rattle.std.specs.Prelude.{◌⊎◌, ℕ, List, Option, option_map}
use Rattle.go_path_core.specs.text_core.declared.rule.Rule.{Rule}
use Rattle.go_term_core.specs.decl_core.declared.keys.DeclRef.{DeclRef}
use Rattle.go_graph_core.specs.declared.imports.ImportOutcome.TheVariants.{Refused}
use Rattle.go_import_core.specs.list.Importing.{IsJudgedAt}
use Rattle.go_term_core.specs.Terms.{Term}
use Rattle.go_package_core.specs.package_part.Inputs.{path_in}
use Rattle.go_package_core.specs.package_part.Parts.{PartModel}
use Rattle.go_snap_core.specs.Snapshots.{SnapshotModel}
use Rattle.go_type_doc_core.specs.declared.members.listing.MethodPlace.{MethodPlace}
use Rattle.go_type_doc_core.specs.members.Members.{place_shown}
use Rattle.go_query_core.specs.Documenting.{IsImportedPart}
use Rattle.go_type_doc_core.specs.Naming.{IsOtherRefusal, IsOtherType, IsOwnType}
use Rattle.go_type_doc_core.specs.TypeDocs.{IsDocOfType, TypeDocOf}
use Rattle.go_type_doc_core.specs.mirrors.Shown.{IsShownType}

abbrev pub method_shown : Option MethodPlace → Option (List ℕ × DeclRef)
method_shown m = option_map place_shown m

-- of a type that the package of a part names itself
pub record IsOwnDocOf (s : SnapshotModel) (p : PartModel) (name : List ℕ) (d : TypeDocOf) : Type 0 where
  pub term : Option Term
  pub named : IsOwnType p name term
  pub doc : IsDocOfType s (path_in p.input) p term d

-- that another names behind its name
pub record IsShownDocOf (s : SnapshotModel) (from : List ℕ) (p : PartModel) (name : List ℕ) (d : TypeDocOf) : Type 0 where
  pub term : Option Term
  pub named : IsShownType p name term
  pub doc : IsDocOfType s from p term d

-- that the package of a number and a part names behind the name of one to which an import of the path comes in it
pub record IsOtherDocOf (s : SnapshotModel) (number : ℕ) (q : PartModel) (path name : List ℕ) (d : TypeDocOf) : Type 0 where
  pub of_part : PartModel
  pub imported : IsImportedPart s number path of_part
  pub term : Option Term
  pub named : IsOtherType q of_part name term
  pub doc : IsDocOfType s (path_in q.input) of_part term d

-- the rule of the import, or that of the name
abbrev pub IsOtherStop : SnapshotModel → ℕ → PartModel → List ℕ → List ℕ → Rule → Type 0
IsOtherStop s number q path name rule =
    IsJudgedAt s.sources number path (Refused rule) ⊎ ((p : PartModel) × IsImportedPart s number path p × IsOtherRefusal q p name rule)
