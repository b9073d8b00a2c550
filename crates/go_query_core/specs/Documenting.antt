-- What a package declares, as another sees it.
--
-- The Go specification, "Exported identifiers", "Import declarations".
use Rattle.std.specs.Prelude.{◌≡◌, ◌≢◌, ◌⊎◌, ℕ, List, Some, slice_get, map}
use Rattle.go_tree_nodes.specs.text_core.declared.rule.Rule.{Rule}
use Rattle.go_tree_nodes.specs.text_core.declared.rule.Rule.TheVariants.{Q1}
use Rattle.go_import_core.specs.graph_core.declared.imports.ImportOutcome.TheVariants.{Package, Refused}
use Rattle.go_import_core.specs.graph_core.Packages.{IsPackageName, trees_of}
use Rattle.go_declared_core.specs.block_core.Exports.{exported_names}
use Rattle.go_import_core.specs.list.Importing.{IsJudgedAt}
use Rattle.go_doc_core.specs.symbol.Symbols.{AreSymbols, SymbolOf, symbol_shown}
use Rattle.go_complete_core.specs.package_core.PackagePartInputs.{path_in}
use Rattle.go_complete_core.specs.package_core.PackagePartParts.{PartModel}
use Rattle.go_complete_core.specs.snap_core.Snapshots.{SnapshotModel}
use Rattle.go_query_core.specs.declared.documenting.PackageDoc.{PackageDoc}
use Rattle.go_query_core.specs.Defining.{HasNoPart}
use Rattle.go_query_core.specs.Parts.{IsPartOf}

-- a path, the name in the clauses of its package, and names that it declares
pub record DocOf : Type 0 where
  pub path : List ℕ
  pub name : List ℕ
  pub symbols : List SymbolOf

abbrev pub doc_shown : PackageDoc → DocOf
doc_shown d = record { path = d.path.now; name = d.name.now; symbols = map symbol_shown d.symbols.items }

-- all names of the block of the package of a part
pub record IsOwnDoc (p : PartModel) (d : DocOf) : Type 0 where
  pub path : d.path ≡ path_in p.input
  pub name : IsPackageName (trees_of p.input.source.1) d.name
  pub symbols : AreSymbols p.input.source.1 p.content.blocks.names d.symbols

-- the exported ones
pub record IsExportedDoc (p : PartModel) (d : DocOf) : Type 0 where
  pub path : d.path ≡ path_in p.input
  pub name : IsPackageName (trees_of p.input.source.1) d.name
  pub symbols : AreSymbols p.input.source.1 (exported_names p.content.blocks.names) d.symbols

-- the part of the package that an import of a path comes to in that of a number
pub record IsImportedPart (s : SnapshotModel) (own : ℕ) (path : List ℕ) (p : PartModel) : Type 0 where
  pub to : ℕ
  pub judged : IsJudgedAt s.sources own path (Package to)
  pub there : slice_get s.parts to ≡ Some (Some p)

-- what the package exports that an import of a path comes to in that of a number
pub record IsImportedDoc (s : SnapshotModel) (own : ℕ) (path : List ℕ) (d : DocOf) : Type 0 where
  pub of_part : PartModel
  pub imported : IsImportedPart s own path of_part
  pub doc : IsExportedDoc of_part d

-- the package of `from` itself
pub record IsDocOfOwn (s : SnapshotModel) (from path : List ℕ) (d : DocOf) : Type 0 where
  pub same : path ≡ from
  pub number : ℕ
  pub of_part : PartModel
  pub own : IsPartOf s from number of_part
  pub doc : IsOwnDoc of_part d

-- a package that an import of the path, in the package of `from`, comes to
pub record IsDocOfOther (s : SnapshotModel) (from path : List ℕ) (d : DocOf) : Type 0 where
  pub other : path ≢ from
  pub number : ℕ
  pub importer : PartModel
  pub own : IsPartOf s from number importer
  pub imported : IsImportedDoc s number path d

abbrev pub IsDoc : SnapshotModel → List ℕ → List ℕ → DocOf → Type 0
IsDoc s from path d = IsDocOfOwn s from path d ⊎ IsDocOfOther s from path d

-- an import of the path, in the package of `from`, breaks this rule first
pub record IsImportRefused (s : SnapshotModel) (from path : List ℕ) (rule : Rule) : Type 0 where
  pub other : path ≢ from
  pub number : ℕ
  pub importer : PartModel
  pub own : IsPartOf s from number importer
  pub judged : IsJudgedAt s.sources number path (Refused rule)

-- why there is no doc: Q1 where there is no assembled package of `from`, or the rule of the import
abbrev pub IsDocRefusal : SnapshotModel → List ℕ → List ℕ → Rule → Type 0
IsDocRefusal s from path rule = ((rule ≡ Q1) × HasNoPart s from) ⊎ IsImportRefused s from path rule
