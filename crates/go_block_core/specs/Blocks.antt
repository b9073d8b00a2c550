-- What the blocks of a package are.
use Rattle.std.specs.Prelude.{◌≡◌, refl, ℕ, ◌↔◌, List, map, [], Option, Some, None, slice_get, Contains, if◌then◌else◌}
use Rattle.std.specs.Coded.{Coded, code_by, coded×, coded_list, coded_ℕ}
use Rattle.std.specs.List.Sorted.{IsStrictlySortedBy}
use Rattle.go_graph_core.specs.Packages.{Trees, trees_of}
use Rattle.go_graph_core.specs.Workspaces.{PackageModel}
use Rattle.go_decl_core.specs.declared.keys.DeclRef.{DeclRef}
use Rattle.go_decl_core.specs.contracts.keys.DeclRef as decl_ref
use Rattle.go_block_core.specs.declared.binding.Binding.{Binding}
use Rattle.go_block_core.specs.contracts.binding.Binding as binding
use Rattle.go_block_core.specs.declared.fault.BlockFault.{BlockFault}
use Rattle.go_block_core.specs.contracts.fault.BlockFault as block_fault
use Rattle.go_block_core.specs.declared.imports.ImportNames.{ImportNames}
use Rattle.go_block_core.specs.declared.imports.NamedImport.{NamedImport}
use Rattle.go_block_core.specs.Exports.{ExportsModel, exports_model, exported_names, clause_name}
use Rattle.go_block_core.specs.Faults.{fault_cmp, all_block_faults}
use Rattle.go_block_core.specs.Holding.{package_block, file_blocks, imports_in}
use Rattle.go_block_core.specs.Tables.{in_block, has, without}

-- the package block, the block of each file, and the faults
pub record BlocksModel : Type 0 where
  pub names : List (List ℕ × DeclRef)
  pub files : List (List (List ℕ × Binding))
  pub faults : List BlockFault

abbrev pub blocks_model : List (List ℕ × DeclRef) → List (List (List ℕ × Binding)) → List BlockFault → BlocksModel
blocks_model names files faults = record { names = names; files = files; faults = faults }

abbrev pub coded_blocks : Coded BlocksModel
coded_blocks = code_by (List (List ℕ × DeclRef) × (List (List (List ℕ × Binding)) × List BlockFault)) (coded× (coded_list (coded× (coded_list coded_ℕ) decl_ref.the_row.coded)) (coded× (coded_list (coded_list (coded× (coded_list coded_ℕ) binding.the_row.coded))) (coded_list block_fault.the_row.coded))) (λ b. (b.names, (b.files, b.faults))) (λ p. blocks_model p.0 p.1.0 p.1.1) (λ _. refl)

-- what a block has at a name, if there is a block
abbrev pub in_some : Option (List (List ℕ × Binding)) → List ℕ → Option Binding
in_some None name = None
in_some (Some block) name = in_block block name

-- what the block of a file has at a name
abbrev pub file_has : BlocksModel → ℕ → List ℕ → Option Binding
file_has b file name = in_some (slice_get b.files file) name

-- the binding of a name that holds in a file: that of the file's block, unless the package block has the name
abbrev pub file_binding : BlocksModel → ℕ → List ℕ → Option Binding
file_binding b file name = if has b.names name then None else file_has b file name

-- the block of a file, and none where there is no such file
abbrev pub if_block : Option (List (List ℕ × Binding)) → List (List ℕ × Binding)
if_block None = []
if_block (Some block) = block

-- what holds in the block of a file: its names that the package block has not, with their bindings
abbrev pub held_in : BlocksModel → ℕ → List (List ℕ × Binding)
held_in b file = without b.names (if_block (slice_get b.files file))

-- the same faults, in order, and each once
pub record HoldsEachOnce (given faults : List BlockFault) : Type 0 where
  pub order : IsStrictlySortedBy fault_cmp faults
  pub same : (f : BlockFault) → Contains faults f ↔ Contains given f

-- the imports of each file
abbrev pub imports_of : ImportNames → List (List NamedImport)
imports_of names = map imports_in names.files.items

-- the blocks of a package with these imports, of each file
pub record AreBlocks (trees : Trees) (imports : List (List NamedImport)) (b : BlocksModel) : Type 0 where
  pub package_names : b.names ≡ package_block trees
  pub file_names : b.files ≡ file_blocks imports
  pub faults : HoldsEachOnce (all_block_faults trees imports) b.faults

-- what a package with these blocks shows: its path, the name in its clauses, and the exported names of its package block
abbrev pub exports_of : PackageModel → BlocksModel → ExportsModel
exports_of p b = exports_model p.0 (clause_name (trees_of p.1)) (exported_names b.names)
