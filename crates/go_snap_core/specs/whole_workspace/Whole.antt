-- The check of all packages of a workspace, by their trees.
--
-- docs/RULES.md, "Whole workspaces". The Go specification, "Packages", "Import declarations".
use Rattle.std.specs.Prelude.{◌≡◌, ℕ, zero, suc, List, [], ◌∷◌, Option, Some, None, map}
use Rattle.std.specs.List.{flat_map}
use Rattle.std.specs.Option.{option_map}
use Rattle.go_graph_core.specs.Lists.{AllNumbered}
use Rattle.go_graph_core.specs.Packages.{IsAssembled, trees_of}
use Rattle.go_graph_core.specs.Workspaces.{PackageModel}
use Rattle.go_names_core.specs.block_core.declared.imports.Imported.{Imported}
use Rattle.go_names_core.specs.block_core.AllPackages.{AreImported}
use Rattle.go_names_core.specs.block_core.Blocks.{BlocksModel, AreBlocks, exports_of}
use Rattle.go_names_core.specs.block_core.Exports.{ExportsModel}
use Rattle.go_names_core.specs.block_core.Naming.{package_named}
use Rattle.go_body_core.specs.table_core.Entries.{Entry}
use Rattle.go_body_core.specs.typexpr_core.EntryShowing.{shown_in}
use Rattle.go_emit_core.specs.declared_core.Packages.{PackageFacesModel}
use Rattle.go_emit_core.specs.package_core.PreparePackages.{PackageIn, trees_in}
use Rattle.go_emit_core.specs.package_core.Checked.{CheckedOf, IsChecked}

-- of an assembled package its path and files, its blocks, and what its check gives
pub record WholeOf : Type 0 where
  pub source : PackageModel
  pub blocks : BlocksModel
  pub checked : CheckedOf

abbrev pub whole_with : PackageModel → BlocksModel → CheckedOf → WholeOf
whole_with source blocks checked = record { source = source; blocks = blocks; checked = checked }

-- all but the one of a number
abbrev pub beside : {A : Type 0} → ℕ → List (Option A) → List (Option A)
beside n [] = []
beside zero (x ∷ xs) = None ∷ xs
beside (suc n) (x ∷ xs) = x ∷ beside n xs

abbrev pub if_some : {A B : Type 0} → (A → List B) → Option A → List B
if_some f None = []
if_some f (Some x) = f x

-- what other packages than the one of a number have: the types that they declare, the names that they show, and what these are

abbrev pub types_beside : ℕ → List (Option WholeOf) → List Entry
types_beside n ws = flat_map (if_some (λ (w : WholeOf). w.checked.types)) (beside n ws)

abbrev pub exports_beside : ℕ → List (Option WholeOf) → List ExportsModel
exports_beside n ws = flat_map (if_some (λ (w : WholeOf). exports_of w.source w.blocks ∷ [])) (beside n ws)

abbrev pub faces_beside : ℕ → List (Option WholeOf) → List PackageFacesModel
faces_beside n ws = flat_map (if_some (λ (w : WholeOf). w.checked.faces ∷ [])) (beside n ws)

-- the blocks of all packages
abbrev pub blocks_in : List (Option WholeOf) → List (Option BlocksModel)
blocks_in ws = map (option_map (λ (w : WholeOf). w.blocks)) ws

-- a package, as its check sees it among all others: its trees, its blocks, what its imports come to, and what all other packages show
abbrev pub package_among : List (Option WholeOf) → ℕ → PackageModel → List (List Imported) → BlocksModel → PackageIn
package_among ws n p imported b = record { path = p.0; trees = trees_in p; blocks = b; imports = imported; shows = shown_in (exports_beside n ws); others = faces_beside n ws }

-- what a list has for the package of a number is what this package has, where all other packages have what the list says
pub record IsWhole (ps : List PackageModel) (ws : List (Option WholeOf)) (n : ℕ) (p : PackageModel) (w : WholeOf) : Type 0 where
  pub source : w.source ≡ p
  -- what its imports come to, each with what the package shows that it names
  pub imported : List (List Imported)
  pub given : AreImported ps (blocks_in ws) n (trees_of p.1) imported
  pub blocks : AreBlocks (trees_of p.1) (package_named (trees_of p.1) imported) w.blocks
  -- its check, over the types of all other packages
  pub checked : IsChecked (package_among ws n p imported w.blocks) (types_beside n ws) w.checked

-- nothing where the files of a package are not assembled
abbrev pub IsWholeEntry : List PackageModel → List (Option WholeOf) → ℕ → PackageModel → Option WholeOf → Type 0
IsWholeEntry ps ws n p None = IsAssembled p.1 → ⊥
IsWholeEntry ps ws n p (Some w) = IsAssembled p.1 × IsWhole ps ws n p w

-- an entry for each package, in order. The whole list is looked at from each: nothing is said of an order in which packages are checked
abbrev pub AreWhole : List PackageModel → List (Option WholeOf) → Type 0
AreWhole ps ws = AllNumbered (λ n p w. IsWholeEntry ps ws n p w) 0 ps ws
