-- The types and aliases of the packages of a workspace that reach themselves are those that have a fault of it.
--
-- docs/RULES.md, "Types". The Go specification, "Type declarations", "Alias declarations", "Import declarations".
use Rattle.std.specs.Prelude.{◌≡◌, ◌↔◌, ℕ, List, Option, Some, Contains, slice_get}
use Rattle.go_path_core.specs.text_core.declared.rule.Rule.TheVariants.{Y1}
use Rattle.go_graph_core.specs.Workspaces.{PackageModel, IsReadWorkspace}
use Rattle.go_report_core.specs.declared.type_faults.places.PackageFault.{PackageFault}
use Rattle.go_emit_core.specs.package_core.PrepareLaws.{AliasesAreNames, IsOfLoop}
use Rattle.go_emit_core.specs.package_core.PreparePackages.{PackageIn, trees_in}
use Rattle.go_emit_core.specs.package_core.PackagePartParts.{IsPart, PartModel, package_seen, seen_by}
use Rattle.go_snap_core.specs.whole_workspace.Inputs.{AreParts}
use Rattle.go_snap_core.specs.whole_workspace.Whole.{AreWhole, IsWhole, WholeOf, package_among}

-- where each file of a workspace is read, a name stands behind `=` of each alias that a package declares, whatever its imports come to and whatever others show
abbrev pub AliasesStandForNames : Type 0
AliasesStandForNames = (ps : List PackageModel) → IsReadWorkspace ps → (n : ℕ) (source : PackageModel) → slice_get ps n ≡ Some source → (p : PackageIn) → p.trees ≡ trees_in source → AliasesAreNames p

-- the package of a part, as the check sees it by which the part is made: among those that it reaches
abbrev pub package_of : PartModel → PackageIn
package_of part = package_seen part.input part.content.blocks (seen_by part.input)

-- of each part of a workspace the faults of this rule that its check gives are those at the names of the types and aliases of its package that reach
-- themselves by what is written of them
abbrev pub CirclesAreFaults : Type 0
CirclesAreFaults =
    (ps : List PackageModel) (parts : List (Option PartModel)) → IsReadWorkspace ps → AreParts ps parts → (n : ℕ) (part : PartModel) → slice_get parts n ≡ Some (Some part) → (made : IsPart part.input part.content)
    → (f : PackageFault) → (Contains made.is_checked.type_faults f × (f.rule ≡ Y1)) ↔ IsOfLoop (package_of part) f

-- and so it is of each package that is checked among all others, by the trees of all files
abbrev pub CirclesAreFaultsInAll : Type 0
CirclesAreFaultsInAll =
    (ps : List PackageModel) (ws : List (Option WholeOf)) → IsReadWorkspace ps → AreWhole ps ws → (n : ℕ) (p : PackageModel) (w : WholeOf) → slice_get ps n ≡ Some p → slice_get ws n ≡ Some (Some w) → (h : IsWhole ps ws n p w)
    → (f : PackageFault) → (Contains h.checked.type_faults f × (f.rule ≡ Y1)) ↔ IsOfLoop (package_among ws n p h.imported w.blocks) f
