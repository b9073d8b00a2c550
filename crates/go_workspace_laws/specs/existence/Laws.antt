-- Existence of what is at most one: of a package its types, the values of its declarations and its check, of an input its part, and of a workspace its
-- parts and its snapshot.
--
-- docs/RULES.md, "Types", "Constants and variables of a package", "Files and packages", "Whole workspaces".
use Rattle.std.specs.Prelude.{ℕ, ◌⊎◌, List, Option, All}
use Rattle.go_tree_nodes.specs.Spelling.{IsPlaced}
use Rattle.go_names_core.specs.local_core.declared.Fault.{Fault}
use Rattle.go_graph_core.specs.Workspaces.{IsWorkspace, PackageModel}
use Rattle.go_digraph_core.specs.chain.Chains.{AreEnds}
use Rattle.go_digraph_core.specs.needs.Needs.{AreValues, LooksAtNeeds, NeedsAreInside}
use Rattle.go_body_core.specs.table_core.Entries.{Entry, EntryLook}
use Rattle.go_body_core.specs.table_core.Tables.{KeysRise}
use Rattle.go_select_core.specs.type_core.declared.build.TypeFault.{TypeFault}
use Rattle.go_select_core.specs.type_core.Built.{IsBuilt}
use Rattle.govisd_resolve.specs.handle_core.Declarations.{Declaration}
use Rattle.go_report_core.specs.Faults.{IsSettled}
use Rattle.go_snap_core.specs.value_core.Around.{LeadsBack}
use Rattle.go_report_core.specs.declared.type_faults.places.PackageFault.{PackageFault}
use Rattle.go_report_core.specs.usage.Reported.{IsReported}
use Rattle.go_report_core.specs.usage.Used.{FileUse}
use Rattle.go_emit_core.specs.package_core.PreparePackages.{PackageIn, trees_in}
use Rattle.go_emit_core.specs.package_core.PrepareTypes.{AreTypes}
use Rattle.go_emit_core.specs.package_core.Checked.{CheckedOf, IsChecked}
use Rattle.go_emit_core.specs.package_core.PackagePartInputs.{InputModel}
use Rattle.go_emit_core.specs.package_core.PackagePartParts.{ContentOf, IsPart, PartModel}
use Rattle.go_snap_core.specs.whole_workspace.Inputs.{AreParts}
use Rattle.go_snap_core.specs.declared.fault.PlacedFault.{PlacedFault}
use Rattle.go_snap_core.specs.Snapshots.{IsSnapshot}

-- 1. What packages are made of.

-- the numbers of a list have ends of their chains, or none
abbrev pub ChainsHaveEnds : Type 0
ChainsHaveEnds = (next : List (Option ℕ)) → (ends : List (Option ℕ)) × AreEnds next ends

-- where what a node needs lies among the nodes, and values look at what is needed alone, there is a table of values
abbrev pub RowsHaveValues : Type 0 → Type 0
RowsHaveValues V = (rows : List (List ℕ)) (value : (ℕ → Option V) → ℕ → V) → LooksAtNeeds rows value → NeedsAreInside rows → (table : List (Option V)) × AreValues V rows value table

-- whether what a node needs leads back to it is decided
abbrev pub LoopsAreDecided : Type 0
LoopsAreDecided = (rows : List (List ℕ)) (a : ℕ) → LeadsBack rows a ⊎ (LeadsBack rows a → ⊥)

-- faults settle beside what occurrences have
abbrev pub FaultsSettle : Type 0
FaultsSettle = (uses : List FileUse) (faults : List Fault) → (settled : List Fault) × IsSettled Declaration (List ℕ) uses faults settled

-- and something is reported of a file
abbrev pub FilesAreReported : Type 0
FilesAreReported = (uses : List FileUse) (faults : List Fault) → (report : List Fault) × IsReported uses faults report

-- 2. Types.

-- whatever is written of types, in order of their keys, and whatever is known of others, there are types of it, with their faults
abbrev pub TypesExist : Type 0
TypesExist = (far : EntryLook) (written : List Entry) → KeysRise written → (types : List Entry) × (faults : List TypeFault) × IsBuilt far written types faults

-- so each package has types and their faults, whatever other packages have
abbrev pub PackagesHaveTypes : Type 0
PackagesHaveTypes = (p : PackageIn) (far : List Entry) → (own : List Entry) × (faults : List PackageFault) × AreTypes p far own faults

-- 3. Checks and parts.

-- each package has a check
abbrev pub PackagesHaveChecks : Type 0
PackagesHaveChecks = (p : PackageIn) (far : List Entry) → All IsPlaced p.trees → (c : CheckedOf) × IsChecked p far c

-- each input has a part
abbrev pub InputsHaveParts : Type 0
InputsHaveParts = (i : InputModel) → All IsPlaced (trees_in i.source) → (c : ContentOf) × IsPart i c

-- 4. Workspaces.

-- each workspace has parts of its packages
abbrev pub WorkspacesHaveParts : Type 0
WorkspacesHaveParts = (ps : List PackageModel) → IsWorkspace ps → (parts : List (Option PartModel)) × AreParts ps parts

-- each workspace has a snapshot: parts, what all trees give, and faults
abbrev pub WorkspacesHaveSnapshots : Type 0
WorkspacesHaveSnapshots = (ps : List PackageModel) → IsWorkspace ps → (parts : List (Option PartModel)) × (faults : List PlacedFault) × IsSnapshot ps parts faults
