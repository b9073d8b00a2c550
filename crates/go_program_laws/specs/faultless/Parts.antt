-- The parts of a workspace are such as the laws on their functions ask.
--
-- docs/RULES.md, "Whole workspaces", "Stack code". The Go specification, "Packages", "Import declarations".
use Rattle.std.specs.Prelude.{List, Option, Contains}
use Rattle.go_graph_core.specs.Workspaces.{IsReadWorkspace, IsWorkspace, PackageModel}
use Rattle.go_emit_core.specs.package_core.PackagePartParts.{PartModel}
use Rattle.go_emit_core.specs.package_core.PackagePartSlots.{somes}
use Rattle.go_snap_core.specs.whole_workspace.Inputs.{AreParts}
use Rattle.go_program_laws.specs.types.Sources.{AreSeenAlike, IsAmongParts}
use Rattle.go_program_laws.specs.types.Written.{ShowTheirTypes}

-- the names of a part's files come in code to the same over what all parts of the workspace tell and over what those tell that the part reaches
abbrev pub PartsAreSeenAlike : Type 0
PartsAreSeenAlike = (ws : List PackageModel) (parts : List (Option PartModel)) → IsWorkspace ws → AreParts ws parts → (p : PartModel) → Contains (somes parts) p → AreSeenAlike (somes parts) p

-- the packages that a part reaches show as types what their names mean, and it knows its own types so
abbrev pub PartsShowTheirTypes : Type 0
PartsShowTheirTypes = (ws : List PackageModel) (parts : List (Option PartModel)) → IsReadWorkspace ws → AreParts ws parts → (p : PartModel) → Contains (somes parts) p → ShowTheirTypes p.input p.content

-- so each part stands among the parts as the laws ask
abbrev pub PartsAreAmong : Type 0
PartsAreAmong = (ws : List PackageModel) (parts : List (Option PartModel)) → IsReadWorkspace ws → AreParts ws parts → (p : PartModel) → Contains (somes parts) p → IsAmongParts (somes parts) p
