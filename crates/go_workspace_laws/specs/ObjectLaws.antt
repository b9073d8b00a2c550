-- Laws of the objects of a workspace.
--
-- docs/RULES.md, "Stack code", "Whole workspaces". The Go specification, "Packages", "Import declarations".
use Rattle.std.specs.Prelude.{◌≡◌, List, Option, Contains}
use Rattle.std.specs.List.{flat_map}
use Rattle.go_graph_core.specs.Workspaces.{PackageModel, IsWorkspace}
use Rattle.go_emit_core.specs.package_core.PackagePartParts.{FileOf, PartModel}
use Rattle.go_body_core.specs.Notes.{TheUse}
use Rattle.go_snap_core.specs.declared.fault.PlacedFault.{PlacedFault}
use Rattle.go_snap_core.specs.Snapshots.{IsSnapshot}
use Rattle.go_emit_core.specs.Emitted.{object_of, object_over, objects_of, told_by}
use Rattle.go_workspace_laws.specs.Reached.{HasDeclaredIn, reached_paths}
use Rattle.go_emit_core.specs.package_core.PackagePartSlots.{if_there, somes}

-- what an occurrence of a package has in a file is declared in the package or in one that it reaches, or is such a package
abbrev pub DeclarationsAreReached : Type 0
DeclarationsAreReached =
    (ps : List PackageModel) (parts : List (Option PartModel)) (faults : List PlacedFault) → IsWorkspace ps → IsSnapshot ps parts faults → (p : PartModel) → Contains (somes parts) p → (f : FileOf) → Contains p.content.files f
    → (u : TheUse) → Contains f.answers.uses u → HasDeclaredIn (Contains (reached_paths p.input)) u.outcome

-- over what all of some parts tell each of them has the object that it has by itself: over what the packages tell that its package reaches, and what it
-- tells itself. So the objects of all are those that each part gives alone, in their order
pub record AreOfPartsAlone (parts : List (Option PartModel)) : Type 0 where
  pub each : (p : PartModel) → Contains (somes parts) p → object_over (told_by (somes parts)) p.input p.content ≡ object_of p.input p.content
  pub objects : objects_of (somes parts) ≡ flat_map (λ p. if_there (object_of p.input p.content)) (somes parts)

-- so it is of the parts of a snapshot: an object does not depend on what is known of packages that its package does not reach
abbrev pub ObjectsAreOfPartsAlone : Type 0
ObjectsAreOfPartsAlone = (ps : List PackageModel) (parts : List (Option PartModel)) (faults : List PlacedFault) → IsWorkspace ps → IsSnapshot ps parts faults → AreOfPartsAlone parts

-- and parts that are made from equal inputs have one object, each in its own snapshot: whatever else is edited, a package whose files, imports and what it
-- is told stay equal keeps its object
abbrev pub ObjectsFollowInputs : Type 0
ObjectsFollowInputs =
    (ps qs : List PackageModel) (parts others : List (Option PartModel)) (faults again : List PlacedFault) → IsWorkspace ps → IsWorkspace qs → IsSnapshot ps parts faults → IsSnapshot qs others again
    → (p q : PartModel) → Contains (somes parts) p → Contains (somes others) q → p.input ≡ q.input
    → object_over (told_by (somes parts)) p.input p.content ≡ object_over (told_by (somes others)) q.input q.content
