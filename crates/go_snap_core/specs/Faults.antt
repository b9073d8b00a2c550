-- The faults of a workspace.
--
-- docs/RULES.md, "Packages", "Reported faults", "Whole workspaces".
use Rattle.std.specs.Prelude.{◌≡◌, ◌↔◌, ◌⊎◌, ◌<◌, List, Option, Some, None, Err, AllPairs, Contains, slice_get}
use Rattle.std.specs.declared.cmp.Ordering.TheVariants.{Less}
use Rattle.go_graph_core.specs.declared.assembly.KFault.{KFault}
use Rattle.go_graph_core.specs.Packages.{IsAssembly}
use Rattle.go_graph_core.specs.Sources.{SourceModel}
use Rattle.go_graph_core.specs.Workspaces.{PackageModel}
use Rattle.go_graph_core.specs.parse_core.declared.error.SynFault.{SynFault}
use Rattle.go_names_core.specs.local_core.declared.Fault.{Fault}
use Rattle.go_report_core.specs.Faults.{number_order}
use Rattle.go_emit_core.specs.package_core.PackagePartParts.{ContentOf, FileOf}
use Rattle.go_snap_core.specs.declared.fault.PlacedFault.{PlacedFault}

-- the same place in a file
abbrev pub here : PlacedFault → Fault
here f = record { offset = f.offset; rule = f.rule }

-- it is reported of a file of an assembled package, by what the package has
pub record IsReportedOf (cs : List (Option ContentOf)) (f : PlacedFault) : Type 0 where
  pub content : ContentOf
  pub there : slice_get cs f.«package» ≡ Some (Some content)
  pub file : FileOf
  pub in_package : slice_get content.files f.file ≡ Some file
  pub reported : Contains file.report (here f)

-- the files of its package do not assemble, by this rule
pub record IsOfAssembly (p : PackageModel) (f : PlacedFault) : Type 0 where
  pub fault : KFault
  pub assembly : IsAssembly p.1 (Err fault)
  pub rule : f.rule ≡ fault.rule
  pub file : f.file ≡ fault.file
  pub offset : f.offset ≡ fault.offset

-- its file has no tree, by this rule
pub record IsOfText (p : PackageModel) (f : PlacedFault) : Type 0 where
  pub source : SourceModel
  pub in_package : slice_get p.1 f.file ≡ Some source
  pub fault : SynFault
  pub content : source.content ≡ Err fault
  pub rule : f.rule ≡ fault.rule
  pub offset : f.offset ≡ fault.offset

pub record IsUnassembled (ps : List PackageModel) (cs : List (Option ContentOf)) (f : PlacedFault) : Type 0 where
  pub source : PackageModel
  pub there : slice_get ps f.«package» ≡ Some source
  pub none : slice_get cs f.«package» ≡ Some None
  pub why : IsOfAssembly source f ⊎ IsOfText source f

abbrev pub IsWorkspaceFault : List PackageModel → List (Option ContentOf) → PlacedFault → Type 0
IsWorkspaceFault ps cs f = IsReportedOf cs f ⊎ IsUnassembled ps cs f

-- by package, file, offset, and the bytes of the rule's number
pub data IsPlacedBefore (f g : PlacedFault) : Type 0 where
  InPackage : f.«package» < g.«package» → IsPlacedBefore f g
  InFile : f.«package» ≡ g.«package» → f.file < g.file → IsPlacedBefore f g
  ByOffset : f.«package» ≡ g.«package» → f.file ≡ g.file → f.offset < g.offset → IsPlacedBefore f g
  ByRule : f.«package» ≡ g.«package» → f.file ≡ g.file → f.offset ≡ g.offset → number_order f.rule g.rule ≡ Less → IsPlacedBefore f g

-- the file of the workspace in which it lies
pub record LiesIn (ps : List PackageModel) (f : PlacedFault) : Type 0 where
  pub of_package : PackageModel
  pub there : slice_get ps f.«package» ≡ Some of_package
  pub source : SourceModel
  pub in_package : slice_get of_package.1 f.file ≡ Some source

-- exactly the faults, in order, each once
pub record AreFaults (ps : List PackageModel) (cs : List (Option ContentOf)) (faults : List PlacedFault) : Type 0 where
  pub ordered : AllPairs IsPlacedBefore faults
  pub same : (f : PlacedFault) → Contains faults f ↔ IsWorkspaceFault ps cs f
