-- The faults of a workspace as lists, package by package and file by file.
use Rattle.std.specs.Prelude.{◌≡◌, ◌↔◌, ◌<◌, ℕ, suc, List, [], ◌∷◌, ◌++◌, map, Option, Some, None, Result, Ok, Err, AllPairs, Contains}
use Rattle.go_path_core.specs.text_core.declared.rule.Rule.{Rule}
use Rattle.go_tree_nodes.specs.Trees.{FileTree}
use Rattle.go_graph_core.specs.parse_core.declared.error.SynFault.{SynFault}
use Rattle.go_graph_core.specs.declared.assembly.KFault.{KFault}
use Rattle.go_graph_core.specs.Packages.{IsAssembly}
use Rattle.go_graph_core.specs.Sources.{SourceModel}
use Rattle.go_graph_core.specs.Workspaces.{PackageModel}
use Rattle.go_names_core.specs.local_core.declared.Fault.{Fault}
use Rattle.go_emit_core.specs.package_core.PackagePartParts.{ContentOf, FileOf}
use Rattle.go_snap_core.specs.declared.fault.PlacedFault.{PlacedFault}
use Rattle.go_snap_core.specs.Faults.{IsPlacedBefore, IsWorkspaceFault}

abbrev pub fault_with : ℕ → ℕ → ℕ → Rule → PlacedFault
fault_with number file offset rule = record { «package» = number; file = file; offset = offset; rule = rule }

-- a fault of the file of two numbers
abbrev pub placed : ℕ → ℕ → Fault → PlacedFault
placed number file f = record { «package» = number; file = file; offset = f.offset; rule = f.rule }

-- what is reported of the files of a package, numbered from a place on
abbrev pub part_faults : ℕ → ℕ → List FileOf → List PlacedFault
part_faults number k [] = []
part_faults number k (f ∷ fs) = map (placed number k) f.report ++ part_faults number (suc k) fs

-- why a file has no tree
abbrev pub text_fault : ℕ → ℕ → Result FileTree SynFault → List PlacedFault
text_fault number file (Ok f) = []
text_fault number file (Err fault) = record { «package» = number; file = file; offset = fault.offset; rule = fault.rule } ∷ []

abbrev pub text_faults : ℕ → ℕ → List SourceModel → List PlacedFault
text_faults number k [] = []
text_faults number k (s ∷ ss) = text_fault number k s.content ++ text_faults number (suc k) ss

-- why files are not assembled
abbrev pub assembly_fault : ℕ → KFault → PlacedFault
assembly_fault number fault = record { «package» = number; file = fault.file; offset = fault.offset; rule = fault.rule }

-- the faults of a package of which the files are not assembled
pub record AreUnassembled (number : ℕ) (files : List SourceModel) (faults : List PlacedFault) : Type 0 where
  pub fault : KFault
  pub assembly : IsAssembly files (Err fault)
  pub is : faults ≡ assembly_fault number fault ∷ text_faults number 0 files

-- these are added behind others
pub record AddsUnassembled (number : ℕ) (files : List SourceModel) (old new : List PlacedFault) : Type 0 where
  pub more : List PlacedFault
  pub are : AreUnassembled number files more
  pub is : new ≡ old ++ more

-- the faults of a package that has this, or none
abbrev pub AreOfPackage : ℕ → PackageModel → Option ContentOf → List PlacedFault → Type 0
AreOfPackage number p None faults = AreUnassembled number p.1 faults
AreOfPackage number p (Some c) faults = faults ≡ part_faults number 0 c.files

-- exactly the faults of the packages in front of a number, in order
pub record AreFaultsTo (ps : List PackageModel) (cs : List (Option ContentOf)) (number : ℕ) (faults : List PlacedFault) : Type 0 where
  pub ordered : AllPairs IsPlacedBefore faults
  pub same : (f : PlacedFault) → Contains faults f ↔ ((f.«package» < number) × IsWorkspaceFault ps cs f)
