-- What other packages show counts of those alone that imports come to, and of all that are reached their types count.
--
-- docs/RULES.md, "Files and packages", "Summaries". The Go specification, "Packages", "Import declarations", "Exported identifiers".
use Rattle.std.specs.Prelude.{◌≡◌, ℕ, List, Option, Some, Contains, slice_get}
use Rattle.go_graph_core.specs.Plans.{IsPlan, PlanModel}
use Rattle.go_graph_core.specs.Workspaces.{PackageModel, IsWorkspace}
use Rattle.go_emit_core.specs.package_core.PreparePackages.{PackageIn}
use Rattle.go_emit_core.specs.package_core.Checked.{CheckedOf}
use Rattle.go_emit_core.specs.package_core.PackagePartInputs.{InputModel, IsInput}
use Rattle.go_emit_core.specs.package_core.PackagePartParts.{ContentOf, IsPart, PartModel, SeenOf}
use Rattle.go_snap_core.specs.whole_workspace.Inputs.{AreParts, IsInputAt}
use Rattle.go_snap_core.specs.whole_workspace.Known.{BindsInside, CheckGives, IsImportedPath}
use Rattle.go_snap_core.specs.whole_workspace.LocalLaws.{StandsAmong}
use Rattle.go_snap_core.specs.whole_workspace.mirrors.Steps.{AreRight}
use Rattle.go_locality_laws.specs.Alike.{LeadsInside, ShownAlike, StandsOver}
use Rattle.go_locality_laws.specs.Beside.{StaysBeside}

-- a package stands among some packages that lead to none beside themselves, and its blocks bind in its files what is of packages that its imports come to
pub record StandsOnImports (paths : List (List ℕ)) (p : PackageIn) (k : SeenOf) : Type 0 where
  pub among : StandsAmong paths p k
  pub binds : BindsInside (IsImportedPath p.imports) p.blocks

-- where the same is known of the types of these packages, and of what those show that the imports of the package come to, whatever is known of all else,
-- its check gives the same, and there is one answer
pub record ImportsDecideChecks : Type 0 where
  pub same : (paths : List (List ℕ)) (p : PackageIn) (one other : SeenOf) (c : CheckedOf) → StandsOnImports paths p one → ShownAlike (Contains paths) (IsImportedPath p.imports) one other
      → CheckGives p one c → CheckGives p other c
  pub answer : (paths : List (List ℕ)) (p : PackageIn) (one other : SeenOf) (c d : CheckedOf) → StandsOnImports paths p one → ShownAlike (Contains paths) (IsImportedPath p.imports) one other
      → CheckGives p one c → CheckGives p other d → c ≡ d

-- a package stays as it is over another input with the same files, whose imports come to the same, where each package that it reached tells the types that
-- it told, and those that its imports come to all that they told: what is its part by the one input is its part by the other
abbrev pub ImportsDecideParts : Type 0
ImportsDecideParts = (one other : InputModel) (c : ContentOf) → IsInput one → IsInput other → LeadsInside one → StandsOver one other → IsPart one c → IsPart other c

-- the input of a package of a workspace leads to no package beside its own and those that it reaches, where each part that is there is made of its input
abbrev pub InputsLeadInside : Type 0
InputsLeadInside = (ps : List PackageModel) (parts : List (Option PartModel)) (plan : PlanModel) → IsWorkspace ps → IsPlan ps plan → AreRight ps parts → (n : ℕ) (i : InputModel) → IsInputAt ps parts n i → LeadsInside i

-- so what a package has in a workspace whose packages all have their parts it has by any input that stands over its own
abbrev pub PartsStay : Type 0
PartsStay =
    (ps : List PackageModel) (parts : List (Option PartModel)) → IsWorkspace ps → AreParts ps parts → (n : ℕ) (part : PartModel) (other : InputModel) → slice_get parts n ≡ Some (Some part)
    → IsInput part.input → IsInput other → StandsOver part.input other → IsPart other part.content

-- the input of a package of the same files stands over the one that it had in another workspace, where the package of its number there stays beside it
abbrev pub InputsStandOver : Type 0
InputsStandOver =
    (qs ps : List PackageModel) (was now : List (Option PartModel)) (n : ℕ) (i j : InputModel) → IsWorkspace qs → IsWorkspace ps → AreRight qs was → AreRight ps now → StaysBeside qs ps was now n
    → IsInputAt qs was n i → IsInputAt ps now n j → i.source ≡ j.source → StandsOver i j
