-- What is seen of packages.
use Rattle.std.specs.Prelude.{◌≡◌, ◌⊎◌, ℕ, List, Contains}
use Rattle.go_block_core.specs.Exports.{ExportsModel}
use Rattle.go_table_core.specs.Entries.{Entry}
use Rattle.go_summary_core.specs.declared_core.Packages.{PackageFacesModel}
use Rattle.go_summary_core.specs.Summaries.{SummaryModel, path_of}
use Rattle.go_package_core.specs.package_part.Inputs.{InputModel}
use Rattle.go_package_core.specs.package_part.Parts.{ContentOf, IsPart}
use Rattle.go_snap_core.specs.whole_workspace.mirrors.Steps.{IsSeen}
use Rattle.go_snap_core.proofs.WholeWorkspaceTold.{AreWell}
use Rattle.go_batch_core.specs.seen.Local.{AreAmong}

-- the tables tell what these summaries tell, each path once
pub record AreSeen (ss : List SummaryModel) (types : List Entry) (shown : List ExportsModel) (faces : List PackageFacesModel) : Type 0 where
  pub well : AreWell ss
  pub seen : IsSeen ss types shown faces

-- one of these is of the package of a path
abbrev pub IsSeenOf : List SummaryModel → List ℕ → Type 0
IsSeenOf ss path = (s : SummaryModel) × Contains ss s × (path_of s ≡ path)

-- what two lists have of one package is one summary
abbrev pub Agrees : List SummaryModel → List SummaryModel → Type 0
Agrees ss rs = (s r : SummaryModel) → Contains ss s → Contains rs r → path_of s ≡ path_of r → s ≡ r

-- these with those, and no others
pub record AreWithReached (ss rs more : List SummaryModel) : Type 0 where
  pub old : AreAmong ss more
  pub reached : AreAmong rs more
  pub only : (s : SummaryModel) → Contains more s → Contains ss s ⊎ Contains rs s

-- the summary is one that an input reaches, or one that a part of it tells
abbrev pub IsOf : InputModel → SummaryModel → Type 0
IsOf i s = Contains i.reached s ⊎ ((c : ContentOf) × IsPart i c × (s ≡ c.summary))

-- each of these was there, or is of an input
abbrev pub AreSeenBy : List SummaryModel → InputModel → List SummaryModel → Type 0
AreSeenBy ss i more = (s : SummaryModel) → Contains more s → Contains ss s ⊎ IsOf i s
