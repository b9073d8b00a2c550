-- Parts beside what the trees of all packages give.
--
-- docs/RULES.md, "Whole workspaces".
use Rattle.std.specs.Prelude.{◌≡◌, Option, Some, None, ⊤}
use Rattle.go_emit_core.specs.package_core.PreparePackages.{trees_in}
use Rattle.go_body_core.specs.table_core.Tables.{package_types}
use Rattle.go_emit_core.specs.package_core.PackagePartParts.{AreFilesMade, PartModel}
use Rattle.go_report_core.specs.summary_core.Summaries.{SummaryModel, summary_of}
use Rattle.go_snap_core.specs.whole_workspace.Whole.{WholeOf}

-- what a package tells, by its trees: its blocks, and the types and the faces that its check among all others gives
abbrev pub summary_by : WholeOf → SummaryModel
summary_by w = summary_of w.source w.blocks (package_types w.source.0 w.checked.types) w.checked.faces

-- a part has what the check of its package gives among all others, but that an import which is not used is refused; and it tells what this check gives
pub record IsPartAmong (w : WholeOf) (p : PartModel) : Type 0 where
  pub source : p.input.source ≡ w.source
  pub blocks : p.content.blocks ≡ w.blocks
  pub declared : p.content.declared ≡ w.checked.declared
  pub files : AreFilesMade w.blocks (trees_in w.source) w.checked.files p.content.files
  pub summary : p.content.summary ≡ summary_by w

abbrev pub IsPartEntry : Option WholeOf → Option PartModel → Type 0
IsPartEntry None None = ⊤
IsPartEntry None (Some p) = ⊥
IsPartEntry (Some w) None = ⊥
IsPartEntry (Some w) (Some p) = IsPartAmong w p
