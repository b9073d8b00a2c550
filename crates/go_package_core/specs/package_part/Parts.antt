-- What a package's part holds.
--
-- docs/RULES.md, "Files and packages". The Go specification, "Packages", "Declarations and scope", "Import declarations".
use Rattle.std.specs.Prelude.{◌≡◌, ℕ, List, Option, Some, map, slice_get}
use Rattle.std.specs.Option.{option_map}
use Rattle.go_tree_nodes.specs.Trees.{FileTree}
use Rattle.go_block_core.specs.graph_core.Lists.{AllNumbered}
use Rattle.go_block_core.specs.graph_core.Packages.{trees_of}
use Rattle.go_block_core.specs.Blocks.{BlocksModel, AreBlocks}
use Rattle.go_block_core.specs.Naming.{package_named}
use Rattle.go_type_core.specs.table_core.Entries.{Entry}
use Rattle.go_type_core.specs.table_core.Tables.{package_types}
use Rattle.go_body_core.specs.typexpr_core.EntryMeanings.{Shown}
use Rattle.go_body_core.specs.typexpr_core.EntryShowing.{shown_in}
use Rattle.go_report_core.specs.handle_core.Declarations.{Declaration}
use Rattle.go_local_core.specs.declared.Fault.{Fault}
use Rattle.go_report_core.specs.Faults.{IsSettled}
use Rattle.go_report_core.specs.declared_core.Faces.{TheFace, face_shown}
use Rattle.go_report_core.specs.declared_core.Packages.{PackageFacesModel}
use Rattle.go_report_core.specs.usage.Used.{without_unused}
use Rattle.go_report_core.specs.usage.Reported.{IsReported}
use Rattle.go_package_core.specs.prepare.Packages.{PackageIn, trees_in}
use Rattle.go_package_core.specs.Checked.{AnswersOf, CheckedOf, IsChecked, answers_shown}
use Rattle.go_report_core.specs.summary_core.Summaries.{SummaryModel, summary_of}
use Rattle.go_report_core.specs.summary_core.Views.{exports_told, faces_told, types_told}
use Rattle.go_package_core.specs.declared.package_part.content.PackageContent.{PackageContent}
use Rattle.go_package_core.specs.declared.package_part.files.PartFile.{PartFile}
use Rattle.go_package_core.specs.package_part.Inputs.{InputModel, path_in}

-- of a file what its occurrences have, its faults and the locals that its functions declare, and what is reported of it
pub record FileOf : Type 0 where
  pub answers : AnswersOf
  pub report : List Fault

-- of a package its blocks, what its declarations outside functions are, what stands in its files, and what it tells those that reach it
pub record ContentOf : Type 0 where
  pub blocks : BlocksModel
  pub declared : List (Option TheFace)
  pub files : List FileOf
  pub summary : SummaryModel

abbrev pub file_shown : PartFile → FileOf
file_shown f = record { answers = answers_shown f.answers; report = f.report.items }

abbrev pub part_content_shown : PackageContent → ContentOf
part_content_shown c = record { blocks = c.blocks; declared = map (option_map face_shown) c.declared.items; files = map file_shown c.files.items; summary = c.summary }

-- what stands in the file of a number and a tree, where its package has these blocks, and its check gives this of it: its occurrences have what the
-- check gives them, but that an import which is not used is refused; its faults are those of the check, without those that an outcome says; and the
-- locals that its functions declare are those of the check
pub record IsFileMade (b : BlocksModel) (n : ℕ) (f : FileTree) (checked : AnswersOf) (made : FileOf) : Type 0 where
  pub uses : made.answers.uses ≡ without_unused b n f checked.uses
  pub settled : IsSettled Declaration (List ℕ) made.answers.uses checked.faults made.answers.faults
  pub locals : made.answers.locals ≡ checked.locals
  pub reported : IsReported made.answers.uses made.answers.faults made.report

-- the same by what the check gives of all files of the package
pub record IsFileMadeIn (b : BlocksModel) (all : List AnswersOf) (n : ℕ) (f : FileTree) (made : FileOf) : Type 0 where
  pub checked : AnswersOf
  pub there : slice_get all n ≡ Some checked
  pub made_of : IsFileMade b n f checked made

-- what stands in the files of trees, in order of name
abbrev pub AreFilesMade : BlocksModel → List FileTree → List AnswersOf → List FileOf → Type 0
AreFilesMade b trees all files = AllNumbered (IsFileMadeIn b all) 0 trees files

-- what is known of other packages: their types, the names that they show, and what these are
pub record SeenOf : Type 0 where
  pub types : List Entry
  pub shows : Shown
  pub faces : List PackageFacesModel

abbrev pub seen_with : List Entry → Shown → List PackageFacesModel → SeenOf
seen_with types shows faces = record { types = types; shows = shows; faces = faces }

-- a package, as its check sees it, with these blocks, where this is known of others
abbrev pub package_seen : InputModel → BlocksModel → SeenOf → PackageIn
package_seen i b seen = record { path = path_in i; trees = trees_in i.source; blocks = b; imports = i.imports; shows = seen.shows; others = seen.faces }

-- what a package tells that has these blocks, and whose check gives this
abbrev pub told : InputModel → BlocksModel → CheckedOf → SummaryModel
told i b c = summary_of i.source b (package_types (path_in i) c.types) c.faces

-- what a package has by its input, where this is known of others: the blocks of its trees and imports, and what its check gives
pub record IsMade (i : InputModel) (seen : SeenOf) (c : ContentOf) : Type 0 where
  pub blocks : AreBlocks (trees_of i.source.1) (package_named (trees_of i.source.1) i.imports) c.blocks
  pub checked : CheckedOf
  pub is_checked : IsChecked (package_seen i c.blocks seen) seen.types checked
  pub declared : c.declared ≡ checked.declared
  pub files : AreFilesMade c.blocks (trees_in i.source) checked.files c.files
  pub summary : c.summary ≡ told i c.blocks checked

-- what is known of other packages by an input alone: what the summaries tell
abbrev pub seen_by : InputModel → SeenOf
seen_by i = seen_with (types_told i.reached) (shown_in (exports_told i.reached)) (faces_told i.reached)

-- what a package has by its input alone
abbrev pub IsPart : InputModel → ContentOf → Type 0
IsPart i c = IsMade i (seen_by i) c

-- a part: what it was made from, and what it has
pub record PartModel : Type 0 where
  pub input : InputModel
  pub content : ContentOf

abbrev pub part_with : InputModel → ContentOf → PartModel
part_with input content = record { input = input; content = content }
