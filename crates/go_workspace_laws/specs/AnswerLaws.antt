-- A snapshot has an answer for exactly the occurrences of each file.
--
-- docs/RULES.md, "Occurrences", "Parts of packages", "Whole workspaces".
use Rattle.std.specs.Prelude.{◌≡◌, ℕ, List, Option, Some, Ok, map, slice_get}
use Rattle.go_tree_nodes.specs.Trees.{FileTree}
use Rattle.go_tree_core.specs.declared.occurrence.Occ.{Occ}
use Rattle.go_tree_core.specs.Occurrences.{file_occs}
use Rattle.go_report_core.specs.expr_core.Laws.{use_place, occurrence_place}
use Rattle.go_graph_core.specs.Imports.{IsNumbered}
use Rattle.go_graph_core.specs.Packages.{IsAssembled}
use Rattle.go_graph_core.specs.Sources.{SourceModel}
use Rattle.go_graph_core.specs.Workspaces.{PackageModel, IsReadWorkspace}
use Rattle.go_emit_core.specs.package_core.PreparePackages.{trees_in}
use Rattle.go_report_core.specs.usage.Used.{FileUse}
use Rattle.go_emit_core.specs.package_core.PackagePartParts.{FileOf, PartModel}
use Rattle.go_snap_core.specs.declared.fault.PlacedFault.{PlacedFault}
use Rattle.go_snap_core.specs.Snapshots.{IsAnswerAt, IsSnapshot}

-- what the part of a package has of a file stands where the file's occurrences stand, with their roles and in their order
abbrev pub PlacesAreOfOccurrences : Type 0
PlacesAreOfOccurrences =
    (ps : List PackageModel) (parts : List (Option PartModel)) (faults : List PlacedFault) → IsReadWorkspace ps → IsSnapshot ps parts faults
    → (n : ℕ) (p : PartModel) → slice_get parts n ≡ Some (Some p)
    → (m : ℕ) (t : FileTree) (f : FileOf) → slice_get (trees_in p.input.source) m ≡ Some t → slice_get p.content.files m ≡ Some f
    → map use_place f.answers.uses ≡ map occurrence_place (file_occs t)

-- the occurrence of a number in the file of a name in the package of a path, whose files are assembled
pub record IsOccurrenceAt (ps : List PackageModel) (path name : List ℕ) (n : ℕ) (o : Occ) : Type 0 where
  pub number : ℕ
  pub files : List SourceModel
  pub numbered : IsNumbered ps path number files
  pub assembled : IsAssembled files
  pub file : ℕ
  pub source : SourceModel
  pub in_package : slice_get files file ≡ Some source
  pub named : source.name ≡ name
  pub tree : FileTree
  pub content : source.content ≡ Ok tree
  pub there : slice_get (file_occs tree) n ≡ Some o

-- what answers stands where the occurrence stands, and has its role
pub record IsUseOfOccurrence (u : FileUse) (o : Occ) : Type 0 where
  pub offset : u.offset ≡ o.span.start
  pub role : u.role ≡ o.role

-- what a snapshot has for a path, the name of a file and a number
pub record AnswersOccurrences (ps : List PackageModel) (parts : List (Option PartModel)) (path name : List ℕ) (n : ℕ) : Type 0 where
  -- there is an answer where there is such an occurrence
  pub each : (o : Occ) → IsOccurrenceAt ps path name n o → (u : FileUse) × IsAnswerAt ps parts path name n u
  -- and nowhere else
  pub only : (u : FileUse) → IsAnswerAt ps parts path name n u → (o : Occ) × IsOccurrenceAt ps path name n o
  -- the answer is the occurrence's
  pub own : (o : Occ) (u : FileUse) → IsOccurrenceAt ps path name n o → IsAnswerAt ps parts path name n u → IsUseOfOccurrence u o
  -- and there is no other
  pub one : (u v : FileUse) → IsAnswerAt ps parts path name n u → IsAnswerAt ps parts path name n v → u ≡ v

-- the occurrences of the files of assembled packages have each one answer, and nothing else has one
abbrev pub OutcomesAreOfOccurrences : Type 0
OutcomesAreOfOccurrences =
    (ps : List PackageModel) (parts : List (Option PartModel)) (faults : List PlacedFault) → IsReadWorkspace ps → IsSnapshot ps parts faults
    → (path name : List ℕ) (n : ℕ) → AnswersOccurrences ps parts path name n
