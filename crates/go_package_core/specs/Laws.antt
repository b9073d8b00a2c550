-- Laws of checked packages.
use Rattle.std.specs.Prelude.{◌≡◌, ◌<◌, ℕ, List, Some, All, length, map, slice_get}
use Rattle.go_tree_nodes.specs.Trees.{FileTree}
use Rattle.go_tree_nodes.specs.Rules.{Wf_file}
use Rattle.go_parse_core.specs.tree_core.Occurrences.{file_occs}
use Rattle.go_block_core.specs.Naming.{file_specs}
use Rattle.go_type_core.specs.table_core.Entries.{Entry}
use Rattle.go_report_core.specs.expr_core.Laws.{use_place, occurrence_place}
use Rattle.go_package_core.specs.prepare.Packages.{PackageIn}
use Rattle.go_package_core.specs.Checked.{AnswersOf, CheckedOf, IsChecked, imports_at}
use Rattle.go_tree_nodes.specs.Spelling.{IsPlaced}

-- there is one answer to a package
abbrev pub OneCheck : Type 0
OneCheck = (p : PackageIn) (far : List Entry) (one other : CheckedOf) → All IsPlaced p.trees → IsChecked p far one → IsChecked p far other → one ≡ other

-- what stands in a file of the grammar, of whose imports each comes to something, stands where its occurrences stand, with their roles and in their
-- order: each occurrence has exactly one outcome, and no other place has one
abbrev pub PackageHasOccurrences : Type 0
PackageHasOccurrences =
    (p : PackageIn) (far : List Entry) (c : CheckedOf) → IsChecked p far c → (n : ℕ) (f : FileTree) (a : AnswersOf) → slice_get p.trees n ≡ Some f → slice_get c.files n ≡ Some a
    → Wf_file f → length (file_specs f) ≡ length (imports_at p n) → map use_place a.uses ≡ map occurrence_place (file_occs f)
