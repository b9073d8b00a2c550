-- Laws of parts.
use Rattle.std.specs.Prelude.{◌≡◌, ℕ, Some, All, map, slice_get}
use Rattle.go_tree_nodes.specs.Trees.{FileTree}
use Rattle.go_tree_nodes.specs.Rules.{Wf_file}
use Rattle.go_parse_core.specs.tree_core.Occurrences.{file_occs}
use Rattle.go_report_core.specs.expr_core.Laws.{use_place, occurrence_place}
use Rattle.go_package_core.specs.prepare.Packages.{trees_in}
use Rattle.go_report_core.specs.summary_core.Summaries.{path_of}
use Rattle.go_package_core.specs.package_part.Inputs.{InputModel, IsInput, path_in}
use Rattle.go_package_core.specs.package_part.Parts.{ContentOf, FileOf, IsPart}
use Rattle.go_tree_nodes.specs.Spelling.{IsPlaced}

-- there is one part of an input whose files' tokens follow one another, so that equal inputs have equal parts
abbrev pub OnePart : Type 0
OnePart = (i : InputModel) (one other : ContentOf) → All IsPlaced (trees_in i.source) → IsPart i one → IsPart i other → one ≡ other

-- what stands in a file of the grammar stands where its occurrences stand, with their roles and in their order: each occurrence has exactly one
-- outcome, and no other place has one
abbrev pub PartHasOccurrences : Type 0
PartHasOccurrences =
    (i : InputModel) (c : ContentOf) → IsInput i → IsPart i c → (n : ℕ) (f : FileTree) (m : FileOf) → slice_get (trees_in i.source) n ≡ Some f → slice_get c.files n ≡ Some m
    → Wf_file f → map use_place m.answers.uses ≡ map occurrence_place (file_occs f)

-- what a part tells is of the package that it is made of
abbrev pub PartHasItsPath : Type 0
PartHasItsPath = (i : InputModel) (c : ContentOf) → IsPart i c → path_of c.summary ≡ path_in i
