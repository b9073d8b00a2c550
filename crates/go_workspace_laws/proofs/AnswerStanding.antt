-- What the parts of a snapshot have of files stands where the files' occurrences stand.
use Rattle.std.proofs.Common.{◌≡◌, ℕ, All, List, Option, Some, map, subst}
use Rattle.std.specs.Prelude.{slice_get}
use Rattle.std.proofs.lemmas.Option.{get_or_from_slice_get, slice_get_within}
use Rattle.go_tree_nodes.specs.Rules.{Wf_file}
use Rattle.go_tree_nodes.specs.Trees.{FileTree}
use Rattle.go_tree_core.specs.Occurrences.{file_occs}
use Rattle.go_report_core.specs.expr_core.Laws.{use_place, occurrence_place}
use Rattle.go_emit_core.specs.package_core.PackagePartLaws.{PartHasOccurrences}
use Rattle.go_graph_core.specs.Workspaces.{AreAllRead, PackageModel, IsReadWorkspace}
use Rattle.go_emit_core.specs.package_core.PreparePackages.{trees_in}
use Rattle.go_emit_core.specs.package_core.PackagePartParts.{FileOf, PartModel}
use Rattle.go_snap_core.specs.whole_workspace.Inputs.{AreParts}
use Rattle.go_snap_core.proofs.WholeWorkspacePartsWhole.{all_right}
use Rattle.go_snap_core.proofs.Faulty.{read_there}
use Rattle.go_workspace_laws.specs.AnswerLaws.{PlacesAreOfOccurrences}
use Rattle.go_workspace_laws.proofs.Given.{is_input}
use Rattle.go_workspace_laws.proofs.Grammar.{all_keep_rules}

-- a tree of a workspace respects the rules of the grammar
keeps_rules : (ps : List PackageModel) (n : ℕ) (p : PackageModel) → All AreAllRead ps → slice_get ps n ≡ Some p → (m : ℕ) (t : FileTree) → slice_get (trees_in p) m ≡ Some t → Wf_file t
keeps_rules ps n p read numbered m t tree =
    subst Wf_file (get_or_from_slice_get (trees_in p) m t t tree) (all_keep_rules p.1 (read_there ps n p read numbered) m t (slice_get_within (trees_in p) m t tree))

pub stand_there : PartHasOccurrences → (ps : List PackageModel) (parts : List (Option PartModel)) → IsReadWorkspace ps → AreParts ps parts → (n : ℕ) (p : PartModel) → slice_get parts n ≡ Some (Some p)
    → (m : ℕ) (t : FileTree) (f : FileOf) → slice_get (trees_in p.input.source) m ≡ Some t → slice_get p.content.files m ≡ Some f → map use_place f.answers.uses ≡ map occurrence_place (file_occs t)
stand_there of_part ps parts as_read all n p there m t f tree made =
    let right = all_right ps parts all in
    let r = right n p there in
    of_part p.input p.content (is_input ps parts as_read.well right n p there) r.made m t f tree made (keeps_rules ps n p.input.source as_read.read r.numbered m t tree)

pub places_are_of_occurrences : PartHasOccurrences → PlacesAreOfOccurrences
places_are_of_occurrences of_part ps parts faults as_read h n p there m t f tree made = stand_there of_part ps parts as_read h.made n p there m t f tree made
