-- Answers of a snapshot and occurrences of its files.
use Rattle.std.proofs.Common.{◌≡◌, ℕ, ◌+◌, List, Option, Some, None, sym, ap, subst, ◌∙◌, arith}
use Rattle.std.specs.Prelude.{Ok, slice_get}
use Rattle.std.specs.Option.{option_map}
use Rattle.std.proofs.lemmas.Option.{get_or_from_slice_get, slice_get-map, slice_get_within}
use Rattle.go_tree_nodes.specs.Trees.{FileTree}
use Rattle.go_tree_core.specs.declared.occurrence.Occ.{Occ}
use Rattle.go_tree_core.specs.Occurrences.{file_occs}
use Rattle.go_report_core.specs.expr_core.Laws.{use_place, occurrence_place}
use Rattle.go_emit_core.specs.package_core.PackagePartLaws.{PartHasOccurrences}
use Rattle.go_graph_core.proofs.Assemblies.{has_tree_at, tree_at}
use Rattle.go_graph_core.specs.Packages.{IsAssembled, tree_shown, trees_of}
use Rattle.go_graph_core.specs.Sources.{SourceModel}
use Rattle.go_graph_core.specs.Workspaces.{PackageModel, IsPackage, IsReadWorkspace}
use Rattle.go_graph_core.proofs.Zips.{numbered_at}
use Rattle.go_emit_core.specs.package_core.PreparePackages.{trees_in}
use Rattle.go_report_core.specs.usage.Used.{FileUse}
use Rattle.go_emit_core.specs.package_core.PackagePartParts.{FileOf, IsFileMadeIn, PartModel}
use Rattle.go_snap_core.specs.whole_workspace.Inputs.{AreParts, IsPartOf}
use Rattle.go_snap_core.proofs.WholeWorkspaceLists.{one_at}
use Rattle.go_snap_core.proofs.WholeWorkspacePartsWhole.{all_right}
use Rattle.go_snap_core.specs.Snapshots.{IsAnswerAt}
use Rattle.go_snap_core.proofs.Finding.{one_key, one_part_at}
use Rattle.go_workspace_laws.specs.AnswerLaws.{AnswersOccurrences, IsUseOfOccurrence, IsOccurrenceAt, OutcomesAreOfOccurrences}
use Rattle.go_workspace_laws.proofs.AnswerLists.{alike_at}
use Rattle.go_workspace_laws.proofs.AnswerStanding.{stand_there}

-- the tree of a file, among those of its package
tree_among : (path : List ℕ) (files : List SourceModel) (m : ℕ) (s : SourceModel) (t : FileTree) → IsAssembled files → slice_get files m ≡ Some s → s.content ≡ Ok t → slice_get (trees_in (path, files)) m ≡ Some t
tree_among path files m s t assembled at content =
    slice_get-map tree_shown (trees_of files) m ∙ ap (option_map tree_shown) (tree_at files m s t assembled.trees at content)

own_place : (u : FileUse) (o : Occ) → use_place u ≡ occurrence_place o → IsUseOfOccurrence u o
own_place u o same = record { offset = ap (λ p. p.0) same; role = ap (λ p. p.1) same }

-- an assembled package has a part
part_there : (ps : List PackageModel) (parts : List (Option PartModel)) (n : ℕ) (p : PackageModel) (x : Option PartModel) → IsAssembled p.1 → slice_get parts n ≡ Some x → IsPartOf ps parts n p x → (part : PartModel) × (slice_get parts n ≡ Some (Some part)) × (part.input.source ≡ p)
part_there ps parts n p None assembled at h = absurd (h assembled)
part_there ps parts n p (Some part) assembled at h = (part, at, h.1.source)

module _ (of_part : PartHasOccurrences) (ps : List PackageModel) (parts : List (Option PartModel)) (as_read : IsReadWorkspace ps) (all : AreParts ps parts) (path name : List ℕ) (n : ℕ) where
  part_of : (number : ℕ) (p : PackageModel) → slice_get ps number ≡ Some p → IsAssembled p.1 → (part : PartModel) × (slice_get parts number ≡ Some (Some part)) × (part.input.source ≡ p)
  part_of number p numbered assembled =
      let entry = numbered_at (λ m q x. IsPartOf ps parts m q x) 0 ps parts number p all numbered in
      let e : 0 + number ≡ number = omega arith in
      part_there ps parts number p entry.0 assembled entry.1 (subst (λ m. IsPartOf ps parts m p entry.0) e entry.2)

  -- an occurrence has an answer, which is its own
  answered : (o : Occ) → IsOccurrenceAt ps path name n o → (u : FileUse) × IsAnswerAt ps parts path name n u × IsUseOfOccurrence u o
  answered o h =
      let found = part_of h.number (path, h.files) h.numbered h.assembled in
      let part = found.0 in
      let r = all_right ps parts all h.number part found.1 in
      let here : slice_get part.input.source.1 h.file ≡ Some h.source = subst (λ (p : PackageModel). slice_get p.1 h.file ≡ Some h.source) (sym found.2) h.in_package in
      let tree : slice_get (trees_in part.input.source) h.file ≡ Some h.tree =
      subst (λ (p : PackageModel). slice_get (trees_in p) h.file ≡ Some h.tree) (sym found.2) (tree_among path h.files h.file h.source h.tree h.assembled h.in_package h.content) in
      let made = numbered_at (IsFileMadeIn part.content.blocks r.made.checked.files) 0 (trees_in part.input.source) part.content.files h.file h.tree r.made.files tree in
      let same = stand_there of_part ps parts as_read all h.number part found.1 h.file h.tree made.0 tree made.1 in
      let answer = alike_at occurrence_place use_place (file_occs h.tree) made.0.answers.uses n o (sym same) h.there in (
        answer.0,
        record {
          of_part = part;
          in_workspace = record { number = h.number; files = h.files; numbered = h.numbered; there = found.1 };
          number = h.file;
          source = h.source;
          in_package = here;
          named = h.named;
          file = made.0;
          made = made.1;
          answer = answer.1;
        },
        own_place answer.0 o (sym answer.2),
      )

  -- what is answered is an occurrence's
  occurs : (u : FileUse) → IsAnswerAt ps parts path name n u → (o : Occ) × IsOccurrenceAt ps path name n o
  occurs u h =
      let number = h.in_workspace.number in
      let part = h.of_part in
      let r = all_right ps parts all number part h.in_workspace.there in
      let files = part.input.source.1 in
      let source : part.input.source ≡ (path, h.in_workspace.files) = one_at ps number part.input.source (path, h.in_workspace.files) r.numbered h.in_workspace.numbered in
      let path_is : part.input.source.0 ≡ path = ap (λ (p : PackageModel). p.0) source in
      let low = slice_get_within files h.number h.source h.in_package in
      let has = has_tree_at files h.number h.source r.assembled.trees low (sym (get_or_from_slice_get files h.number h.source h.source h.in_package)) in
      let tree : slice_get (trees_in part.input.source) h.number ≡ Some has.0 = tree_among part.input.source.0 files h.number h.source has.0 r.assembled h.in_package has.1 in
      let same = stand_there of_part ps parts as_read all number part h.in_workspace.there h.number has.0 h.file tree h.made in
      let found = alike_at use_place occurrence_place h.file.answers.uses (file_occs has.0) n u same h.answer in (
        found.0,
        record {
          number = number;
          files = files;
          numbered = r.numbered ∙ ap (λ (q : List ℕ). Some (q, files)) path_is;
          assembled = r.assembled;
          file = h.number;
          source = h.source;
          in_package = h.in_package;
          named = h.named;
          tree = has.0;
          content = has.1;
          there = found.1;
        },
      )

  -- there is one answer
  one_answer : (u v : FileUse) → IsAnswerAt ps parts path name n u → IsAnswerAt ps parts path name n v → u ≡ v
  one_answer u v h k =
      let part : h.of_part ≡ k.of_part = one_part_at ps as_read.well parts path h.of_part k.of_part h.in_workspace k.in_workspace in
      let number = k.in_workspace.number in
      let files = k.of_part.input.source.1 in
      let numbered = (all_right ps parts all number k.of_part k.in_workspace.there).numbered in
      let source : IsPackage k.of_part.input.source = subst IsPackage (get_or_from_slice_get ps number k.of_part.input.source k.of_part.input.source numbered) (as_read.well.packages number k.of_part.input.source (slice_get_within ps number k.of_part.input.source numbered)) in
      let there : slice_get files h.number ≡ Some h.source = subst (λ (p : PartModel). slice_get p.input.source.1 h.number ≡ Some h.source) part h.in_package in
      let place : h.number ≡ k.number = one_key (λ (s : SourceModel). s.name) files h.number k.number h.source k.source source.order there k.in_package (h.named ∙ sym k.named) in
      let made : slice_get k.of_part.content.files k.number ≡ Some h.file =
      subst (λ m. slice_get k.of_part.content.files m ≡ Some h.file) place (subst (λ (p : PartModel). slice_get p.content.files h.number ≡ Some h.file) part h.made) in
      let file : h.file ≡ k.file = one_at k.of_part.content.files k.number h.file k.file made k.made in
      one_at k.file.answers.uses n u v (subst (λ (f : FileOf). slice_get f.answers.uses n ≡ Some u) file h.answer) k.answer

  answers : AnswersOccurrences ps parts path name n
  answers = record {
    each = λ o h. (let a = answered o h in (a.0, a.1));
    only = occurs;
    own = λ o u h k. (let a = answered o h in subst (λ v. IsUseOfOccurrence v o) (one_answer a.0 u a.1 k) a.2);
    one = one_answer;
  }

pub outcomes_are_of_occurrences : PartHasOccurrences → OutcomesAreOfOccurrences
outcomes_are_of_occurrences of_part ps parts faults as_read h path name n = answers of_part ps parts as_read h.made path name n
