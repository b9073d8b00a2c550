-- What an answer of a snapshot names is there.
use Rattle.std.proofs.Common.{◌≡◌, ℕ, zero, suc, List, [], ◌∷◌, Option, Some, None, refl, sym, ap, subst, ◌∙◌}
use Rattle.std.specs.Prelude.{Ok, slice_get}
use Rattle.std.specs.Option.{option_map}
use Rattle.std.proofs.lemmas.Option.{get_or_from_slice_get, slice_get-map, slice_get_within}
use Rattle.go_tree_nodes.specs.Trees.{FileTree}
use Rattle.go_tree_core.specs.declared.occurrence.Occ.{Occ}
use Rattle.go_tree_core.specs.Occurrences.{file_occs}
use Rattle.go_graph_core.specs.Packages.{IsAssembled, tree_shown, trees_of}
use Rattle.go_graph_core.specs.Sources.{SourceModel}
use Rattle.go_graph_core.proofs.Assemblies.{has_tree_at, tree_at}
use Rattle.go_graph_core.proofs.PlanLaws.{has_plan}
use Rattle.go_site_core.specs.handle_core.Declarations.{Declaration}
use Rattle.go_query_core.specs.body_core.Notes.{TheUse}
use Rattle.go_query_core.specs.package_core.PreparePackages.{trees_in}
use Rattle.go_query_core.specs.snap_core.WholeWorkspacePartsWhole.{all_right}
use Rattle.go_answer_laws.specs.declarations.Found.{AreThereAs, FilePlace, IsImportThereAt, IsThereAs, IsThereUnder}
use Rattle.go_answer_laws.specs.declarations.Laws.{AnswersAreThere, IsAnswerThere, place_in_part, spelled_before}
use Rattle.go_answer_laws.proofs.DeclarationsParts.{all_there}

-- what stands at a number of two lists
record IsUseAt (Named : List ℕ → Declaration → Type 0) (Imported_as : ℕ → Declaration → Type 0) (before : List ℕ) (os : List Occ) (n : ℕ) (u : TheUse) : Type 0 where
  occurrence : Occ
  there : slice_get os n ≡ Some occurrence
  is : IsThereAs Named Imported_as (spelled_before before os n) occurrence.spelling occurrence.role u

use_at : (Named : List ℕ → Declaration → Type 0) (Imported_as : ℕ → Declaration → Type 0) (before : List ℕ) (os : List Occ) (us : List TheUse) (n : ℕ) (u : TheUse) → AreThereAs Named Imported_as before os us → slice_get us n ≡ Some u
    → IsUseAt Named Imported_as before os n u
use_at Named Imported_as before [] [] n u h e = absurd (let no : None ≡ Some u = e in cc)
use_at Named Imported_as before [] (v ∷ us) n u h e = absurd h
use_at Named Imported_as before (o ∷ os) [] n u h e = absurd h
use_at Named Imported_as before (o ∷ os) (v ∷ us) zero u h e =
    record { occurrence = o; there = refl; is = subst (IsThereAs Named Imported_as before o.spelling o.role) (let s : Some v ≡ Some u = e in let same : v ≡ u = cc in same) h.0 }
use_at Named Imported_as before (o ∷ os) (v ∷ us) (suc n) u h e =
    let r = use_at Named Imported_as o.spelling os us n u h.1 e in
    record { occurrence = r.occurrence; there = r.there; is = r.is }

-- the tree of a file, among those of its package
tree_among : (path : List ℕ) (files : List SourceModel) (m : ℕ) (s : SourceModel) (t : FileTree) → IsAssembled files → slice_get files m ≡ Some s → s.content ≡ Ok t → slice_get (trees_in (path, files)) m ≡ Some t
tree_among path files m s t assembled at content =
    slice_get-map tree_shown (trees_of files) m ∙ ap (option_map tree_shown) (tree_at files m s t assembled.trees at content)

pub answers_are_there : AnswersAreThere
answers_are_there ps parts faults as_read snapshot path name n u h =
    let number = h.in_workspace.number in
    let part = h.of_part in
    let right = all_right ps parts snapshot.made in
    let r = right number part h.in_workspace.there in
    let files = part.input.source.1 in
    let low = slice_get_within files h.number h.source h.in_package in
    let has = has_tree_at files h.number h.source r.assembled.trees low (sym (get_or_from_slice_get files h.number h.source h.source h.in_package)) in
    let tree : slice_get (trees_in part.input.source) h.number ≡ Some has.0 = tree_among part.input.source.0 files h.number h.source has.0 r.assembled h.in_package has.1 in
    let plan = has_plan ps as_read.well in
    let uses = all_there ps parts as_read right plan.0 plan.1 number part h.in_workspace.there h.number has.0 h.file tree h.made in
    let at : FilePlace = place_in_part part.input h.number has.0 in
    let one = use_at (IsThereUnder ps at) (IsImportThereAt ps at) [] (file_occs has.0) h.file.answers.uses n u uses h.answer in
    record {
      tree = has.0;
      content = has.1;
      occurrence = one.occurrence;
      there = one.there;
      is = one.is;
    }
