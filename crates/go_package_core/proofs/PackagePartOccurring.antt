-- What stands in the files of a part stands where their occurrences stand.
use Rattle.std.proofs.Common.{◌≡◌, ℕ, zero, suc, ◌+◌, ◌++◌, List, [], ◌∷◌, Some, Bool, true, false, length, map, refl, sym, ap, subst, ◌∙◌, arith}
use Rattle.std.specs.Prelude.{◌&&◌, not, nat_eq, if◌then◌else◌, slice_get, slice_index_or}
use Rattle.std.specs.List.{list_any}
use Rattle.go_tree_nodes.specs.Trees.{FileTree}
use Rattle.go_tree_nodes.specs.Rules.{Wf_file}
use Rattle.go_parse_core.specs.tree_core.Occurrences.{file_occs}
use Rattle.go_block_core.specs.graph_core.Packages.{Trees, tree_shown, trees_of}
use Rattle.go_block_core.specs.graph_core.Zips.{numbered_at}
use Rattle.go_block_core.specs.declared.imports.Imported.{Imported}
use Rattle.go_block_core.specs.Blocks.{BlocksModel}
use Rattle.go_block_core.specs.Naming.{HaveOneEach, file_specs}
use Rattle.go_report_core.specs.expr_core.Laws.{use_place, occurrence_place}
use Rattle.go_report_core.specs.usage.Used.{FileUse, blank_places, is_import, judged_import, refused_use, used_places, without_unused}
use Rattle.go_package_core.specs.prepare.Packages.{trees_in}
use Rattle.go_package_core.proofs.Meanings.{has_occurrences}
use Rattle.go_package_core.specs.package_part.Inputs.{InputModel, IsInput}
use Rattle.go_package_core.specs.package_part.Laws.{PartHasOccurrences}
use Rattle.go_package_core.specs.package_part.Parts.{ContentOf, FileOf, IsFileMadeIn, IsPart, package_seen, seen_by}

-- what is refused for not being used stands where it stood
judged_stays : (places : List ℕ) (u : FileUse) → use_place (judged_import places u) ≡ use_place u
judged_stays places u = by (is_import u.role && not (list_any (λ place. nat_eq place u.offset) places))
  where
    by : (b : Bool) → use_place (if b then refused_use u else u) ≡ use_place u
    by true = refl
    by false = refl

all_stay : (places : List ℕ) (us : List FileUse) → map use_place (map (judged_import places) us) ≡ map use_place us
all_stay places [] = refl
all_stay places (u ∷ us) = ap (λ p. p ∷ map use_place (map (judged_import places) us)) (judged_stays places u) ∙ ap (λ l. use_place u ∷ l) (all_stay places us)

-- a file has as many imports as come to something
imports_there : (ts : Trees) (files : List (List Imported)) (n : ℕ) (f : FileTree) → HaveOneEach ts files → slice_get (map tree_shown ts) n ≡ Some f → length (file_specs f) ≡ length (slice_index_or files n [])
imports_there [] files n f h e = cc
imports_there (t ∷ ts) [] n f h e = absurd h
imports_there (t ∷ ts) (is ∷ files) zero f h e = (let same : tree_shown t ≡ f = cc in subst (λ g. length (file_specs g) ≡ length is) same h.0)
imports_there (t ∷ ts) (is ∷ files) (suc n) f h e = imports_there ts files n f h.1 e

file_stays : (b : BlocksModel) (n : ℕ) (f : FileTree) (us new : List FileUse) → new ≡ without_unused b n f us → map use_place new ≡ map use_place us
file_stays b n f us new is = ap (map use_place) is ∙ all_stay (blank_places f ++ used_places b n (file_occs f) us) us

-- one file
file_occurs : (i : InputModel) (c : ContentOf) (h : IsPart i c) → IsInput i → (n k : ℕ) (f : FileTree) (m : FileOf) (here : IsFileMadeIn c.blocks h.checked.files k f m) → k ≡ n → slice_get (trees_in i.source) n ≡ Some f → Wf_file f
    → map use_place m.answers.uses ≡ map occurrence_place (file_occs f)
file_occurs i c h well n k f m here at tree grammar =
    let there = subst (λ (j : ℕ). slice_get h.checked.files j ≡ Some here.checked) at here.there in
    let many = imports_there (trees_of i.source.1) i.imports n f well.imports tree in
    let judged = file_stays c.blocks k f here.checked.uses m.answers.uses here.made_of.uses in
    judged ∙ has_occurrences (package_seen i c.blocks (seen_by i)) (seen_by i).types h.checked h.is_checked n f here.checked tree there grammar many

pub part_has_occurrences : PartHasOccurrences
part_has_occurrences i c well h n f m tree there grammar =
    let made = numbered_at (IsFileMadeIn c.blocks h.checked.files) 0 (trees_in i.source) c.files n f h.files tree in
    let e : Some m ≡ Some made.0 = sym there ∙ made.1 in
    let same : made.0 ≡ m = cc in
    file_occurs i c h well n (0 + n) f m (subst (IsFileMadeIn c.blocks h.checked.files (0 + n) f) same made.2) (omega arith) tree grammar
