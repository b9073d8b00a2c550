-- The imports of a package, from its trees and from what they come to.
use Rattle.std.proofs.Common.{◌≡◌, ℕ, ◌+◌, ◌<◌, zero, suc, List, [], ◌∷◌, ◌++◌, map, length, get_or, take, All, Result, Ok, Option, Some, None, refl, sym, ap, subst, ◌∙◌, arith}
use Rattle.std.specs.Prelude.{⊤, slice_get, option_map}
use Rattle.std.specs.List.{AllZip}
use Rattle.std.specs.List.Sorted.{IsStrictlyIncreasing}
use Rattle.std.proofs.lemmas.List.{map-append}
use Rattle.std.proofs.lemmas.List.Elements.{All-cons, All-head, All-tail}
use Rattle.go_tree_nodes.specs.text_core.declared.span.Span.{Span}
use Rattle.go_tree_nodes.specs.Terminals.{Terminal, value_of}
use Rattle.go_tree_nodes.specs.Trees.{FileTree, ImportTree, ImportSpecTree, Specs, Single, Group}
use Rattle.go_tree_nodes.specs.Spelling.{spell_import, spell_specs_of, spell_specs, spell_imports, spell_file, IsPlaced}
use Rattle.go_graph_core.specs.Sources.{SourceModel, IsPlacedContent, IsPlacedSource}
use Rattle.go_graph_core.specs.Packages.{Trees, trees_of, HasNoClause, AllHaveTrees}
use Rattle.go_graph_core.specs.Imports.{texts_in, texts_of}
use Rattle.go_graph_core.proofs.Assemblies.{tree_of, one_more}
use Rattle.go_block_core.specs.declared.imports.Imported.{Imported}
use Rattle.go_block_core.specs.declared.imports.NamedImport.{NamedImport}
use Rattle.go_block_core.specs.Holding.{AreImportsInOrder}
use Rattle.go_block_core.specs.Laws.{ArePlaced}
use Rattle.go_block_core.specs.Naming.{specs_in, specs_of, file_specs, named_import, specs_named, file_named, package_named, HaveOneEach, TextsAgree}
use Rattle.go_block_core.proofs.Rising.{Rises, Gives, rises_increasing, gives_none, gives_skip, gives_one, gives_both, gives_first, gives_second}

-- the text of an import
abbrev pub text_of : ImportSpecTree → List ℕ
text_of spec = value_of spec.path

-- the texts of the imports are those that the plan reads

group_texts : (is : List (ImportSpecTree × Option Span)) → map (λ i. value_of i.0.path) is ≡ map text_of (map (λ i. i.0) is)
group_texts [] = refl
group_texts (i ∷ is) = ap (λ ts. value_of i.0.path ∷ ts) (group_texts is)

in_texts : (s : Specs ImportSpecTree) → texts_in s ≡ map text_of (specs_in s)
in_texts (Single i) = refl
in_texts (Group first is last) = group_texts is

pub same_texts : TextsAgree
same_texts [] = refl
same_texts (i ∷ is) =
    ap (λ ts. ts ++ texts_of is) (in_texts i.specs)
    ∙ (ap (λ ts. map text_of (specs_in i.specs) ++ ts) (same_texts is)
    ∙ sym (map-append text_of (specs_in i.specs) (specs_of is)))

-- the trees of a package are placed

pub placed_trees : (files : List SourceModel) → AllHaveTrees files → All IsPlacedSource files → ArePlaced (trees_of files)
placed_trees [] trees placed = λ k d lt. absurd (omega arith)
placed_trees (s ∷ ss) trees placed =
    let f = tree_of s (All-head (λ s. HasNoClause s → ⊥) s ss trees) in
    let here : IsPlaced f.0 = subst IsPlacedContent f.1 (All-head IsPlacedSource s ss placed) in
    subst ArePlaced (sym (one_more s ss f.0 f.1))
    (All-cons (λ (t : List ℕ × FileTree). IsPlaced t.1) (s.name, f.0) (trees_of ss) here
    (placed_trees ss (All-tail (λ s. HasNoClause s → ⊥) s ss trees) (All-tail IsPlacedSource s ss placed)))

-- the imports of a file stand in order of place

abbrev spec_place : ImportSpecTree → ℕ
spec_place spec = spec.path.span.start

abbrev named_place : NamedImport → ℕ
named_place i = i.at

abbrev AnySpec : ImportSpecTree → Type 0
AnySpec spec = ⊤

abbrev AnyNamed : NamedImport → Type 0
AnyNamed i = ⊤

abbrev GivesSpecs : List Terminal → List ImportSpecTree → Type 0
GivesSpecs ts specs = Gives AnySpec spec_place ts specs

import_gives : (i : ImportSpecTree) → GivesSpecs (spell_import i) (i ∷ [])
import_gives i = gives_second _ (gives_one tt refl refl gives_none)

group_gives : (is : List (ImportSpecTree × Option Span)) → GivesSpecs (spell_specs_of spell_import is) (map (λ i. i.0) is)
group_gives [] = gives_none
group_gives (i ∷ is) = gives_both (import_gives i.0) (gives_second _ (group_gives is))

specs_give : (s : Specs ImportSpecTree) → GivesSpecs (spell_specs spell_import s) (specs_in s)
specs_give (Single i) = import_gives i
specs_give (Group first is last) = gives_skip (gives_first _ (group_gives is))

imports_give : (is : List ImportTree) → GivesSpecs (spell_imports is) (specs_of is)
imports_give [] = gives_none
imports_give (i ∷ is) = gives_both (gives_skip (specs_give i.specs)) (gives_skip (imports_give is))

file_gives : (f : FileTree) → GivesSpecs (spell_file f) (file_specs f)
file_gives f = gives_skip (gives_skip (gives_skip (gives_first _ (imports_give f.imports))))

-- imports stand where they are written
named_rise : (specs : List ImportSpecTree) (is : List Imported) (low high : ℕ) → length specs ≡ length is → Rises AnySpec spec_place low specs high → Rises AnyNamed named_place low (specs_named specs is) high
named_rise [] is low high count r = r
named_rise (spec ∷ specs) [] low high count r = absurd (omega (arith, count))
named_rise (spec ∷ specs) (i ∷ is) low high count r = (tt, r.1, named_rise specs is (spec.path.span.start + 1) high (omega (arith, count)) r.2)

file_in_order : (f : FileTree) (is : List Imported) → length (file_specs f) ≡ length is → IsPlaced f → IsStrictlyIncreasing (map named_place (file_named f is))
file_in_order f is count placed = rises_increasing AnyNamed named_place (file_named f is) 0 placed.0 (named_rise (file_specs f) is 0 placed.0 count ((file_gives f).rise 0 placed.0 placed.1))

pub imports_in_order : (ts : Trees) (files : List (List Imported)) → ArePlaced ts → HaveOneEach ts files → AreImportsInOrder (package_named ts files)
imports_in_order [] files placed counts = λ k d lt. absurd (omega arith)
imports_in_order (t ∷ ts) [] placed counts = absurd counts
imports_in_order (t ∷ ts) (is ∷ files) placed counts =
    All-cons (λ l. IsStrictlyIncreasing (map named_place l)) (file_named t.1 is) (package_named ts files)
    (file_in_order t.1 is counts.0 (All-head (λ (x : List ℕ × FileTree). IsPlaced x.1) t ts placed))
    (imports_in_order ts files (All-tail (λ (x : List ℕ × FileTree). IsPlaced x.1) t ts placed) counts.1)
