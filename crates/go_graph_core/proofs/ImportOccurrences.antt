-- The imports of a file and its import occurrences.
use Rattle.std.proofs.Common.{◌≡◌, ◌++◌, List, [], ◌∷◌, Option, map, refl, sym, ◌∙◌, ap}
use Rattle.go_collections_core.specs.text_core.declared.span.Span.{Span}
use Rattle.go_tree_nodes.specs.Terminals.{value_of}
use Rattle.go_tree_nodes.specs.Trees.{ImportTree, ImportSpecTree, Specs, Single, Group}
use Rattle.go_parse_core.specs.tree_core.Names.{import_strings, take_group, take_specs}
use Rattle.go_parse_core.specs.tree_core.Telling.{imports_are_occurrences}
use Rattle.go_graph_core.specs.Imports.{texts_in, texts_of, content_texts}
use Rattle.go_graph_core.specs.ImportLaws.{TextsAreStrings, TextsAreOccurrences}
use Rattle.go_graph_core.proofs.Additions.{map_append}

group_strings : (is : List (ImportSpecTree × Option Span)) → map (λ i. value_of i.0.path) is ≡ map value_of (take_group (λ s. s.path ∷ []) is)
group_strings [] = refl
group_strings (i ∷ is) = ap (λ l. value_of i.0.path ∷ l) (group_strings is)

specs_strings : (x : Specs ImportSpecTree) → texts_in x ≡ map value_of (take_specs (λ s. s.path ∷ []) x)
specs_strings (Single i) = refl
specs_strings (Group first is last) = group_strings is

pub all_strings : (is : List ImportTree) → texts_of is ≡ map value_of (import_strings is)
all_strings [] = refl
all_strings (i ∷ is) = (λ k. specs_strings i.specs k ++ all_strings is k) ∙ sym (map_append value_of (take_specs (λ s. s.path ∷ []) i.specs) (import_strings is))

pub texts_are_strings : TextsAreStrings
texts_are_strings s f e = ap content_texts e ∙ all_strings f.imports

pub texts_are_occurrences : TextsAreOccurrences
texts_are_occurrences s f e = texts_are_strings s f e ∙ ap (map value_of) (sym (imports_are_occurrences f))
