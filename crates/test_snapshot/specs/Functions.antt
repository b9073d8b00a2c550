-- Declarations whose tokens follow one another.
use Rattle.std.specs.Prelude.{ℕ, List}
use Rattle.std.specs.List.{AllByRecursion}
use Rattle.go_tree_nodes.specs.Terminals.{InOrder}
use Rattle.go_tree_nodes.specs.Trees.{DeclTree, TopTree}
use Rattle.go_tree_nodes.specs.Spelling.{spell_decl}

abbrev pub IsPlacedDecl : DeclTree → Type 0
IsPlacedDecl d = (low : ℕ) × ((high : ℕ) × InOrder low (spell_decl d) high)

abbrev pub ArePlacedTops : List TopTree → Type 0
ArePlacedTops ts = AllByRecursion (λ (t : TopTree). IsPlacedDecl t.decl) ts
