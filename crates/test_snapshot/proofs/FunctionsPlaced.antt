-- The declarations of a file whose tokens follow one another.
use Rattle.std.proofs.Common.{ℕ, List, [], ◌∷◌}
use Rattle.go_tree_nodes.specs.Terminals.{InOrder}
use Rattle.go_tree_nodes.specs.Trees.{FileTree, TopTree}
use Rattle.go_tree_nodes.specs.Spelling.{IsPlaced, spell_decl, spell_imports, spell_tops}
use Rattle.go_tree_nodes.proofs.InOrder.{in_order_split}
use Rattle.test_snapshot.specs.Functions.{ArePlacedTops}

tops_placed : (ts : List TopTree) (low high : ℕ) → InOrder low (spell_tops ts) high → ArePlacedTops ts
tops_placed [] low high h = tt
tops_placed (t ∷ ts) low high h =
    let s = in_order_split (spell_decl t.decl) _ low high h in
    ((low, (s.0, s.1.0)), tops_placed ts t.semicolon.end high s.1.1.2)

pub decls_placed : (f : FileTree) → IsPlaced f → ArePlacedTops f.decls
decls_placed f h =
    let s = in_order_split (spell_imports f.imports) _ f.semicolon.end h.0 h.1.2.2.2 in
    tops_placed f.decls s.0 h.0 s.1.1
