-- The functions of a file whose tokens follow one another.
use Rattle.std.proofs.Common.{◌≡◌, ℕ, zero, suc, ◌<◌, List, [], ◌∷◌, get_or, Contains, inl, inr, subst, arith}
use Rattle.std.proofs.lemmas.List.Elements.{Contains-append_cases}
use Rattle.go_token_core.specs.declared.kind.Operator.TheVariants as operator
use Rattle.go_tree_nodes.specs.Terminals.{InOrder}
use Rattle.go_tree_nodes.specs.Trees.{FuncTree, DeclTree, Value, Types, Func, TopTree}
use Rattle.go_tree_nodes.specs.Spelling.{mark, spell_decl, spell_tops, spell_imports}
use Rattle.go_tree_nodes.proofs.InOrder.{in_order_split}
use Rattle.go_local_core.specs.Tables.{IsFuncPlaced}
use Rattle.go_body_core.specs.file.Stands.{decl_funcs, tops_funcs}
use Rattle.go_body_core.specs.file.Laws.{FunctionsArePlaced}

-- what a list of one has is that one
the_one : {A : Type 0} (x y : A) (i : ℕ) → i < 1 → get_or (x ∷ []) i y ≡ y → x ≡ y
the_one x y zero lt e = e
the_one x y (suc i) lt e = absurd (omega arith)

decl_placed : (d : DeclTree) (low high : ℕ) → InOrder low (spell_decl d) high → (g : FuncTree) → Contains (decl_funcs d) g → IsFuncPlaced g
decl_placed (Value v) low high h g there = absurd (omega (arith, there.1))
decl_placed (Types t) low high h g there = absurd (omega (arith, there.1))
decl_placed (Func f) low high h g there = subst IsFuncPlaced (the_one f g there.0 there.1 there.2) (low, (high, h))

tops_placed : (ds : List TopTree) (low high : ℕ) → InOrder low (spell_tops ds) high → (g : FuncTree) → Contains (tops_funcs ds) g → IsFuncPlaced g
tops_placed [] low high h g there = absurd (omega (arith, there.1))
tops_placed (d ∷ ds) low high h g there =
    let parts = in_order_split (spell_decl d.decl) (mark operator.Semicolon d.semicolon ∷ spell_tops ds) low high h in
    elim (Contains-append_cases (decl_funcs d.decl) (tops_funcs ds) g there) [
      | inl here ↦ decl_placed d.decl low parts.0 parts.1.0 g here
      | inr later ↦ tops_placed ds d.semicolon.end high parts.1.1.2 g later
    ]

pub funcs_placed : FunctionsArePlaced
funcs_placed f h g there = tops_placed f.decls _ h.0 (in_order_split (spell_imports f.imports) (spell_tops f.decls) f.semicolon.end h.0 h.1.2.2.2).1.1 g there
