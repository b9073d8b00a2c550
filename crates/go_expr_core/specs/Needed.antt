-- What an expression denotes needs fewer names than it writes: those in the elements of composite literals decide nothing of it.
--
-- docs/RULES.md, "Expressions: roles, order, faults of parts". The Go specification, "Composite literals".
use Rattle.std.specs.Prelude.{◌≡◌, ℕ, List, [], ◌∷◌, ◌++◌}
use Rattle.go_tree_nodes.specs.declared.names.Ident.{Ident}
use Rattle.go_tree_nodes.specs.Trees.{ExprTree, ItemTrees, Integer, Text, Named, Paren, Unary, Binary, Select, Call, Literal, StructLiteral, NoItems, Item}
use Rattle.go_denote_core.specs.declared.things.Stand.{Stand}
use Rattle.go_denote_core.specs.declared.things.Found.{Found}
use Rattle.go_expr_core.specs.Looks.{Looks}
use Rattle.go_expr_core.specs.Denoting.{denoted}
use Rattle.go_expr_core.specs.Laws.{AgreeOnIdents, LooksAtNames, finding}
use Rattle.go_tree_nodes.specs.Idents.{type_name_idents, type_idents}

abbrev mutual
  -- the identifiers that are looked up for what an expression denotes, in order of their places
  pub needed_idents : ExprTree → List Ident
  needed_idents (Integer n span) = []
  needed_idents (Text t) = []
  needed_idents (Named x) = x ∷ []
  needed_idents (Paren first e last) = needed_idents e
  needed_idents (Unary op span e) = needed_idents e
  needed_idents (Binary a op span b) = needed_idents a ++ needed_idents b
  needed_idents (Select e dot x) = needed_idents e
  needed_idents (Call e first items last) = needed_idents e ++ needed_by_args items
  needed_idents (Literal n first items last) = type_name_idents n
  needed_idents (StructLiteral t first items last) = type_idents t

  -- those of arguments
  pub needed_by_args : ItemTrees → List Ident
  needed_by_args NoItems = []
  needed_by_args (Item key e comma rest) = needed_idents e ++ needed_by_args rest

-- an expression denotes the same by look-ups that agree on each of these identifiers, where it stands
abbrev pub DenotedByNeededNames : (T S D P : Type 0) → Type 0
DenotedByNeededNames T S D P = (looks : Looks T S D P) (find : List ℕ → ℕ → Found T S D) (p : Stand) (e : ExprTree)
    → LooksAtNames T looks.written → AgreeOnIdents looks.find find (needed_idents e) → denoted looks p e ≡ denoted (finding find looks) p e
