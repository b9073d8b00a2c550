-- The expressions in an expression, with the places at which the check judges them.
--
-- docs/RULES.md, "Expressions: roles, order, faults of parts". The Go specification, "Expressions".
use Rattle.std.specs.Prelude.{List, [], ◌∷◌, ◌++◌}
use Rattle.go_tree_nodes.specs.Trees.{ExprTree, ItemTrees, Integer, Text, Named, Paren, Unary, Binary, Select, Call, Literal, StructLiteral, NoItems, Item}
use Rattle.go_report_core.specs.denote_core.declared.things.Stand.{Stand}
use Rattle.go_report_core.specs.denote_core.declared.things.Stand.TheVariants as stands
use Rattle.go_report_core.specs.expr_core.Places.{inside, under_place, left_place}

abbrev mutual
  -- an expression and all expressions in it, each with its place
  pub parts : Stand → ExprTree → List (Stand × ExprTree)
  parts p (Integer n span) = (p, Integer n span) ∷ []
  parts p (Text t) = (p, Text t) ∷ []
  parts p (Named x) = (p, Named x) ∷ []
  parts p (Paren first e last) = (p, Paren first e last) ∷ parts (inside p) e
  parts p (Unary op span e) = (p, Unary op span e) ∷ parts (under_place op p) e
  parts p (Binary a op span b) = (p, Binary a op span b) ∷ (parts stands.«Value» a ++ parts stands.«Value» b)
  parts p (Select e dot x) = (p, Select e dot x) ∷ parts (left_place p e) e
  parts p (Call e first items last) = (p, Call e first items last) ∷ (parts stands.Callee e ++ item_parts items)
  parts p (Literal n first items last) = (p, Literal n first items last) ∷ item_parts items
  parts p (StructLiteral t first items last) = (p, StructLiteral t first items last) ∷ item_parts items

  -- those of arguments, and of the elements of literals
  pub item_parts : ItemTrees → List (Stand × ExprTree)
  item_parts NoItems = []
  item_parts (Item key e comma rest) = parts stands.«Value» e ++ item_parts rest
