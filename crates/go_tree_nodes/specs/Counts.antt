-- How many parts a list has, and whether a statement has any.
use Rattle.std.specs.Prelude.{ℕ, zero, suc, Bool, true, false}
use Rattle.go_tree_nodes.specs.Trees as tree
use Rattle.go_tree_nodes.specs.Trees.{ItemTrees, NoItems, Item, StmtTree, Empty, Simple, Return, Break, Continue, Block, If, For}

-- the arguments of a call, or the elements of a literal
abbrev pub item_count : ItemTrees → ℕ
item_count NoItems = 0
item_count (Item key e comma rest) = suc (item_count rest)

-- an empty statement
abbrev pub is_empty : StmtTree → Bool
is_empty Empty = true
is_empty (tree.Declare v) = false
is_empty (Simple s) = false
is_empty (Return s es) = false
is_empty (Break s) = false
is_empty (Continue s) = false
is_empty (Block first ls last) = false
is_empty (If b) = false
is_empty (For k head first ls last) = false
