-- Statements that declare nothing in the block in which they stand.
use Rattle.std.specs.Prelude.{Bool, true, false, ◌&&◌}
use Rattle.go_tree_nodes.specs.Trees as tree
use Rattle.go_tree_nodes.specs.Trees.{SimpleTree, Alone, Step, Assign, Update, Define, StmtTree, Empty, Simple, Return, Break, Continue, Block, If, For, Lines, NoLines, Line}

abbrev pub is_quiet_simple : SimpleTree → Bool
is_quiet_simple (Alone t) = true
is_quiet_simple (Step t op s) = true
is_quiet_simple (Assign ts s es) = true
is_quiet_simple (Update t op s e) = true
is_quiet_simple (Define xs s es) = false

abbrev pub is_quiet : StmtTree → Bool
is_quiet Empty = true
is_quiet (tree.Declare v) = false
is_quiet (Simple s) = is_quiet_simple s
is_quiet (Return s es) = true
is_quiet (Break s) = true
is_quiet (Continue s) = true
is_quiet (Block first ls last) = true
is_quiet (If b) = true
is_quiet (For k head first ls last) = true

abbrev pub are_quiet : Lines → Bool
are_quiet NoLines = true
are_quiet (Line s semicolon more) = is_quiet s && are_quiet more
