-- Texts of files.
use Rattle.std.specs.Prelude.{ℕ, ◌≤◌, List, IsUtf8}
use Rattle.go_tree_nodes.specs.Heights.{file_height}
use Rattle.go_tree_nodes.specs.Trees.{FileTree}
use Rattle.go_parse_core.specs.Correct.{HasTree, max_height}

-- the text has a tree that is not too high
abbrev pub HasLowTree : List ℕ → Type 0
HasLowTree text = (f : FileTree) × HasTree text f × (file_height f ≤ max_height)

-- the bytes are such a text
abbrev pub IsFile : List ℕ → Type 0
IsFile bytes = IsUtf8 bytes × HasLowTree bytes

-- the bytes are no such text
abbrev pub IsNoFile : List ℕ → Type 0
IsNoFile bytes = IsFile bytes → ⊥
