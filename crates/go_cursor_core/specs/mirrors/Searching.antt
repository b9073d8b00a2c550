-- The search through a function for the identifier that begins at an offset, step by step.
use Rattle.std.specs.Prelude.{◌≡◌, ℕ, false, List, [], ◌++◌, length, take, drop, Option, Some, None}
use Rattle.go_tree_nodes.specs.declared.names.Ident.{Ident}
use Rattle.go_expr_core.specs.local_core.Steps.{Steps}
use Rattle.go_cursor_core.specs.declared.spot.UsedName.{UsedName}
use Rattle.go_cursor_core.specs.declared.search.Search.{Search}
use Rattle.go_cursor_core.specs.Blocks.{OpenBlock, opened}
use Rattle.go_cursor_core.specs.Shown.{used_shown}
use Rattle.go_cursor_core.specs.Opened.{OpenUsed, open_used, first_open, steps_opened, with_idents}

-- what the search comes to in the end where these steps are still ahead
abbrev pub ahead_by : ℕ → OpenBlock → Option UsedName → Steps → Option OpenUsed
ahead_by start o None rest = first_open start (steps_opened o.outer o.block rest)
ahead_by start o (Some u) rest = Some (open_used (o.outer ++ o.block) (used_shown u))

abbrev pub ahead : Search → Steps → Option OpenUsed
ahead s rest = ahead_by s.start s.names s.found rest

-- These steps, before further ones, lead from the first state to the second, and the names of blocks outside are as they were.
pub record IsAhead (a : Search) (f : Steps → Steps) (b : Search) : Type 0 where
  pub memory : a.lacks_memory ≡ false
  pub start : b.start ≡ a.start
  pub same : (rest : Steps) → ahead a (f rest) ≡ ahead b rest
  pub outer : b.found ≡ None → (a.found ≡ None) × (b.names.outer ≡ a.names.outer)

-- they do where memory is not wanting
pub record Leads (a : Search) (f : Steps → Steps) (b : Search) : Type 0 where
  pub led : b.lacks_memory ≡ false → IsAhead a f b

-- names are declared in the block
pub record AreDeclared (a : Search) (xs : List Ident) (b : Search) : Type 0 where
  pub memory : a.lacks_memory ≡ false
  pub start : b.start ≡ a.start
  pub found : b.found ≡ a.found
  pub names : b.names ≡ opened a.names.outer (with_idents a.names.block xs)

pub record Declares (a : Search) (xs : List Ident) (b : Search) : Type 0 where
  pub made : b.lacks_memory ≡ false → AreDeclared a xs b

-- a block is opened, outside which these many names are open that are not of the block around it
pub record Enters (a : Search) (n : ℕ) (b : Search) : Type 0 where
  pub memory : b.lacks_memory ≡ a.lacks_memory
  pub start : b.start ≡ a.start
  pub found : b.found ≡ a.found
  pub names : b.names ≡ opened (a.names.outer ++ a.names.block) []
  pub count : n ≡ length a.names.outer

abbrev pub left_by : ℕ → OpenBlock → Option UsedName → OpenBlock
left_by n o None = opened (take n o.outer) (drop n o.outer)
left_by n o (Some u) = o

-- the innermost block is closed, unless the identifier is found: the names of the block around it begin behind so many
pub record LeavesTo (a : Search) (n : ℕ) (b : Search) : Type 0 where
  pub memory : b.lacks_memory ≡ a.lacks_memory
  pub start : b.start ≡ a.start
  pub found : b.found ≡ a.found
  pub names : b.names ≡ left_by n a.names a.found
