-- What a contract sees of a look at the board.
use Rattle.std.specs.Prelude.{ℕ, List}
use Rattle.go_board_core.specs.submit_core.declared.published.PublishedBatch.{PublishedBatch}

-- the module, and the batches on the board
pub record Looked : Type 0 where
  pub own : List ℕ
  pub board : List PublishedBatch

abbrev pub looked_with : List ℕ → List PublishedBatch → Looked
looked_with own board = record { own = own; board = board }
