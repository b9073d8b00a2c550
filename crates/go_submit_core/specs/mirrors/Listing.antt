-- What a list of batches keeps of its pieces.
use Rattle.std.specs.Prelude.{◌≡◌, ◌<◌, ℕ, List, ◌++◌, All, length}
use Rattle.std.specs.List.{flat_map}
use Rattle.go_submit_core.specs.declared.published.PublishedBatch.{PublishedBatch}

-- pieces, one behind the other, and what stands behind them
abbrev pub listed : List (List PublishedBatch) → List PublishedBatch → List PublishedBatch
listed full last = flat_map (λ piece. piece) full ++ last

-- each piece is full, there is less than a piece behind them, and so many are all
pub record IsListed (full : List (List PublishedBatch)) (last : List PublishedBatch) (count : ℕ) : Type 0 where
  pub filled : All (λ piece. length piece ≡ 64) full
  pub rest : length last < 64
  pub many : count ≡ length (listed full last)
