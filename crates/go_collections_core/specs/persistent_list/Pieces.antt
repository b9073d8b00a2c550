-- Lists by pieces, as they are stored.
use Rattle.std.specs.Prelude.{◌≡◌, ◌<◌, ℕ, List, ◌++◌, All, length}
use Rattle.std.specs.List.{flat_map}

module _ {X : Type 0} where
  -- pieces, one behind the other, and what stands behind them
  abbrev pub in_pieces : List (List X) → List X → List X
  in_pieces full last = flat_map (λ piece. piece) full ++ last

  -- each piece is full, there is less than a piece behind them, and so many are all
  pub record IsInPieces (full : List (List X)) (last : List X) (count : ℕ) : Type 0 where
    pub filled : All (λ piece. length piece ≡ 64) full
    pub rest : length last < 64
    pub many : count ≡ length (in_pieces full last)
