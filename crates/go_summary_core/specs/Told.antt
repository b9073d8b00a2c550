-- Lists of what packages tell, as they are stored.
use Rattle.std.specs.Prelude.{◌≡◌, ◌<◌, ◌≤◌, ℕ, List, ◌++◌, All, length, slice_get}
use Rattle.std.specs.List.{filter_map, flat_map}
use Rattle.go_summary_core.specs.Summaries.{SummaryModel, IsOfOne}

-- pieces, one behind the other, and what stands behind them
abbrev pub listed : List (List SummaryModel) → List SummaryModel → List SummaryModel
listed full last = flat_map (λ piece. piece) full ++ last

-- each piece is full, there is less than a piece behind them, so many are all, and all of each summary is of one package
pub record IsListed (full : List (List SummaryModel)) (last : List SummaryModel) (count : ℕ) : Type 0 where
  pub filled : All (λ piece. length piece ≡ 64) full
  pub rest : length last < 64
  pub many : count ≡ length (listed full last)
  pub own : All IsOfOne (listed full last)

-- the summaries at these places
abbrev pub at_places : List SummaryModel → List ℕ → List SummaryModel
at_places told places = filter_map (slice_get told) places

-- there are summaries at these places, and all of each is of one package
pub record AreAt (told : List SummaryModel) (places : List ℕ) : Type 0 where
  pub below : All (λ (p : ℕ). p < length told) places
  pub own : All IsOfOne (at_places told places)
