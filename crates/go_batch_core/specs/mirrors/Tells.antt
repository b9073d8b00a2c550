-- What packages tell, with what is not added yet.
use Rattle.std.specs.Prelude.{◌<◌, ℕ, List, All, Option, Some, slice_set}
use Rattle.std.specs.List.{fold}
use Rattle.go_summary_core.specs.Summaries.{SummaryModel}
use Rattle.go_batch_core.specs.declared.tell.Tell.{Tell}

-- with what a package tells in its place
abbrev pub tell_in : List (Option SummaryModel) → Tell → List (Option SummaryModel)
tell_in told t = slice_set told t.place (Some t.part.content.summary)

abbrev pub with_tells : List (Option SummaryModel) → List Tell → List (Option SummaryModel)
with_tells told ts = fold tell_in told ts

-- each has a place below a count
abbrev pub AreWithin : ℕ → List Tell → Type 0
AreWithin count ts = All (λ t. t.place < count) ts
