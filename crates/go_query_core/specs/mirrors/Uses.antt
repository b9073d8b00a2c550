-- What the occurrences of a file have.
use Rattle.std.specs.Prelude.{◌≡◌, ◌<◌, ◌^◌, length}
use Rattle.go_parse_core.specs.tree_core.Occurrences.{file_occs}
use Rattle.go_complete_core.specs.snap_core.Snapshots.{FoundFile}

-- each has one, and there are few enough for a number
pub record HasOccurrences (f : FoundFile) : Type 0 where
  pub many : length f.made.answers.uses ≡ length (file_occs f.tree)
  pub few : length (file_occs f.tree) < 2 ^ 64
