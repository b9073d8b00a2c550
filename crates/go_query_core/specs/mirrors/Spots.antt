-- The identifiers of a file by the places of what stands there.
use Rattle.std.specs.Prelude.{◌≡◌, ◌<◌, ◌^◌, ℕ, Some, length, map, slice_get}
use Rattle.std.specs.List.{HoldsAt}
use Rattle.go_tree_nodes.specs.Rules.{Wf_file}
use Rattle.go_parse_core.specs.tree_core.Occurrences.{CoversAt, Follow, file_occs}
use Rattle.go_expr_core.specs.Laws.{occurrence_place, use_place}
use Rattle.go_complete_core.specs.package_core.PreparePackages.{trees_in}
use Rattle.go_complete_core.specs.snap_core.Snapshots.{FoundFile}

-- the file is one of its package and of the grammar, its occurrences follow one another, and what its part has stands where they stand
pub record HasSpots (f : FoundFile) : Type 0 where
  pub listed : slice_get (trees_in f.of_part.input.source) f.number ≡ Some f.tree
  pub places : map use_place f.made.answers.uses ≡ map occurrence_place (file_occs f.tree)
  pub few : length (file_occs f.tree) < 2 ^ 64
  pub well : Wf_file f.tree
  pub high : ℕ
  pub follow : Follow 0 (file_occs f.tree) high

-- the identifier that is used at an offset begins here
pub record BeginsAt (f : FoundFile) (offset start : ℕ) : Type 0 where
  pub number : ℕ
  pub covers : CoversAt offset (file_occs f.tree) number
  pub begins : HoldsAt (λ o. o.span.start ≡ start) (file_occs f.tree) number
