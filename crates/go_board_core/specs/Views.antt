-- What is known of the board.
use Rattle.std.specs.Prelude.{◌≡◌, ℕ, List, [], ◌∷◌}
use mathlib.Core.Option.{some}
use lib.ListN.{get_elem?}
use Rattle.go_submit_core.specs.Published.{BeginsWith}
use Rattle.go_submit_core.specs.declared.published.PublishedBatch.{PublishedBatch}
use Rattle.go_board_core.specs.declared.rule.View.{View}

abbrev pub newcomer : View
newcomer = record { seen = []; told = [] }

-- a view that was told what another saw
abbrev pub informed : View → View → View
informed v w = record { seen = v.seen; told = w.seen }

-- the board begins with all that anyone has seen or was told of
abbrev pub Keeps : List PublishedBatch → List View → Type 0
Keeps board views = (seat : ℕ) (v : View) → get_elem? views seat ≡ some v → BeginsWith board v.seen × BeginsWith board v.told

-- the board y is seen. It begins with what was seen before and with what was told of
abbrev pub Sees : View → List PublishedBatch → List PublishedBatch → View → Type 0
Sees v x y w = BeginsWith y v.seen × BeginsWith y v.told × (w.seen ≡ y) × (w.told ≡ v.told)
