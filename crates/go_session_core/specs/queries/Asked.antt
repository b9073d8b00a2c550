-- What sessions are answered that ask of a board.
use Rattle.std.specs.Prelude.{◌≡◌, ◌⊎◌, ℕ, true, List, [], Result, Ok, Err, Some, length}
use Rattle.go_path_core.specs.text_core.declared.rule.Rule.{Rule}
use Rattle.go_path_core.specs.text_core.declared.rule.Rule.TheVariants.{M0, Q1}
use Rattle.go_graph_core.specs.Workspaces.{is_path_inside}
use Rattle.go_session_core.specs.overlay.Places.{IsPlaceRefusal}
use Rattle.go_emit_core.specs.package_core.PackagePartParts.{PartModel}
use Rattle.go_complete_core.specs.snap_core.Snapshots.{IsPartAt, SnapshotModel}
use Rattle.go_board_core.specs.submit_core.Published.{BeginsWith, IsOneWorker, last_of, sources_of}
use Rattle.go_board_core.specs.submit_core.declared.published.PublishedBatch.{PublishedBatch}

-- the snapshot of the last batch of a board, which one worker gives of all batches on it, answers so
pub record IsLastAnswer {X : Type 0} (board : List PublishedBatch) (Answers : SnapshotModel → Result X Rule → Type 0) (r : Result X Rule) : Type 0 where
  pub batch : PublishedBatch
  pub last : last_of board ≡ Some batch
  pub one_worker : IsOneWorker (sources_of board) batch.snapshot
  pub answer : Answers batch.snapshot r

-- what a session of a module is answered that asks of a path, where this is the board that it has entered: the number of batches on it, and what
-- the snapshot of the last one answers; or the first rule that is broken. Before the first batch there is no package
abbrev pub IsAnswer : {X : Type 0} → List ℕ → List ℕ → List PublishedBatch → (SnapshotModel → Result X Rule → Type 0) → Result (ℕ × X) Rule → Type 0
IsAnswer own path board Answers (Ok a) = (is_path_inside own path ≡ true) × (a.0 ≡ length board) × IsLastAnswer board Answers (Ok a.1)
IsAnswer own path board Answers (Err rule) =
    IsPlaceRefusal own path rule
    ⊎ ((rule ≡ Q1) × (is_path_inside own path ≡ true) × (board ≡ []))
    ⊎ ((is_path_inside own path ≡ true) × IsLastAnswer board Answers (Err rule))

-- the board begins with what the session was told of, want of memory apart
abbrev pub BeginsTold : {X : Type 0} → Result X Rule → List PublishedBatch → List PublishedBatch → Type 0
BeginsTold (Ok x) board told = BeginsWith board told
BeginsTold (Err rule) board told = (rule ≡ M0) ⊎ BeginsWith board told

-- the part of the assembled package of a path
abbrev pub IsPartAnswer : List ℕ → SnapshotModel → Result PartModel Rule → Type 0
IsPartAnswer path s (Ok part) = IsPartAt s.sources s.parts path part
IsPartAnswer path s (Err rule) = (rule ≡ M0) ⊎ ((rule ≡ Q1) × ((part : PartModel) → ¬ IsPartAt s.sources s.parts path part))
