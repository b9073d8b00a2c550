-- Answers of a look, as those of the session that took it.
use Rattle.std.proofs.Common.{◌≡◌, ℕ, List, Result, Ok, Err, inr, subst}
use Rattle.go_path_core.specs.text_core.declared.rule.Rule.{Rule}
use Rattle.go_batch_core.specs.snap_core.Snapshots.{SnapshotModel}
use Rattle.go_hall_core.specs.submit_core.Published.{BeginsWith}
use Rattle.go_hall_core.specs.submit_core.declared.published.PublishedBatch.{PublishedBatch}
use Rattle.go_session_core.specs.queries.Asked.{BeginsTold, IsAnswer}
use Rattle.go_session_core.specs.queries.Looked.{Looked, looked_with}

pub answer_on : {X : Type 0} (look : Looked) (own path : List ℕ) (board : List PublishedBatch) (Answers : SnapshotModel → Result X Rule → Type 0) (r : Result (ℕ × X) Rule) → IsAnswer look.own path look.board Answers r → look ≡ looked_with own board → IsAnswer own path board Answers r
answer_on look own path board Answers r answer is = subst (λ (l : Looked). IsAnswer l.own path l.board Answers r) is answer

pub begins_told : {X : Type 0} (r : Result X Rule) (board told : List PublishedBatch) → BeginsWith board told → BeginsTold r board told
begins_told (Ok x) board told begins = begins
begins_told (Err rule) board told begins = inr begins
