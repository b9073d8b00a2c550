-- Answers from the last batch of a board.
use Rattle.std.proofs.Common.{◌≡◌, ℕ, true, List, Result, Ok, Err, Some, length, inr, subst}
use Rattle.go_path_core.specs.text_core.declared.rule.Rule.{Rule}
use Rattle.go_graph_core.specs.Workspaces.{is_path_inside}
use Rattle.go_complete_core.specs.snap_core.Snapshots.{SnapshotModel}
use Rattle.go_board_core.specs.submit_core.Published.{IsOneWorker, last_of, sources_of}
use Rattle.go_board_core.specs.submit_core.declared.published.PublishedBatch.{PublishedBatch}
use Rattle.go_session_core.specs.queries.Asked.{IsAnswer, IsLastAnswer}
use Rattle.go_session_core.specs.queries.Looked.{Looked, looked_with}

pub lasts : {X : Type 0} (board : List PublishedBatch) (Answers : SnapshotModel → Result X Rule → Type 0) (r : Result X Rule) (s : SnapshotModel) → ((b : PublishedBatch) × (last_of board ≡ Some b) × IsOneWorker (sources_of board) b.snapshot × (s ≡ b.snapshot)) → Answers s r → IsLastAnswer board Answers r
lasts board Answers r s found answer = record {
  batch = found.0;
  last = found.1;
  one_worker = found.2;
  answer = subst (λ (x : SnapshotModel). Answers x r) found.3 answer;
}

pub answers : {X : Type 0} (own path : List ℕ) (board : List PublishedBatch) (Answers : SnapshotModel → Result X Rule → Type 0) (n : ℕ) (x : X) (s : SnapshotModel) → is_path_inside own path ≡ true → n ≡ length board → ((b : PublishedBatch) × (last_of board ≡ Some b) × IsOneWorker (sources_of board) b.snapshot × (s ≡ b.snapshot)) → Answers s (Ok x) → IsAnswer own path board Answers (Ok (n, x))
answers own path board Answers n x s inside many found answer = (inside, many, lasts board Answers (Ok x) s found answer)

pub refuses : {X : Type 0} (own path : List ℕ) (board : List PublishedBatch) (Answers : SnapshotModel → Result X Rule → Type 0) (rule : Rule) (s : SnapshotModel) → is_path_inside own path ≡ true → ((b : PublishedBatch) × (last_of board ≡ Some b) × IsOneWorker (sources_of board) b.snapshot × (s ≡ b.snapshot)) → Answers s (Err rule) → IsAnswer {X = X} own path board Answers (Err rule)
refuses own path board Answers rule s inside found answer = inr (inr (inside, lasts board Answers (Err rule) s found answer))

-- the same of a look
pub refuses_look : {X : Type 0} (look : Looked) (own path : List ℕ) (board : List PublishedBatch) (Answers : SnapshotModel → Result X Rule → Type 0) (rule : Rule) (s : SnapshotModel) → is_path_inside own path ≡ true → ((b : PublishedBatch) × (last_of board ≡ Some b) × IsOneWorker (sources_of board) b.snapshot × (s ≡ b.snapshot)) → Answers s (Err rule) → looked_with own board ≡ look → IsAnswer {X = X} look.own path look.board Answers (Err rule)
refuses_look look own path board Answers rule s inside found answer is = subst (λ (l : Looked). IsAnswer l.own path l.board Answers (Err rule)) is (refuses own path board Answers rule s inside found answer)

pub answers_look : {X : Type 0} (look : Looked) (own path : List ℕ) (board : List PublishedBatch) (Answers : SnapshotModel → Result X Rule → Type 0) (n : ℕ) (x : X) (s : SnapshotModel) → is_path_inside own path ≡ true → n ≡ length look.board → ((b : PublishedBatch) × (last_of board ≡ Some b) × IsOneWorker (sources_of board) b.snapshot × (s ≡ b.snapshot)) → Answers s (Ok x) → looked_with own board ≡ look → IsAnswer look.own path look.board Answers (Ok (n, x))
answers_look look own path board Answers n x s inside many found answer is =
    subst (λ (l : Looked). n ≡ length l.board → IsAnswer l.own path l.board Answers (Ok (n, x))) is (λ m. answers own path board Answers n x s inside m found answer) many
