-- How much each node waits for.
use Rattle.std.specs.Prelude.{◌≡◌, ◌<◌, ◌≤◌, ℕ, zero, suc, ◌+◌, nat_eq, if◌then◌else◌, List, [], ◌∷◌, Option, Some, None, All, ⊤, length, slice_get, slice_index}
use Rattle.go_digraph_core.specs.declared.ready_queue.mark.Mark.{Mark}
use Rattle.go_digraph_core.specs.declared.ready_queue.mark.Mark.TheVariants.{Absent, Waiting, Taken, Finished}

-- 1 where they are the same
abbrev pub once : ℕ → ℕ → ℕ
once n k = if nat_eq n k then 1 else 0

-- how often a number stands in a list
abbrev pub times : ℕ → List ℕ → ℕ
times n [] = 0
times n (k ∷ ks) = once n k + times n ks

-- what of these needs is left
abbrev pub left : Mark → ℕ → ℕ
left Absent k = k
left Waiting k = k
left Taken k = k
left Finished k = 0

-- how often a node needs one that is not finished
abbrev pub owed : ℕ → List Mark → List (List ℕ) → ℕ
owed n [] rows = 0
owed n (m ∷ ms) [] = 0
owed n (m ∷ ms) (r ∷ rows) = left m (times n r) + owed n ms rows

-- how often a node needs another
abbrev pub total : ℕ → List (List ℕ) → ℕ
total n [] = 0
total n (r ∷ rows) = times n r + total n rows

-- 1 for a node that is not taken and waits for nothing
abbrev pub turn : Option Mark → ℕ → ℕ
turn None k = 0
turn (Some Absent) k = 0
turn (Some Waiting) zero = 1
turn (Some Waiting) (suc k) = 0
turn (Some Taken) k = 0
turn (Some Finished) k = 0

-- exactly those that are ready stand in the queue, once
pub record AreQueued (marks : List Mark) (missing queue : List ℕ) : Type 0 where
  pub each : (n : ℕ) → times n queue ≡ turn (slice_get marks n) (slice_index missing n)

-- all that need something are nodes
pub record AreNodes (count : ℕ) (rows : List (List ℕ)) : Type 0 where
  pub within : All (All (λ (k : ℕ). k < count)) rows

pub record AreCounted (marks : List Mark) (rows : List (List ℕ)) (missing : List ℕ) : Type 0 where
  pub many : length missing ≡ length marks
  pub each : (n : ℕ) → slice_index missing n ≡ owed n marks rows

-- what the type keeps
pub record AreKept (marks : List Mark) (rows : List (List ℕ)) (missing queue : List ℕ) (room : ℕ) : Type 0 where
  pub many : length rows ≡ length marks
  pub nodes : AreNodes (length marks) rows
  pub counted : AreCounted marks rows missing
  pub queued : AreQueued marks missing queue
  pub has_room : length marks ≤ room

abbrev pub IsUntaken : Mark → Type 0
IsUntaken Absent = ⊤
IsUntaken Waiting = ⊤
IsUntaken Taken = ⊥
IsUntaken Finished = ⊥

-- none is taken or finished
pub record AreFresh (marks : List Mark) : Type 0 where
  pub each : All IsUntaken marks
