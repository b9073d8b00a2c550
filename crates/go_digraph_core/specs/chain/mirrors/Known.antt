-- What is known of chains while one is followed.
use Rattle.std.specs.Prelude.{◌≡◌, ◌⊎◌, ℕ, Bool, true, false, List, Option, Some, None, Contains, length, slice_get, slice_index_or}
use Rattle.go_digraph_core.specs.chain.Chains.{ChainLeads, EndsAt}

-- the chain from i has no end
abbrev pub IsEndless : List (Option ℕ) → ℕ → Type 0
IsEndless next i = (j : ℕ) → EndsAt next i j → ⊥

-- i leads to the stop, and its follower is on the way or is the stop
pub record IsOnWay (next : List (Option ℕ)) (way : List ℕ) (stop : ℕ) (i : ℕ) : Type 0 where
  pub follower : ℕ
  pub follows : slice_get next i ≡ Some (Some follower)
  pub within : Contains way follower ⊎ (follower ≡ stop)
  pub path : List ℕ
  pub leads : ChainLeads next i path stop

-- ends are right; a number that bears a mark and has no end is on the way, or endless
pub record Known (next : List (Option ℕ)) (marks : List Bool) (ends : List (Option ℕ)) (way : List ℕ) (stop : ℕ) : Type 0 where
  pub marks_len : length marks ≡ length next
  pub ends_len : length ends ≡ length next
  pub sound : (i j : ℕ) → slice_get ends i ≡ Some (Some j) → EndsAt next i j
  pub endless : (i : ℕ) → slice_index_or marks i false ≡ true → slice_get ends i ≡ Some None → Contains way i ⊎ IsEndless next i
  pub on_way : (i : ℕ) → Contains way i → IsOnWay next way stop i

-- no mark is lost
abbrev pub Keeps : List Bool → List Bool → Type 0
Keeps old new = (i : ℕ) → slice_index_or old i false ≡ true → slice_index_or new i false ≡ true
