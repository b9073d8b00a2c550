-- Parts that are shared, as far as they are.
use Rattle.std.specs.Prelude.{◌≡◌, ◌<◌, ◌≤◌, ℕ, List, Option, Some, None, length, slice_get}

-- those below a number are shared, and there is none from it on
pub record AreSharedTo {A : Type 0} (parts shared : List (Option A)) (k : ℕ) : Type 0 where
  pub many : length shared ≡ length parts
  pub within : k ≤ length parts
  pub before : (m : ℕ) → m < k → slice_get shared m ≡ slice_get parts m
  pub behind : (m : ℕ) → k ≤ m → m < length parts → slice_get shared m ≡ Some None
