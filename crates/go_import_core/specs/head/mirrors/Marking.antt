-- One package beside that of its number in an earlier list.
use Rattle.std.specs.Prelude.{◌≡◌, ◌<◌, ◌≤◌, ◌↔◌, ℕ, Bool, false, List, Some, IsTrue, length, slice_get}
use Rattle.std.specs.Option.{option_map}
use Rattle.go_graph_core.specs.Workspaces.{PackageModel}
use Rattle.go_import_core.specs.head.Heads.{spelled_head_of}
use Rattle.go_import_core.specs.head.Outside.{is_inside_any}

-- whether it is the package of that number
abbrev pub IsMarkOf : List PackageModel → ℕ → PackageModel → Bool → Type 0
IsMarkOf ps n q is = IsTrue is ↔ (slice_get ps n ≡ Some q)

-- whether there is a package of that number whose head is spelled alike
abbrev pub IsHeadOf : List PackageModel → ℕ → PackageModel → Bool → Type 0
IsHeadOf ps n q is = IsTrue is ↔ (option_map spelled_head_of (slice_get ps n) ≡ Some (spelled_head_of q))

-- where two packages have one path, which is inside none of these modules, they have the same files
abbrev pub AreSameTwo : List (List ℕ) → PackageModel → PackageModel → Type 0
AreSameTwo modules p q = p.0 ≡ q.0 → is_inside_any modules q.0 ≡ false → p.1 ≡ q.1

-- the same of the package of that number, if there is one
abbrev pub AreSameTwoAt : List (List ℕ) → List PackageModel → ℕ → PackageModel → Type 0
AreSameTwoAt modules ps n q = (p : PackageModel) → slice_get ps n ≡ Some p → AreSameTwo modules p q

-- number by number the packages of both lists are the same, but from one number up to another
pub record AreSameBut (ps qs : List PackageModel) (low high : ℕ) : Type 0 where
  pub before : (n : ℕ) → n < low → slice_get ps n ≡ slice_get qs n
  pub behind : (n : ℕ) → high ≤ n → n < length qs → slice_get ps n ≡ slice_get qs n
