-- The folder that a word names.
use Rattle.std.specs.Prelude.{◌≡◌, ◌≢◌, ◌⊎◌, ◌==◌, ℕ, List, [], ◌++◌, length, codes, if◌then◌else◌}

-- what stands in front of three dots; of the root, itself
abbrev pub or_root : List ℕ → List ℕ
or_root rest = if length rest == 0 then codes "/" else rest

-- `...` alone is the folder that the program runs in, and what stands in front of `/...` is named with all below it; any other word is a folder's
pub data IsNamedFolder (word folder : List ℕ) : Type 0 where
  IsHere : word ≡ codes "..." → folder ≡ codes "." → IsNamedFolder word folder
  IsWithAll : (rest : List ℕ) → word ≡ rest ++ codes "/..." → folder ≡ or_root rest → IsNamedFolder word folder
  IsItself : ((rest : List ℕ) → word ≢ rest ++ codes "/...") → folder ≡ word → IsNamedFolder word folder
