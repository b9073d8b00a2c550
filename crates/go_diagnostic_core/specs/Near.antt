-- Names that are spelled nearly alike.
use Rattle.std.specs.Prelude.{◌≡◌, ◌⊎◌, ◌≤◌, ◌<◌, ◌-◌, ◌/◌, ℕ, List, Contains, All, Option, Some, None, MatchOption, if◌then◌else◌, length, map, nat_lt, nat_le}
use Rattle.std.specs.Char.{to_ascii_lowercase}
use Rattle.std.specs.Str.{chars}
use Rattle.strsim.specs.Edits.{osa_table}

-- how many letters may be amiss in a spelling: none of up to two, one of up to five, and of more a third
abbrev pub reach : List ℕ → ℕ
reach spelled = if nat_lt (length spelled) 3 then 0 else (if nat_lt (length spelled) 6 then 1 else length spelled / 3)

-- two texts that differ in upper and lower case of ASCII letters alone
abbrev pub SameButForCase : List ℕ → List ℕ → Type 0
SameButForCase one other = map to_ascii_lowercase one ≡ map to_ascii_lowercase other

-- how many letters are to be put in, taken away or changed, or two neighbours exchanged, to make one text of another
abbrev pub edits : List ℕ → List ℕ → ℕ
edits spelled name = (osa_table (chars spelled) (chars name)).last_row (length (chars name))

-- how far a name is from a spelling
abbrev pub IsDistance : List ℕ → List ℕ → ℕ → Type 0
IsDistance spelled name far = (SameButForCase spelled name × (far ≡ 0)) ⊎ ((SameButForCase spelled name → ⊥) × (far ≡ edits spelled name))

-- a name that may be meant by another spelling, and how far it is
pub record IsNear (spelled name : List ℕ) (far : ℕ) : Type 0 where
  pub another : spelled ≡ name → ⊥
  pub longer : length name - length spelled ≤ reach spelled
  pub shorter : length spelled - length name ≤ reach spelled
  pub away : IsDistance spelled name far
  pub within : far ≤ reach spelled

-- of several names one that is as near to a spelling as any, with how far it is; none where none is near
abbrev pub IsBest : List ℕ → List (List ℕ) → Option (List ℕ × ℕ) → Type 0
IsBest spelled names None = All (λ name. (far : ℕ) → IsNear spelled name far → ⊥) names
IsBest spelled names (Some best) = Contains names best.0 × IsNear spelled best.0 best.1 × All (λ name. (far : ℕ) → IsNear spelled name far → best.1 ≤ far) names

-- a name that is as near to a spelling as any of these, and near
abbrev pub IsNearest : List ℕ → List (List ℕ) → List ℕ → Type 0
IsNearest spelled names name = (far : ℕ) × IsBest spelled names (Some (name, far))

-- none of these names is near to a spelling
abbrev pub HasNoneNear : List ℕ → List (List ℕ) → Type 0
HasNoneNear spelled names = IsBest spelled names None

-- of several names the one that is nearest to a spelling, or none where none is near
abbrev pub IsSuggested : List ℕ → List (List ℕ) → Option (List ℕ) → Type 0
IsSuggested spelled names found = MatchOption found (HasNoneNear spelled names) (IsNearest spelled names)

-- how a name is longer, or shorter, than a spelling by so much that it is not near
abbrev pub IsOfOtherLength : List ℕ → List ℕ → Type 0
IsOfOtherLength spelled name = (reach spelled < length name - length spelled) ⊎ (reach spelled < length spelled - length name)

abbrev pub IsOfLikeLength : List ℕ → List ℕ → Type 0
IsOfLikeLength spelled name = (length name - length spelled ≤ reach spelled) × (length spelled - length name ≤ reach spelled)

-- the nearer of two names with how far they are
abbrev pub nearer : Option (List ℕ × ℕ) → List ℕ → ℕ → Option (List ℕ × ℕ)
nearer None name far = Some (name, far)
nearer (Some best) name far = if nat_le best.1 far then Some best else Some (name, far)
