-- The table of the places of a file: numbers and offsets.
use Rattle.std.specs.Prelude.{◌≡◌, ℕ, ◌<◌, List, Option, Some, option_map, slice_get, AllPairs}
use Rattle.go_decl_core.specs.declared.places.Place.{Place}

-- the offset of the identifier with a number
abbrev pub offset_of : List Place → ℕ → Option ℕ
offset_of ps n = option_map (λ p. p.at) (slice_get ps n)

-- the identifier with this number stands at an offset
abbrev pub IsAt : List Place → ℕ → ℕ → Type 0
IsAt ps offset n = offset_of ps n ≡ Some offset

-- no identifier stands at an offset
abbrev pub IsNowhere : List Place → ℕ → Type 0
IsNowhere ps offset = (n : ℕ) → ¬ (offset_of ps n ≡ Some offset)

-- the offsets rise strictly
abbrev pub Rise : List Place → Type 0
Rise ps = AllPairs (λ p q. p.at < q.at) ps
