-- Where names of a list are noted: in a few slots that the hash names, or in a map.
use Rattle.std.specs.Prelude.{◌≡◌, ◌+◌, ◌-◌, ◌<◌, ◌≤◌, ◌⊎◌, ℕ, List, Option, Some, None, length, slice_get, if◌then◌else◌, false}
use Rattle.std.specs.BTreeMap.{BTreeMap, get_by_text}
use Rattle.std.specs.Str.{bytes_eq}
use Rattle.std.specs.declared.string.String.{String}
use Rattle.std.specs.Hash as fed
use Rattle.std.specs.Hash.FoldHasher as folding
use Rattle.std.specs.List.{fold}
use Rattle.std.specs.Prelude.{bit_and}
use Rattle.go_collections_core.specs.name_table.Named.{place_of}

-- what is there, if it is the name's
abbrev pub if_named : {V : Type 0} → Option (List ℕ × V) → List ℕ → Option V
if_named None q = None
if_named (Some e) q = if bytes_eq q e.0 then Some e.1 else None

-- what a name has by a place
abbrev pub behind_at : {V : Type 0} → List (List ℕ × V) → List ℕ → Option ℕ → Option V
behind_at names q None = None
behind_at names q (Some p) = if_named (slice_get names p) q

-- what a name has by its place in a map
abbrev pub behind : {Y V : Type 0} → BTreeMap (String Y) ℕ → List (List ℕ × V) → List ℕ → Option V
behind more names q = behind_at names q (get_by_text more q)

abbrev pub hash_of : List ℕ → ℕ
hash_of name = folding.finish (fold folding.write folding.initial (fed.str name))

-- the first of the slots of a name, among so many
abbrev pub start_of : List ℕ → ℕ → ℕ
start_of name len = bit_and (hash_of name) (len - 4)

-- one of the four slots from here on has a place
unfoldable pub IsNear : List ℕ → ℕ → ℕ → Type 0
IsNear slots start i = (start + 4 ≤ length slots) × (m : ℕ) × (start ≤ m) × (m < start + 4) × (slice_get slots m ≡ Some i)

-- a name's place is noted
unfoldable pub IsNoted : {Y : Type 0} → List ℕ → BTreeMap (String Y) ℕ → List ℕ → ℕ → Type 0
IsNoted slots more name i = IsNear slots (start_of name (length slots)) i ⊎ (get_by_text more name ≡ Some i)

-- the place of each name that stands in the list is noted
unfoldable pub ArePlaced : {Y V : Type 0} → List ℕ → BTreeMap (String Y) ℕ → List (List ℕ × V) → Type 0
ArePlaced slots more names = (name : List ℕ) (i : ℕ) → place_of names name ≡ Some i → IsNoted slots more name i

-- a name's place is noted, and of other names each place below it still is
unfoldable pub Noted : {Y : Type 0} → List ℕ → BTreeMap (String Y) ℕ → List ℕ → BTreeMap (String Y) ℕ → List ℕ → ℕ → Type 0
Noted slots more slots' more' name place = IsNoted slots' more' name place × ((q : List ℕ) (i : ℕ) → bytes_eq name q ≡ false → i < place → IsNoted slots more q i → IsNoted slots' more' q i)
