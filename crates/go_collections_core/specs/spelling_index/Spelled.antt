-- Where names stand in a list.
use Rattle.std.specs.Prelude.{◌≡◌, ℕ, ◌+◌, Bool, true, false, List, [], ◌∷◌, map, Option, Some, None, string_bytes, if◌then◌else◌}
use Rattle.std.specs.Str.{bytes_eq}
use Rattle.std.specs.Map.{lookup}
use Rattle.go_collections_core.specs.declared.spelling_index.spellings.Spelling.{Spelling}
use Rattle.go_collections_core.specs.declared.spelling_index.spellings.Spellings.{Spellings}

-- the first place of a name, and whether it stands at another
abbrev pub spelling : ℕ → Bool → Spelling
spelling first is_repeated = record { first = first; is_repeated = is_repeated }

-- what is known of a name by two parts of a list, one behind the other
abbrev pub joined : Option Spelling → Option Spelling → Option Spelling
joined None b = b
joined (Some a) None = Some a
joined (Some a) (Some b) = Some (spelling a.first true)

abbrev pub spelled_if : ℕ → Bool → Option Spelling
spelled_if at b = if b then Some (spelling at false) else None

-- where a name stands in a list of names that begins at a place
abbrev pub spelled_from : ℕ → List (List ℕ) → List ℕ → Option Spelling
spelled_from k [] name = None
spelled_from k (n ∷ ns) name = joined (spelled_if k (bytes_eq name n)) (spelled_from (k + 1) ns name)

abbrev pub spelled : List (List ℕ) → List ℕ → Option Spelling
spelled names name = spelled_from 0 names name

-- names with where they stand, and what is looked up there
abbrev pub places_of : Spellings → List (List ℕ × Spelling)
places_of s = map (λ e. (string_bytes e.0, e.1)) s.places.entries

abbrev pub spelled_in : List (List ℕ × Spelling) → List ℕ → Option Spelling
spelled_in ps name = lookup (bytes_eq name) ps

-- each name is found where it stands in the list
abbrev pub AreSpelled : List (List ℕ × Spelling) → List (List ℕ) → Type 0
AreSpelled ps names = (name : List ℕ) → spelled_in ps name ≡ spelled names name
