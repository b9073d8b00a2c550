-- The order in which names are looked for.
use Rattle.std.specs.Prelude.{◌<◌, ℕ, Bool, List, [], Option, Some, None, length, slice_get, Contains, if◌then◌else◌}
use Rattle.std.specs.Str.{bytes_eq}
use Rattle.std.specs.List.Sorted.{IsSorted}
use Rattle.std.specs.Ordering.{is_lt, nat_cmp, ordering_then}
use Rattle.std.specs.Cmp.Lexicographic.{slice_cmp}
use Rattle.std.specs.declared.cmp.Ordering.{Ordering}
use Rattle.go_decl_core.specs.declared.keys.DeclRef.{DeclRef}

-- names with their declarations
abbrev pub Names : Type 0
Names = List (List ℕ × DeclRef)

abbrev pub spelling_or : Option (List ℕ × DeclRef) → List ℕ
spelling_or None = []
spelling_or (Some e) = e.0

-- the spelling of the name at a place, and nothing past the end
abbrev pub spelling_at : Names → ℕ → List ℕ
spelling_at ns i = spelling_or (slice_get ns i)

abbrev pub text_cmp : List ℕ → List ℕ → Ordering
text_cmp a b = slice_cmp nat_cmp a b

-- places by the spellings of their names, then by number
abbrev pub by_spelling : Names → ℕ → ℕ → Ordering
by_spelling ns a b = ordering_then (text_cmp (spelling_at ns a) (spelling_at ns b)) (nat_cmp a b)

-- the name at a place is spelled before another
abbrev pub is_below : Names → List ℕ → ℕ → Bool
is_below ns name i = is_lt (text_cmp (spelling_at ns i) name)

-- each number below a count
abbrev pub HasPlaces : ℕ → List ℕ → Type 0
HasPlaces count places = (i : ℕ) → i < count → Contains places i

-- the places of names, all of them, in order of spelling
pub record IsNameOrder (ns : Names) (order : List ℕ) : Type 0 where
  pub every : HasPlaces (length ns) order
  pub sorted : IsSorted (by_spelling ns) order

-- a declaration that has this name
abbrev pub decl_if : Option (List ℕ × DeclRef) → List ℕ → Option DeclRef
decl_if None name = None
decl_if (Some e) name = if bytes_eq name e.0 then Some e.1 else None
