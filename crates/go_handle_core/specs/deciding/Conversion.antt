-- Which types values are convertible to, beside what is assignable: the Go specification, "Conversions".
use Rattle.std.specs.Prelude.{◌≡◌, Bool, false, not, ◌&&◌, ◌||◌}
use Rattle.go_term_core.specs.Terms.{Term, PointerTo, is_no_type}
use Rattle.go_table_core.specs.Entries.{EntryLook, underlying_in}
use Rattle.go_table_core.specs.Underlying.{IdenticalUnder}
use Rattle.go_table_core.specs.Assign.{IsType}
use Rattle.go_handle_core.specs.deciding.Identity.{identical_under_of}

-- the underlying types are identical apart from tags, and it is one
pub record AreAlike (look : EntryLook) (s t : Term) : Type 0 where
  pub is_type : IsType look s
  pub identical : IdenticalUnder false (underlying_in look s) (underlying_in look t)

-- a value of type s is convertible to t, beside what is assignable and integers that become strings
pub data IsTermConvertible (look : EntryLook) (s t : Term) : Type 0 where
  alike : AreAlike look s t → IsTermConvertible look s t
  -- two pointer types that are not named, by their base types
  pointers : (a b : Term) → s ≡ PointerTo a → t ≡ PointerTo b → AreAlike look a b → IsTermConvertible look s t

-- the same as tests

abbrev pub is_type_term : EntryLook → Term → Bool
is_type_term look t = not (is_no_type (underlying_in look t))

abbrev pub are_alike : EntryLook → Term → Term → Bool
are_alike look s t = is_type_term look s && identical_under_of false (underlying_in look s) (underlying_in look t)

abbrev pub pointers_alike : EntryLook → Term → Term → Bool
pointers_alike look (PointerTo a) (PointerTo b) = are_alike look a b
pointers_alike look _ _ = false

abbrev pub convertible_of : EntryLook → Term → Term → Bool
convertible_of look s t = are_alike look s t || pointers_alike look s t
