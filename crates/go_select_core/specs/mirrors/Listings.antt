-- What is listed of the identifiers that are known.
use Rattle.std.specs.Prelude.{◌≡◌, ◌<◌, ℕ, Bool, true, false, not, ◌&&◌, ◌||◌, List, [], ◌∷◌, ◌++◌, length, get_or, slice_get, Option, Some, None, Contains, AllPairs, ⊤}
use Rattle.std.specs.List.Sorted.{IsStrictlySortedBy}
use Rattle.std.specs.Map.{keys_of}
use Rattle.std.specs.Str.{bytes_eq, chars}
use Rattle.go_path_core.specs.text_core.Text.{exported, SameId, is_blank}
use Rattle.go_path_core.specs.text_core.declared.name.Name.{Name}
use Rattle.go_term_core.specs.Terms.{Term}
use Rattle.go_embed_core.specs.table_core.Entries.{EntryLook}
use Rattle.go_embed_core.specs.declared.member.Member.{Member}
use Rattle.go_embed_core.specs.Owners.{Found, AFieldOf, AMethodOf, AnInterfaces, TheErrorMethod}
use Rattle.go_embed_core.specs.OwnersShown.{found_shown, name_shown, member_package_shown}
use Rattle.go_select_core.specs.declared.levels.level.Reached.{Reached}
use Rattle.go_select_core.specs.declared.names.Known.{Known}
use Rattle.go_select_core.specs.declared.names.Known.TheVariants.{One, More}
use Rattle.go_select_core.specs.declared.levels.search.Selected.{Selected}
use Rattle.go_select_core.specs.levels.Paths.{IsSelected}
use Rattle.go_select_core.specs.levels.Selectors.{IsFieldFound, IsSelectedAs}
use Rattle.go_select_core.specs.Selections.{IsSelectedBefore}
use Rattle.go_select_core.specs.mirrors.Names.{Identifier, Key, names_shown, known_of, key_cmp}

-- a member that is known alone is of a type that is there
abbrev pub IsWithin : List Reached → Known → Type 0
IsWithin types (One n m) = n < length types
IsWithin types More = ⊤

abbrev pub AreWithin : List Reached → List (Identifier × Known) → Type 0
AreWithin types ns = (id : Identifier) (known : Known) → known_of ns id ≡ Some known → IsWithin types known

abbrev pub is_field_found : Found → Bool
is_field_found (AFieldOf path place t) = true
is_field_found (AMethodOf path place pointer g) = false
is_field_found (AnInterfaces path place g) = false
is_field_found TheErrorMethod = false

abbrev pub selected_at : List ℕ → Bool → Member → Option Reached → List Selected
selected_at path by_pointer m None = []
selected_at path by_pointer m (Some r) = record { member = m; path = path; through_pointer = by_pointer || r.pointer } ∷ []

abbrev pub listed_if : Bool → List Selected → List Selected
listed_if true item = item
listed_if false item = []

-- what is listed of what is known
abbrev pub entry_listed : List (List ℕ) → List Reached → Bool → Bool → Known → List Selected
entry_listed paths types by_pointer with_methods More = []
entry_listed paths types by_pointer with_methods (One n m) =
    listed_if (not (is_blank (name_shown m)) && (with_methods || is_field_found (found_shown m))) (selected_at (get_or paths n []) by_pointer m (slice_get types n))

abbrev pub listed_of : List (List ℕ) → List Reached → Bool → Bool → List (Identifier × Known) → List Selected
listed_of paths types by_pointer with_methods [] = []
listed_of paths types by_pointer with_methods (e ∷ es) = entry_listed paths types by_pointer with_methods e.1 ++ listed_of paths types by_pointer with_methods es

-- all that is listed of the identifiers of a map
pub record AreListed (paths : List (List ℕ)) (types : List Reached) (by_pointer with_methods : Bool) (es : List (Key × Known)) (found : List Selected) : Type 0 where
  pub ordered : IsStrictlySortedBy key_cmp (keys_of es)
  pub is : found ≡ listed_of paths types by_pointer with_methods (names_shown es)

-- where methods are left out, a field
abbrev pub IsShown : Bool → Found → Type 0
IsShown true f = ⊤
IsShown false f = IsFieldFound f

-- all that selectors denote in a type, with fields alone or with methods too
pub record AreSelectionsIn (look : EntryLook) (t : Term) (by_pointer with_methods : Bool) (found : List Selected) : Type 0 where
  pub rising : AllPairs IsSelectedBefore found
  pub seen : (s : Selected) → Contains found s → (name from : List ℕ) → SameId (name_shown s.member) (member_package_shown s.member) name from
      → (is_blank name ≡ false) × IsSelectedAs look t by_pointer name from s × IsShown with_methods (found_shown s.member)
  pub whole : (name from path : List ℕ) (pointer : Bool) (f : Found) → is_blank name ≡ false → IsSelected look t name from path pointer f → IsShown with_methods f
      → (s : Selected) × Contains found s × SameId (name_shown s.member) (member_package_shown s.member) name from

-- whether an identifier that is written in a package may name what is selected
abbrev pub is_seen : List ℕ → Selected → Bool
is_seen from s = exported (chars (name_shown s.member)) || bytes_eq (member_package_shown s.member) from

abbrev pub named_if : Bool → Selected → List (Name × Selected)
named_if true s = (name_shown s.member, s) ∷ []
named_if false s = []

-- those of selections, with their names
abbrev pub seen_of : List ℕ → List Selected → List (Name × Selected)
seen_of from [] = []
seen_of from (s ∷ ss) = named_if (is_seen from s) s ++ seen_of from ss
