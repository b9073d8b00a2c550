-- Names with what is known of each, as levels are gone through.
use Rattle.std.specs.Prelude.{◌≡◌, ◌<◌, ◌≤◌, ◌⊎◌, ℕ, Bool, true, false, ◌&&◌, List, [], map, if◌then◌else◌, length, get_or, Option, Some, None}
use Rattle.std.specs.Borrow.{Bor}
use Rattle.std.specs.declared.cmp.Ordering.{Ordering}
use Rattle.std.specs.Ordering.{nat_cmp, ordering_then}
use Rattle.std.specs.Cmp.Lexicographic.{slice_cmp}
use Rattle.std.specs.Map.{lookup}
use Rattle.std.specs.Str.{bytes_eq, chars}
use Rattle.go_path_core.specs.text_core.Text.{exported}
use Rattle.go_term_core.specs.Terms.{Term}
use Rattle.go_embed_core.specs.table_core.Entries.{EntryLook}
use Rattle.go_embed_core.specs.declared.member.Member.{Member}
use Rattle.go_embed_core.specs.Owners.{Found}
use Rattle.go_embed_core.specs.OwnersShown.{found_shown, name_shown, member_package_shown}
use Rattle.go_select_core.specs.declared.levels.level.Reached.{Reached}
use Rattle.go_select_core.specs.declared.names.Known.{Known}
use Rattle.go_select_core.specs.declared.names.Known.TheVariants.{One, More}
use Rattle.go_select_core.specs.declared.names.Names as declared_names
use Rattle.go_select_core.specs.levels.Paths.{IsSelected}
use Rattle.go_select_core.specs.levels.mirrors.Ways.{At}
use Rattle.go_select_core.specs.levels.mirrors.Levels.{IsNone, IsOnly, IsClash}

-- an identifier: a name, with the path of the package where it is written unless it is exported
abbrev pub Identifier : Type 0
Identifier = List ℕ × List ℕ

abbrev pub identifier_of : List ℕ → List ℕ → Identifier
identifier_of name home = (name, if exported (chars name) then [] else home)

abbrev pub identifier_in : Member → Identifier
identifier_in m = identifier_of (name_shown m) (member_package_shown m)

-- as the code keeps it
abbrev pub Key : Type 0
Key = Bor (List ℕ) × Bor (List ℕ)

abbrev pub key_shown : Key → Identifier
key_shown k = (k.0.now, k.1.now)

abbrev pub key_cmp : Key → Key → Ordering
key_cmp a b = ordering_then (slice_cmp nat_cmp a.0.now b.0.now) (slice_cmp nat_cmp a.1.now b.1.now)

abbrev pub same_identifier : Identifier → Identifier → Bool
same_identifier a b = bytes_eq a.0 b.0 && bytes_eq a.1 b.1

abbrev pub names_shown : List (Key × Known) → List (Identifier × Known)
names_shown es = map (λ e. (key_shown e.0, e.1)) es

abbrev pub names_of : declared_names.Names → List (Identifier × Known)
names_of n = names_shown n.known.entries

abbrev pub known_of : List (Identifier × Known) → Identifier → Option Known
known_of ns id = lookup (same_identifier id) ns

-- what is known of an identifier, and then once a member of the type at a place has it; the types of the level stand from the place first on
abbrev pub IsNoted : Option Known → ℕ → ℕ → Bool → Member → Known → Type 0
IsNoted None first place true m k = k ≡ More
IsNoted None first place false m k = k ≡ One place m
IsNoted (Some (One earlier other)) first place many m k = ((first ≤ earlier) × (k ≡ More)) ⊎ ((earlier < first) × (k ≡ One earlier other))
IsNoted (Some More) first place many m k = k ≡ More

-- the same of all identifiers: what is known of another stays
pub record AreNoted (old : List (Identifier × Known)) (first place : ℕ) (many : Bool) (m : Member) (new : List (Identifier × Known)) : Type 0 where
  pub k : Known
  pub noted : IsNoted (known_of old (identifier_in m)) first place many m k
  pub here : known_of new (identifier_in m) ≡ Some k
  pub others : (id : Identifier) → (identifier_in m ≡ id → ⊥) → known_of new id ≡ known_of old id

-- what the types from a place on say of a name
abbrev pub IsSaid : EntryLook → List ℕ → List ℕ → List Reached → ℕ → Option Known → Type 0
IsSaid look name from types first None = IsNone look name from types first
IsSaid look name from types first (Some (One n m)) = IsOnly look name from types first n (found_shown m)
IsSaid look name from types first (Some More) = IsClash look name from types first

-- what is known of a name before them stays
abbrev pub IsSaidOrKnown : EntryLook → List ℕ → List ℕ → List Reached → ℕ → Option Known → Option Known → Type 0
IsSaidOrKnown look name from types first None new = IsSaid look name from types first new
IsSaidOrKnown look name from types first (Some known) new = new ≡ Some known

abbrev pub AreSaid : EntryLook → List Reached → ℕ → List (Identifier × Known) → List (Identifier × Known) → Type 0
AreSaid look types first old new = (name from : List ℕ) → IsSaidOrKnown look name from types first (known_of old (identifier_of name from)) (known_of new (identifier_of name from))

-- members that are known alone are of types before a place
abbrev pub AreBefore : ℕ → List (Identifier × Known) → Type 0
AreBefore first ns = (id : Identifier) (n : ℕ) (m : Member) → known_of ns id ≡ Some (One n m) → n < first

-- and have the identifier of which they are known
abbrev pub AreNamed : List (Identifier × Known) → Type 0
AreNamed ns = (id : Identifier) (n : ℕ) (m : Member) → known_of ns id ≡ Some (One n m) → identifier_in m ≡ id

abbrev pub NothingSelected : EntryLook → Term → List ℕ → List ℕ → Type 0
NothingSelected look t name from = (path : List ℕ) (pointer : Bool) (f : Found) → IsSelected look t name from path pointer f → ⊥

-- what is known of a name tells what it denotes
abbrev pub IsKnown : EntryLook → Term → List ℕ → List ℕ → List (List ℕ) → List Reached → Option Known → Type 0
IsKnown look t name from paths types None = NothingSelected look t name from
IsKnown look t name from paths types (Some (One n m)) = (r : Reached) × At types n r × IsSelected look t name from (get_or paths n []) r.pointer (found_shown m)
IsKnown look t name from paths types (Some More) = NothingSelected look t name from

pub record AreKnown (look : EntryLook) (t : Term) (paths : List (List ℕ)) (types : List Reached) (ns : List (Identifier × Known)) : Type 0 where
  pub sized : length paths ≡ length types
  pub named : AreNamed ns
  pub each : (name from : List ℕ) → IsKnown look t name from paths types (known_of ns (identifier_of name from))
