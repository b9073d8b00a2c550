-- The earliest places of fields by their names.
use Rattle.std.specs.Prelude.{◌≡◌, ℕ, Bool, false, ◌&&◌, ◌||◌, List, [], ◌∷◌, map, Option, Some, None, is_some, nat_eq, nat_lt, if◌then◌else◌}
use Rattle.std.specs.Str.{bytes_eq}
use Rattle.std.specs.BTreeMap.{BTreeMap}
use Rattle.std.specs.Map.{lookup}
use Rattle.std.specs.Borrow.{Bor}
use Rattle.go_term_core.specs.declared.term.MemberPlace.{MemberPlace}
use Rattle.go_term_core.specs.declared.term.MemberPlace.TheVariants as places
use Rattle.go_term_core.specs.Terms.{Term, NoType, Predeclared, ErrorType, Defined, PointerTo, StructOf, InterfaceOf, Fields, NoField, AField}
use Rattle.go_table_core.specs.declared.fields.Spot.{Spot}
use Rattle.go_table_core.specs.declared.fields.Earliest.{Earliest}
use Rattle.go_table_core.specs.Entries.{Member}
use Rattle.go_table_core.specs.Methods.{is_before, field_spelled}

abbrev pub spot : ℕ → ℕ → Spot
spot file at = record { file = file; at = at }

abbrev pub earliest : Option Spot → Option Spot → Earliest
earliest declared local = record { declared = declared; local = local }

abbrev pub spot_before : Spot → Spot → Bool
spot_before a b = nat_lt a.file b.file || (nat_eq a.file b.file && nat_lt a.at b.at)

abbrev pub some_before : Option Spot → Spot → Bool
some_before None q = false
some_before (Some a) q = spot_before a q

-- the earlier of a spot and one that may be
abbrev pub earlier_of : Option Spot → Spot → Spot
earlier_of None s = s
earlier_of (Some f) s = if spot_before s f then s else f

abbrev pub earliest_with : Earliest → MemberPlace → Earliest
earliest_with e (places.Declared d) = earliest (Some (earlier_of e.declared (spot d.file d.number))) e.local
earliest_with e (places.Local p) = earliest e.declared (Some (earlier_of e.local (spot p.file p.offset)))

abbrev pub earliest_before : Earliest → MemberPlace → Bool
earliest_before e (places.Declared d) = some_before e.declared (spot d.file d.number)
earliest_before e (places.Local p) = some_before e.local (spot p.file p.offset)

-- what a table may have at a name
abbrev pub found_or_none : Option Earliest → Earliest
found_or_none None = earliest None None
found_or_none (Some e) = e

abbrev pub found_before : Option Earliest → MemberPlace → Bool
found_before o q = earliest_before (found_or_none o) q

-- the names of a table with their places
abbrev pub named_places : BTreeMap (Bor (List ℕ)) Earliest → List (List ℕ × Earliest)
named_places table = map (λ e. (e.0.now, e.1)) table.entries

abbrev pub found_places : List (List ℕ × Earliest) → List ℕ → Option Earliest
found_places ps name = lookup (bytes_eq name) ps

-- a field of this spelling stands before a place
abbrev pub named_before : Fields → List ℕ → MemberPlace → Bool
named_before NoField name q = false
named_before (AField n place embedded t tag fs) name q = (bytes_eq name n && is_before place q) || named_before fs name q

-- the package where a struct type is written
abbrev pub struct_path : Term → Option (List ℕ)
struct_path NoType = None
struct_path (Predeclared b) = None
struct_path ErrorType = None
struct_path (Defined k) = None
struct_path (PointerTo t) = None
struct_path (StructOf path fs) = Some path
struct_path (InterfaceOf path ms) = None

-- a table has the places of these fields
pub record HasPlaces (ps : List (List ℕ × Earliest)) (fs : Fields) : Type 0 where
  pub before : (name : List ℕ) (q : MemberPlace) → found_before (found_places ps name) q ≡ named_before fs name q
  pub spelled : (name : List ℕ) → is_some (found_places ps name) ≡ field_spelled fs name

-- a table after a field is added to it
pub record AddsField (old new : List (List ℕ × Earliest)) (name : List ℕ) (place : MemberPlace) : Type 0 where
  pub at : (other : List ℕ) → found_places new other ≡ (if bytes_eq other name then Some (earliest_with (found_or_none (found_places old other)) place) else found_places old other)

-- a table that has the places of the fields so far: with those that are left it has all
pub record HasPlacesSoFar (ps : List (List ℕ × Earliest)) (left all : Fields) : Type 0 where
  pub before : (name : List ℕ) (q : MemberPlace) → found_before (found_places ps name) q || named_before left name q ≡ named_before all name q
  pub spelled : (name : List ℕ) → is_some (found_places ps name) || field_spelled left name ≡ field_spelled all name

-- some field is spelled as a method
abbrev pub spells_some : List Member → Fields → Bool
spells_some [] fs = false
spells_some (m ∷ ms) fs = field_spelled fs m.name || spells_some ms fs
