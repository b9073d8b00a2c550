-- The names of the embedded fields along a path.
use Rattle.std.specs.Prelude.{ℕ, zero, suc, List, [], ◌∷◌, ◌++◌, Option, Some, None, option_to_list}
use Rattle.go_term_core.specs.Terms.{Term, NoType, Predeclared, ErrorType, Defined, PointerTo, StructOf, InterfaceOf, Fields, NoField, AField}
use Rattle.go_embed_core.specs.table_core.Entries.{EntryLook, underlying_in}
use Rattle.go_embed_core.specs.Owners.{EmbeddedEdge, owner_in, embeds_at}

-- the name of the field at a place, and none where no field is there
abbrev pub field_name_at : Fields → ℕ → Option (List ℕ)
field_name_at NoField i = None
field_name_at (AField name place embedded t tag fs) zero = Some name
field_name_at (AField name place embedded t tag fs) (suc i) = field_name_at fs i

abbrev pub term_field_name : Term → ℕ → Option (List ℕ)
term_field_name NoType i = None
term_field_name (Predeclared b) i = None
term_field_name ErrorType i = None
term_field_name (Defined k) i = None
term_field_name (PointerTo t) i = None
term_field_name (StructOf path fs) i = field_name_at fs i
term_field_name (InterfaceOf path ms) i = None

-- the type that an embedded field has, without its star; none where the field is none
abbrev pub embedded_target : Option EmbeddedEdge → Term
embedded_target None = NoType
embedded_target (Some e) = e.target

-- of each step the name of the field at its place, and on from the type that the field embeds
abbrev pub names_along : EntryLook → Term → List ℕ → List (List ℕ)
names_along look t [] = []
names_along look t (i ∷ steps) = option_to_list (term_field_name (underlying_in look t) i) ++ names_along look (embedded_target (embeds_at (owner_in look t) i)) steps
