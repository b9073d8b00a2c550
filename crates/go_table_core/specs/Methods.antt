-- Fields by their names, and which of them stand before a method: by file, then by place there.
use Rattle.std.specs.Prelude.{ℕ, Bool, false, not, ◌&&◌, ◌||◌, List, nat_eq, nat_lt}
use Rattle.std.specs.Str.{bytes_eq}
use Rattle.go_term_core.specs.declared.term.MemberPlace.{MemberPlace}
use Rattle.go_term_core.specs.declared.term.MemberPlace.TheVariants as places
use Rattle.go_term_core.specs.Terms.{Term, NoType, Predeclared, ErrorType, Defined, PointerTo, StructOf, InterfaceOf, Fields, NoField, AField}
use Rattle.go_table_core.specs.Entries.{Member, same_id}

-- a place stands before another of the package: by file, then by place there
abbrev pub is_before : MemberPlace → MemberPlace → Bool
is_before (places.Declared a) (places.Declared b) = nat_lt a.file b.file || (nat_eq a.file b.file && nat_lt a.number b.number)
is_before (places.Declared a) (places.Local b) = false
is_before (places.Local a) (places.Declared b) = false
is_before (places.Local a) (places.Local b) = nat_lt a.file b.file || (nat_eq a.file b.file && nat_lt a.offset b.offset)

-- a field of the same identifier comes before a method of a package. A field of another package does
abbrev pub field_before : List ℕ → List ℕ → Fields → Member → Bool
field_before path fields_path NoField m = false
field_before path fields_path (AField name place embedded t tag fs) m =
    (same_id name fields_path m.name path && (not (bytes_eq fields_path path) || is_before place m.place)) || field_before path fields_path fs m

abbrev pub has_field_before : List ℕ → Term → Member → Bool
has_field_before path (StructOf fields_path fs) m = field_before path fields_path fs m
has_field_before path _ m = false

-- the fields of a struct type, and none of another
abbrev pub term_fields : Term → Fields
term_fields NoType = NoField
term_fields (Predeclared b) = NoField
term_fields ErrorType = NoField
term_fields (Defined k) = NoField
term_fields (PointerTo t) = NoField
term_fields (StructOf path fs) = fs
term_fields (InterfaceOf path ms) = NoField

-- a field is spelled so, be it of this package or not
abbrev pub field_spelled : Fields → List ℕ → Bool
field_spelled NoField name = false
field_spelled (AField n place embedded t tag fs) name = bytes_eq name n || field_spelled fs name
