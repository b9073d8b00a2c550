-- Which values are assignable to variables of a type, as a test: the Go specification, "Assignability".
use Rattle.std.specs.Prelude.{Bool, true, false, not, ◌&&◌, ◌||◌, List}
use Rattle.go_term_core.specs.declared.term.Basic.{Basic}
use Rattle.go_term_core.specs.declared.term.Basic.TheVariants as basics
use Rattle.go_term_core.specs.Terms.{Term, NoType, Predeclared, ErrorType, Defined, PointerTo, StructOf, InterfaceOf}
use Rattle.go_table_core.specs.Entries.{Entry, EntryLook, find_entry, underlying_in}
use Rattle.go_table_core.specs.Assign.{Assigned, AValue, ANil, AnInteger, AText, ABoolean, is_named}
use Rattle.go_denote_core.specs.operand_core.Values.{is_basic}
use Rattle.go_handle_core.specs.deciding.Identity.{identical_of, identical_under_of}
use Rattle.go_handle_core.specs.deciding.Conversion.{is_type_term}
use Rattle.go_handle_core.specs.deciding.Implementing.{implements_of}

-- the type of what is assigned: of an untyped one its default type; nil has none
abbrev pub assigned_type : Assigned → Term
assigned_type (AValue t) = t
assigned_type ANil = NoType
assigned_type AnInteger = Predeclared basics.Int
assigned_type AText = Predeclared basics.Text
assigned_type ABoolean = Predeclared basics.Bool

abbrev pub is_interface : Term → Bool
is_interface NoType = false
is_interface (Predeclared b) = false
is_interface ErrorType = true
is_interface (Defined k) = false
is_interface (PointerTo t) = false
is_interface (StructOf path fs) = false
is_interface (InterfaceOf path ms) = true

abbrev pub is_pointer : Term → Bool
is_pointer NoType = false
is_pointer (Predeclared b) = false
is_pointer ErrorType = false
is_pointer (Defined k) = false
is_pointer (PointerTo t) = true
is_pointer (StructOf path fs) = false
is_pointer (InterfaceOf path ms) = false

abbrev pub is_predeclared : Basic → Term → Bool
is_predeclared b NoType = false
is_predeclared b (Predeclared c) = is_basic b c
is_predeclared b ErrorType = false
is_predeclared b (Defined k) = false
is_predeclared b (PointerTo t) = false
is_predeclared b (StructOf path fs) = false
is_predeclared b (InterfaceOf path ms) = false

-- identical types, identical underlying types of which one is no name, or an interface type that is implemented
abbrev pub value_fits : EntryLook → Term → Term → Bool → Bool
value_fits look v t implements =
    identical_of v t || ((identical_under_of true (underlying_in look v) (underlying_in look t) && not (is_named v && is_named t)) || (is_interface (underlying_in look t) && implements))

abbrev pub untyped_fits : EntryLook → Basic → Term → Bool → Bool
untyped_fits look b t implements = is_predeclared b (underlying_in look t) || (is_interface (underlying_in look t) && implements)

abbrev pub is_fitting : EntryLook → Assigned → Term → Bool → Bool
is_fitting look (AValue v) t implements = is_type_term look v && value_fits look v t implements
is_fitting look ANil t implements = is_pointer (underlying_in look t) || is_interface (underlying_in look t)
is_fitting look AnInteger t implements = untyped_fits look basics.Int t implements
is_fitting look AText t implements = untyped_fits look basics.Text t implements
is_fitting look ABoolean t implements = untyped_fits look basics.Bool t implements

-- what is assigned may stand in a variable of type t
abbrev pub assignable_of : List Entry → Assigned → Term → Bool
assignable_of es a t = is_type_term (find_entry es) t && is_fitting (find_entry es) a t (implements_of es (assigned_type a) t)
