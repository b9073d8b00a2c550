-- Which values are assignable to variables of a type: the Go specification, "Assignability".
use Rattle.std.specs.Prelude.{◌≡◌, ◌⊎◌, ⊤, Bool, true, false}
use Rattle.go_term_core.specs.declared.term.Basic.TheVariants as basics
use Rattle.go_term_core.specs.Terms.{Term, NoType, Predeclared, ErrorType, Defined, PointerTo, StructOf, InterfaceOf}
use Rattle.go_term_core.specs.Identity.{Identical}
use Rattle.go_table_core.specs.Entries.{EntryLook, underlying_in}
use Rattle.go_table_core.specs.Underlying.{IdenticalUnder}

-- what is assigned: a value of a type, nil, or an untyped constant or boolean value
pub data Assigned : Type 0 where
  AValue : Term → Assigned
  ANil : Assigned
  AnInteger : Assigned
  AText : Assigned
  ABoolean : Assigned

-- a type whose name is declared or predeclared; `any` is no such type but an interface type as it is written
abbrev pub IsNamed : Term → Type 0
IsNamed (Predeclared b) = ⊤
IsNamed ErrorType = ⊤
IsNamed (Defined k) = ⊤
IsNamed _ = ⊥

-- the same as a test
abbrev pub is_named : Term → Bool
is_named NoType = false
is_named (Predeclared b) = true
is_named ErrorType = true
is_named (Defined k) = true
is_named (PointerTo t) = false
is_named (StructOf path fs) = false
is_named (InterfaceOf path ms) = false

abbrev pub IsInterface : Term → Type 0
IsInterface ErrorType = ⊤
IsInterface (InterfaceOf path ms) = ⊤
IsInterface _ = ⊥

abbrev pub IsPointer : Term → Type 0
IsPointer (PointerTo t) = ⊤
IsPointer _ = ⊥

-- it is a type, and what it is defined by is one
abbrev pub IsType : EntryLook → Term → Type 0
IsType look t = (underlying_in look t ≡ NoType) → ⊥

-- a value of type v is assignable to t
pub data IsValueAssignable (look : EntryLook) (v t : Term) (implements : Type 0) : Type 0 where
  identical : Identical v t → IsValueAssignable look v t implements
  alike : IdenticalUnder true (underlying_in look v) (underlying_in look t) → ((IsNamed v × IsNamed t) → ⊥) → IsValueAssignable look v t implements
  implements_it : IsInterface (underlying_in look t) → implements → IsValueAssignable look v t implements

abbrev pub IsFitting : EntryLook → Assigned → Term → Type 0 → Type 0
IsFitting look (AValue v) t implements = IsType look v × IsValueAssignable look v t implements
IsFitting look ANil t implements = IsPointer (underlying_in look t) ⊎ IsInterface (underlying_in look t)
IsFitting look AnInteger t implements = (underlying_in look t ≡ Predeclared basics.Int) ⊎ (IsInterface (underlying_in look t) × implements)
IsFitting look AText t implements = (underlying_in look t ≡ Predeclared basics.Text) ⊎ (IsInterface (underlying_in look t) × implements)
IsFitting look ABoolean t implements = (underlying_in look t ≡ Predeclared basics.Bool) ⊎ (IsInterface (underlying_in look t) × implements)

abbrev pub IsTermAssignable : EntryLook → Assigned → Term → Type 0 → Type 0
IsTermAssignable look a t implements = IsType look t × IsFitting look a t implements
