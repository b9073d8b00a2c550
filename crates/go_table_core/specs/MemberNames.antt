-- The names of the members of a type as it is written, in order.
use Rattle.std.specs.Prelude.{ℕ, List, [], ◌∷◌, codes}
use Rattle.go_term_core.specs.Terms.{Term, NoType, Predeclared, ErrorType, Defined, PointerTo, StructOf, InterfaceOf, Fields, NoField, AField, Methods, NoMethod, AMethod}

abbrev pub field_names : Fields → List (List ℕ)
field_names NoField = []
field_names (AField name place embedded t tag fs) = name ∷ field_names fs

abbrev pub method_names : Methods → List (List ℕ)
method_names NoMethod = []
method_names (AMethod name place g ms) = name ∷ method_names ms

-- the fields of a struct type, the methods of an interface type, and the method of `error`
abbrev pub term_names : Term → List (List ℕ)
term_names NoType = []
term_names (Predeclared b) = []
term_names ErrorType = codes "Error" ∷ []
term_names (Defined k) = []
term_names (PointerTo t) = []
term_names (StructOf path fs) = field_names fs
term_names (InterfaceOf path ms) = method_names ms
