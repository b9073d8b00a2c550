-- Underlying types that ask for no method.
use Rattle.std.specs.Prelude.{Bool, true, false}
use Rattle.go_term_core.specs.Terms.{Term, NoType, Predeclared, ErrorType, Defined, PointerTo, StructOf, InterfaceOf, Methods, NoMethod, AMethod}

abbrev pub is_none : Methods → Bool
is_none NoMethod = true
is_none (AMethod name place g ms) = false

abbrev pub asks_nothing : Term → Bool
asks_nothing NoType = true
asks_nothing (Predeclared b) = true
asks_nothing ErrorType = false
asks_nothing (Defined k) = true
asks_nothing (PointerTo t) = true
asks_nothing (StructOf path fs) = true
asks_nothing (InterfaceOf path ms) = is_none ms
