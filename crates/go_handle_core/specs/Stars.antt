-- Types under stars.
use Rattle.std.specs.Prelude.{ℕ, zero, suc, Option, Some, None}
use Rattle.go_term_core.specs.Terms.{Term, NoType, Predeclared, ErrorType, Defined, PointerTo, StructOf, InterfaceOf}

-- a type with so many stars before it: pointers to pointers to it, so many
abbrev pub starred : ℕ → Term → Term
starred zero t = t
starred (suc n) t = PointerTo (starred n t)

-- what a pointer type, as it is written, points to
abbrev pub base_in : Term → Option Term
base_in NoType = None
base_in (Predeclared b) = None
base_in ErrorType = None
base_in (Defined k) = None
base_in (PointerTo t) = Some t
base_in (StructOf path fs) = None
base_in (InterfaceOf path ms) = None

-- how many stars stand before a type, as it is written
abbrev pub star_count : Term → ℕ
star_count NoType = 0
star_count (Predeclared b) = 0
star_count ErrorType = 0
star_count (Defined k) = 0
star_count (PointerTo t) = suc (star_count t)
star_count (StructOf path fs) = 0
star_count (InterfaceOf path ms) = 0
