-- What types mean that are names alone.
use Rattle.std.specs.Prelude.{Option, Some, None}
use Rattle.go_term_core.specs.decl_core.declared.keys.DeclKey.{DeclKey}
use Rattle.go_term_core.specs.Terms.{Term, NoType, Predeclared, ErrorType, Defined, PointerTo, StructOf, InterfaceOf}

-- what a type means that is a name alone, or none where it is no name
abbrev pub named_target : (DeclKey → Term) → Term → Option Term
named_target mean NoType = None
named_target mean (Predeclared b) = None
named_target mean ErrorType = None
named_target mean (Defined k) = Some (mean k)
named_target mean (PointerTo t) = None
named_target mean (StructOf path fs) = None
named_target mean (InterfaceOf path ms) = None
