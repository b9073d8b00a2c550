-- Underlying types as they are compared: that of the predeclared type `error` is an interface type. The Go specification, "Underlying types",
-- "Errors".
use Rattle.std.specs.Prelude.{◌≡◌, ℕ, Bool, List, [], codes}
use Rattle.go_term_core.specs.decl_core.declared.places.DeclKind.TheVariants as kinds
use Rattle.go_term_core.specs.declared.term.Basic.TheVariants as basics
use Rattle.go_term_core.specs.declared.term.MemberPlace.{MemberPlace}
use Rattle.go_term_core.specs.declared.term.MemberPlace.TheVariants as places
use Rattle.go_term_core.specs.Terms.{Term, NoType, Predeclared, ErrorType, Defined, PointerTo, StructOf, InterfaceOf, Methods, NoMethod, AMethod, Sign, SignOf, NoTerm, ATerm}
use Rattle.go_term_core.specs.Identity.{IdenticalBy}

-- no parameter, and one result of type `string`
abbrev pub text_sign : Sign
text_sign = SignOf NoTerm (ATerm (Predeclared basics.Text) NoTerm)

-- the one method `Error() string`, by where it is declared
abbrev pub error_method : MemberPlace → Methods
error_method place = AMethod (codes "Error") place text_sign NoMethod

-- an interface type with exactly this method, wherever it is written
abbrev pub IsErrorInterface : Term → Type 0
IsErrorInterface t = (path : List ℕ) × (place : MemberPlace) × (t ≡ InterfaceOf path (error_method place))

-- an underlying type written out: that of `error` is an interface type with this method. Where that is written and where its method is declared
-- does not count for identity, since the method is exported
abbrev pub written_out : Term → Term
written_out NoType = NoType
written_out (Predeclared b) = Predeclared b
written_out ErrorType = InterfaceOf [] (error_method (places.Declared (record { file = 0; number = 0; kind = kinds.Method })))
written_out (Defined k) = Defined k
written_out (PointerTo t) = PointerTo t
written_out (StructOf path fs) = StructOf path fs
written_out (InterfaceOf path ms) = InterfaceOf path ms

-- underlying types that are identical, where tags count or do not
abbrev pub IdenticalUnder : Bool → Term → Term → Type 0
IdenticalUnder tags t u = IdenticalBy tags (written_out t) (written_out u)
