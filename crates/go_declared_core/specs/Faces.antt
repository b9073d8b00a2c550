-- What declarations are to those that name them, over terms.
--
-- docs/RULES.md, "Faces of declarations". The Go specification, "Declarations and scope", "Variables".
use Rattle.std.specs.Prelude.{true, Option, None}
use Rattle.std.specs.Option.{option_map}
use Rattle.go_term_core.specs.declared.term.TypeTerm.{TypeTerm}
use Rattle.go_term_core.specs.declared.term.Signature.{Signature}
use Rattle.go_term_core.specs.Terms.{Term, Sign}
use Rattle.go_term_core.specs.Shapes.{shape, sign_of}
use Rattle.go_operand_core.specs.declared.types.ValueType.{ValueType}
use Rattle.go_operand_core.specs.declared.types.ValueType.TheVariants as value_types
use Rattle.go_operand_core.specs.declared.types.Operand.{Operand}
use Rattle.go_declared_core.specs.declared.face.Face.{Face}
use Rattle.go_declared_core.specs.declared.face.Face.TheVariants as faces

-- what a declaration is, over terms and signatures
abbrev pub TheFace : Type 0
TheFace = Face Term Sign

-- an operand whose type is held, as contracts see it
abbrev pub value_type_shown : ValueType TypeTerm → ValueType Term
value_type_shown (value_types.Typed t) = value_types.Typed (shape t)
value_type_shown value_types.UntypedInt = value_types.UntypedInt
value_type_shown value_types.UntypedText = value_types.UntypedText
value_type_shown value_types.UntypedBool = value_types.UntypedBool
value_type_shown value_types.Nil = value_types.Nil

abbrev pub operand_shown : Operand TypeTerm → Operand Term
operand_shown o = record { value_type = value_type_shown o.value_type; constant = o.constant; addressable = o.addressable }

-- a face that is held, as contracts see it
abbrev pub face_shown : Face TypeTerm Signature → TheFace
face_shown (faces.«Type» t) = faces.«Type» (option_map shape t)
face_shown (faces.Func g) = faces.Func (sign_of g)
face_shown (faces.«Value» o) = faces.«Value» (option_map operand_shown o)

-- a variable of a type, as an operand
abbrev pub face_variable : Term → Operand Term
face_variable t = record { value_type = value_types.Typed t; constant = None; addressable = true }

-- what a variable is, which may have no type
abbrev pub variable_face : Option Term → TheFace
variable_face t = faces.«Value» (option_map face_variable t)
