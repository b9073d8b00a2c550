-- What declarations come to in code.
--
-- docs/RULES.md, "Stack code". The Go specification, "Constants", "Variables", "Predeclared identifiers".
use Rattle.std.specs.Prelude.{ℕ, true, false, Option, Some, None, List}
use Rattle.go_universe_core.specs.declared.Predeclared.{Predeclared}
use Rattle.go_universe_core.specs.declared.Predeclared.TheVariants as predeclared
use Rattle.go_term_core.specs.Terms.{Term}
use Rattle.go_constant_core.specs.declared.values.Constant.{Constant}
use Rattle.go_constant_core.specs.declared.values.Constant.TheVariants as values
use Rattle.go_expr_core.specs.operand_core.declared.types.Operand.{Operand}
use Rattle.go_table_core.specs.Entries.{Entry}
use Rattle.go_declared_core.specs.declared.face.Face.TheVariants as faces
use Rattle.go_declared_core.specs.Faces.{TheFace}
use Rattle.go_object_core.specs.declared.instructions.letters.Word.{Word}
use Rattle.go_object_core.specs.declared.instructions.letters.Word.TheVariants as words
use Rattle.go_code_core.specs.declared.fragments.names.ConstantWord.TheVariants as constants
use Rattle.go_code_core.specs.declared.fragments.names.Meaning.{Meaning}
use Rattle.go_code_core.specs.declared.fragments.names.Meaning.TheVariants as meanings
use Rattle.go_emit_core.specs.meaning.Words.{some_word, value_word, sign_gives}

-- a constant, by its value
abbrev pub constant_meaning : Constant → Meaning
constant_meaning (values.Int z) = meanings.Constant (constants.Int z)
constant_meaning (values.Bool b) = meanings.Constant (constants.Bool b)
constant_meaning (values.Text t) = meanings.Other
constant_meaning values.Unknown = meanings.Other

abbrev pub type_meaning : Option Word → Meaning
type_meaning None = meanings.Other
type_meaning (Some w) = meanings.«Type» w

abbrev pub variable_meaning : ℕ → Option Word → Meaning
variable_meaning at None = meanings.Other
variable_meaning at (Some w) = meanings.Variable at w

-- a constant, or else this
abbrev pub constant_meaning_or : Option Constant → Meaning → Meaning
constant_meaning_or None m = m
constant_meaning_or (Some c) m = constant_meaning c

-- a constant of a package; of its variables no code is made
abbrev pub value_meaning : Option (Operand Term) → Meaning
value_meaning None = meanings.Other
value_meaning (Some o) = constant_meaning_or o.constant meanings.Other

-- a declaration of a package outside functions, over the types of a table
abbrev pub face_meaning : List Entry → TheFace → Meaning
face_meaning es (faces.«Type» t) = type_meaning (some_word es t)
face_meaning es (faces.Func g) = meanings.Function (sign_gives es g)
face_meaning es (faces.«Value» o) = value_meaning o

abbrev pub some_face_meaning : List Entry → Option TheFace → Meaning
some_face_meaning es None = meanings.Other
some_face_meaning es (Some f) = face_meaning es f

-- a local of a function, which is declared at an offset: a constant with its value, or a variable
abbrev pub local_meaning : List Entry → ℕ → Option (Operand Term) → Meaning
local_meaning es at None = meanings.Other
local_meaning es at (Some o) = constant_meaning_or o.constant (variable_meaning at (value_word es o.value_type))

-- a predeclared name
abbrev pub universe_meaning : Predeclared → Meaning
universe_meaning predeclared.Println = meanings.Println
universe_meaning predeclared.Panic = meanings.Panic
universe_meaning predeclared.True = meanings.Constant (constants.Bool true)
universe_meaning predeclared.False = meanings.Constant (constants.Bool false)
universe_meaning predeclared.Int = meanings.«Type» words.Int
universe_meaning predeclared.Bool = meanings.«Type» words.Bool
universe_meaning _ = meanings.Other
