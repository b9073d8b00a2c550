-- What a name has at a place, and what it denotes there.
--
-- docs/RULES.md, "Names, selectors and calls in expressions". The Go specification, "Operands", "Qualified identifiers".
use Rattle.std.specs.Prelude.{ℕ, Bool, List, Option, Some, None, if◌then◌else◌}
use Rattle.go_text_core.specs.Text.{is_blank}
use Rattle.go_text_core.specs.declared.rule.Rule.{Rule}
use Rattle.go_text_core.specs.declared.rule.Rule.TheVariants.{N1, N4, N5, N6, N7, N8, N9, C1, X1}
use Rattle.go_operand_core.specs.declared.types.Operand.{Operand}
use Rattle.go_operand_core.specs.declared.types.ValueType.TheVariants as value_types
use Rattle.go_denote_core.specs.declared.things.Stand.{Stand}
use Rattle.go_denote_core.specs.declared.things.Stand.TheVariants as stands
use Rattle.go_denote_core.specs.declared.things.Outcome.TheVariants as outcomes
use Rattle.go_denote_core.specs.declared.things.Denoted.{Denoted}
use Rattle.go_denote_core.specs.declared.things.Denoted.TheVariants as denotes
use Rattle.go_denote_core.specs.declared.things.Answer.{Answer}
use Rattle.go_denote_core.specs.declared.things.Found.{Found}
use Rattle.go_denote_core.specs.declared.things.Found.TheVariants as founds
use Rattle.go_denote_core.specs.Look.{Look}

-- a declaration, and what it denotes
abbrev pub declared : {T S D P : Type 0} → D → Denoted T S D → Answer T S D P
declared d denoted = record { outcome = outcomes.Declared d; denoted = denoted }

-- a rule that is broken; what breaks a rule denotes nothing
abbrev pub refused : {T S D P : Type 0} → Rule → Answer T S D P
refused rule = record { outcome = outcomes.Refused rule; denoted = denotes.Refused }

-- a constant, a variable or nil
abbrev pub of_value : {T S D : Type 0} → Option (Operand T) → Denoted T S D
of_value None = denotes.Typeless
of_value (Some operand) = denotes.«Value» operand

-- a value of a type, where there is one, that is not constant
abbrev pub value_of_type : {T S D : Type 0} → Bool → Option T → Denoted T S D
value_of_type is_addressable None = denotes.Typeless
value_of_type is_addressable (Some t) = denotes.«Value» (record { value_type = value_types.Typed t; constant = None; addressable = is_addressable })

-- a package may stand left of a dot alone
abbrev pub package_answer : {T S D P : Type 0} → Stand → D → Answer T S D P
package_answer stands.BeforeDot d = declared d (denotes.«Package» d)
package_answer stands.TypeDot d = declared d (denotes.«Package» d)
package_answer stands.«Type» d = refused N4
package_answer stands.«Value» d = refused N4
package_answer stands.Callee d = refused N4

-- a type may stand where one is wanted, and may be called: a conversion
abbrev pub type_answer : {T S D P : Type 0} → Stand → D → Option T → Answer T S D P
type_answer stands.«Type» d t = declared d (denotes.«Type» d t)
type_answer stands.Callee d t = declared d (denotes.«Type» d t)
type_answer stands.TypeDot d t = refused N5
type_answer stands.«Value» d t = refused N5
type_answer stands.BeforeDot d t = refused N5

-- a function may be called, and be no value
abbrev pub func_answer : {T S D P : Type 0} → Stand → D → Denoted T S D → Answer T S D P
func_answer stands.«Type» d func = refused N6
func_answer stands.TypeDot d func = refused N6
func_answer stands.Callee d func = declared d func
func_answer stands.«Value» d func = refused X1
func_answer stands.BeforeDot d func = refused X1

-- a value is an operand, and no function
abbrev pub value_answer : {T S D P : Type 0} → Stand → D → Option (Operand T) → Answer T S D P
value_answer stands.«Type» d value = refused N6
value_answer stands.TypeDot d value = refused N6
value_answer stands.Callee d value = refused C1
value_answer stands.«Value» d value = declared d (of_value value)
value_answer stands.BeforeDot d value = declared d (of_value value)

abbrev pub found_answer : {T S D P : Type 0} → Stand → Found T S D → Answer T S D P
found_answer place founds.Missing = refused N1
found_answer place founds.BadImport = refused N9
found_answer place founds.Outside = refused N7
found_answer place (founds.«Package» d) = package_answer place d
found_answer place (founds.«Type» d t) = type_answer place d t
found_answer place (founds.Func d s) = func_answer place d (denotes.Func d s)
found_answer place (founds.Builtin d b) = func_answer place d (denotes.Builtin d b)
found_answer place (founds.«Value» d value) = value_answer place d value

-- what a name has at a place
abbrev pub name_answer : {T S D P : Type 0} → Look T S D P → Stand → List ℕ → Answer T S D P
name_answer look place name = if is_blank name then refused N8 else found_answer place (look.names.find name)
