-- What a call has, and what it denotes.
--
-- docs/RULES.md, "Names, selectors and calls in expressions". The Go specification, "Calls", "Conversions", "Length and capacity",
-- "Handling panics", "Bootstrapping".
use Rattle.std.specs.Prelude.{Bool, true, false, ◌&&◌, ◌==◌, List, [], ◌∷◌, length, Option, Some, None, Result, Ok, Err, is_some, if◌then◌else◌}
use Rattle.std.specs.List.{list_all}
use Rattle.go_text_core.specs.declared.rule.Rule.{Rule}
use Rattle.go_text_core.specs.declared.rule.Rule.TheVariants.{C1, C2, C3, C4}
use Rattle.go_operand_core.specs.declared.types.Operand.{Operand}
use Rattle.go_operand_core.specs.Values.{basic_under}
use Rattle.go_operand_core.specs.Conversions.{convert, length_of}
use Rattle.go_denote_core.specs.Arguments.{fits_type}
use Rattle.go_denote_core.specs.declared.things.Builtin.{Builtin}
use Rattle.go_denote_core.specs.declared.things.Builtin.TheVariants as builtins
use Rattle.go_denote_core.specs.declared.things.Denoted.{Denoted}
use Rattle.go_denote_core.specs.declared.things.Denoted.TheVariants as denotes
use Rattle.go_denote_core.specs.declared.things.Answer.{Answer}
use Rattle.go_denote_core.specs.declared.things.Argument.{Argument}
use Rattle.go_denote_core.specs.declared.things.Argument.TheVariants as arguments
use Rattle.go_denote_core.specs.Look.{Look}
use Rattle.go_denote_core.specs.Answers.{declared, refused, value_of_type}

-- a call without results is no value, and one with a single result is this
abbrev pub of_results : {T S D : Type 0} → S → List (Option T) → Denoted T S D
of_results s [] = denotes.Nothing
of_results s (t ∷ []) = value_of_type false t
of_results s (t ∷ u ∷ more) = denotes.Several s

-- functions and methods

-- a parameter without a type takes each argument
abbrev pub fits_parameter : {T S D P : Type 0} → Look T S D P → Argument T → Option T → Bool
fits_parameter look argument None = true
fits_parameter look argument (Some t) = fits_type look.types t argument

abbrev pub all_fit : {T S D P : Type 0} → Look T S D P → List (Argument T) → List (Option T) → Bool
all_fit look [] params = true
all_fit look (argument ∷ more) [] = true
all_fit look (argument ∷ more) (param ∷ params) = fits_parameter look argument param && all_fit look more params

abbrev pub func_call : {T S D P : Type 0} → Look T S D P → D → S → List (Argument T) → Answer T S D P
func_call look d s given =
    if length given == length (look.names.params s)
    then (if all_fit look given (look.names.params s) then declared d (of_results s (look.names.results s)) else refused C3)
    else refused C2

-- conversions

abbrev pub of_conversion : {T S D P : Type 0} → D → Result (Operand T) Rule → Answer T S D P
of_conversion d (Ok operand) = declared d (denotes.«Value» operand)
of_conversion d (Err rule) = refused rule

-- A refused argument breaks no rule: what comes is a value of the type. What is declared as a type and is none takes no value.
abbrev pub convert_argument : {T S D P : Type 0} → Look T S D P → D → Option T → Argument T → Answer T S D P
convert_argument look d t arguments.Refused = declared d (value_of_type false t)
convert_argument look d t arguments.Void = refused C4
convert_argument look d None (arguments.«Value» operand) = refused C4
convert_argument look d (Some t) (arguments.«Value» operand) = of_conversion d (convert look.types operand t)

abbrev pub conversion : {T S D P : Type 0} → Look T S D P → D → Option T → List (Argument T) → Answer T S D P
conversion look d t [] = refused C2
conversion look d t (argument ∷ []) = convert_argument look d t argument
conversion look d t (first ∷ second ∷ more) = refused C2

-- predeclared functions

abbrev pub of_length : {T S D P : Type 0} → D → Option (Operand T) → Answer T S D P
of_length d None = refused C3
of_length d (Some operand) = declared d (denotes.«Value» operand)

-- the length of a string; of a refused argument it is an integer, not constant
abbrev pub length_argument : {T S D P : Type 0} → Look T S D P → D → Argument T → Answer T S D P
length_argument look d arguments.Refused = declared d (value_of_type false (Some look.types.int))
length_argument look d arguments.Void = refused C3
length_argument look d (arguments.«Value» operand) = of_length d (length_of look.types operand)

abbrev pub length_call : {T S D P : Type 0} → Look T S D P → D → List (Argument T) → Answer T S D P
length_call look d [] = refused C2
length_call look d (argument ∷ []) = length_argument look d argument
length_call look d (first ∷ second ∷ more) = refused C2

abbrev pub panic_call : {T S D P : Type 0} → Look T S D P → D → List (Argument T) → Answer T S D P
panic_call look d [] = refused C2
panic_call look d (argument ∷ []) = if fits_type look.types look.types.any argument then declared d denotes.Nothing else refused C3
panic_call look d (first ∷ second ∷ more) = refused C2

-- over bool, int or string
abbrev pub is_printable : {T S D P : Type 0} → Look T S D P → Argument T → Bool
is_printable look arguments.Refused = true
is_printable look arguments.Void = false
is_printable look (arguments.«Value» operand) = is_some (basic_under look.types operand.value_type)

abbrev pub print_call : {T S D P : Type 0} → Look T S D P → D → List (Argument T) → Answer T S D P
print_call look d given = if list_all (is_printable look) given then declared d denotes.Nothing else refused C3

abbrev pub builtin_call : {T S D P : Type 0} → Look T S D P → D → Builtin → List (Argument T) → Answer T S D P
builtin_call look d builtins.Len given = length_call look d given
builtin_call look d builtins.Panic given = panic_call look d given
builtin_call look d builtins.Print given = print_call look d given

-- calls

-- a call whose arguments are judged
abbrev pub judged_call : {T S D P : Type 0} → Look T S D P → Denoted T S D → List (Argument T) → Answer T S D P
judged_call look (denotes.«Type» d t) given = conversion look d t given
judged_call look (denotes.Func d s) given = func_call look d s given
judged_call look (denotes.Builtin d b) given = builtin_call look d b given
judged_call look denotes.Refused given = refused C1
judged_call look denotes.Typeless given = refused C1
judged_call look (denotes.«Package» p) given = refused C1
judged_call look (denotes.«Value» operand) given = refused C1
judged_call look (denotes.Several s) given = refused C1
judged_call look denotes.Nothing given = refused C1

abbrev pub of_builtin : {T S D P : Type 0} → Look T S D P → Builtin → Denoted T S D
of_builtin look builtins.Len = value_of_type false (Some look.types.int)
of_builtin look builtins.Panic = denotes.Nothing
of_builtin look builtins.Print = denotes.Nothing

-- a call whose only argument is a refused call: nothing is known of its arguments, and they break no rule
abbrev pub free_call : {T S D P : Type 0} → Look T S D P → Denoted T S D → Answer T S D P
free_call look (denotes.«Type» d t) = declared d (value_of_type false t)
free_call look (denotes.Func d s) = declared d (of_results s (look.names.results s))
free_call look (denotes.Builtin d b) = declared d (of_builtin look b)
free_call look denotes.Refused = refused C1
free_call look denotes.Typeless = refused C1
free_call look (denotes.«Package» p) = refused C1
free_call look (denotes.«Value» operand) = refused C1
free_call look (denotes.Several s) = refused C1
free_call look denotes.Nothing = refused C1

-- what a call has
abbrev pub call_answer : {T S D P : Type 0} → Look T S D P → Denoted T S D → Bool → List (Argument T) → Answer T S D P
call_answer look callee is_free given = if is_free then free_call look callee else judged_call look callee given
