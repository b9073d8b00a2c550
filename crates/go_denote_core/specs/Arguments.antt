-- The values that a call is given.
--
-- docs/RULES.md, "Names, selectors and calls in expressions". The Go specification, "Calls": as a special case a call f(g(..)) passes
-- the results of g to the parameters of f in order.
use Rattle.std.specs.Prelude.{Bool, true, false, ◌&&◌, List, [], ◌∷◌, map, Option, Some, None}
use Rattle.go_text_core.specs.declared.rule.Rule.{Rule}
use Rattle.go_text_core.specs.declared.rule.Rule.TheVariants.{Y3}
use Rattle.go_operand_core.specs.declared.types.ValueType.TheVariants as value_types
use Rattle.go_operand_core.specs.TypeRules.{TypeRules}
use Rattle.go_operand_core.specs.Assign.{assignable_to}
use Rattle.go_denote_core.specs.declared.things.Denoted.{Denoted}
use Rattle.go_denote_core.specs.declared.things.Denoted.TheVariants as denotes
use Rattle.go_denote_core.specs.declared.things.Argument.{Argument}
use Rattle.go_denote_core.specs.declared.things.Argument.TheVariants as arguments
use Rattle.go_denote_core.specs.Look.{Look}

-- a result: a value of its type; a result without a type is a refused operand
abbrev pub argument_of_result : {T : Type 0} → Option T → Argument T
argument_of_result None = arguments.Refused
argument_of_result (Some t) = arguments.«Value» (record { value_type = value_types.Typed t; constant = None; addressable = false })

-- a member of a list: a single value, or a refused operand
abbrev pub argument_of : {T S D : Type 0} → Denoted T S D → Argument T
argument_of (denotes.«Value» operand) = arguments.«Value» operand
argument_of denotes.Refused = arguments.Refused
argument_of denotes.Typeless = arguments.Refused
argument_of (denotes.«Package» d) = arguments.Refused
argument_of (denotes.«Type» d t) = arguments.Refused
argument_of (denotes.Several s) = arguments.Refused
argument_of denotes.Nothing = arguments.Refused
argument_of (denotes.Func d s) = arguments.Refused
argument_of (denotes.Builtin d b) = arguments.Refused

-- the only member of a list: a call with several results stands for these, and a call without results is one argument without a value
abbrev pub arguments_alone : {T S D P : Type 0} → Look T S D P → Denoted T S D → List (Argument T)
arguments_alone look (denotes.Several s) = map argument_of_result (look.names.results s)
arguments_alone look denotes.Nothing = arguments.Void ∷ []
arguments_alone look (denotes.«Value» operand) = arguments.«Value» operand ∷ []
arguments_alone look denotes.Refused = arguments.Refused ∷ []
arguments_alone look denotes.Typeless = arguments.Refused ∷ []
arguments_alone look (denotes.«Package» d) = arguments.Refused ∷ []
arguments_alone look (denotes.«Type» d t) = arguments.Refused ∷ []
arguments_alone look (denotes.Func d s) = arguments.Refused ∷ []
arguments_alone look (denotes.Builtin d b) = arguments.Refused ∷ []

-- what a call is given, by what the members of its list denote
abbrev pub arguments_of : {T S D P : Type 0} → Look T S D P → List (Denoted T S D) → List (Argument T)
arguments_of look [] = []
arguments_of look (member ∷ []) = arguments_alone look member
arguments_of look (first ∷ second ∷ more) = map argument_of (first ∷ second ∷ more)

-- an operand that is refused, or what it denotes has no type
abbrev pub is_refused : {T S D : Type 0} → Denoted T S D → Bool
is_refused denotes.Refused = true
is_refused denotes.Typeless = true
is_refused (denotes.«Value» operand) = false
is_refused (denotes.«Package» d) = false
is_refused (denotes.«Type» d t) = false
is_refused (denotes.Several s) = false
is_refused denotes.Nothing = false
is_refused (denotes.Func d s) = false
is_refused (denotes.Builtin d b) = false

-- where a type is wanted; a refused argument breaks no rule
abbrev pub fits_type : {T : Type 0} → TypeRules T → T → Argument T → Bool
fits_type rules t arguments.Refused = true
fits_type rules t arguments.Void = false
fits_type rules t (arguments.«Value» operand) = assignable_to rules operand t

-- what is not one value where one is wanted
abbrev pub single_rule : {T S D : Type 0} → Denoted T S D → Option Rule
single_rule (denotes.Several s) = Some Y3
single_rule denotes.Nothing = Some Y3
single_rule (denotes.«Value» operand) = None
single_rule denotes.Refused = None
single_rule denotes.Typeless = None
single_rule (denotes.«Package» d) = None
single_rule (denotes.«Type» d t) = None
single_rule (denotes.Func d s) = None
single_rule (denotes.Builtin d b) = None

-- the only member is a call, and refused: nobody knows how many values it would have had
abbrev pub is_free : {T S D : Type 0} → Bool → List (Denoted T S D) → Bool
is_free is_lone_call [] = false
is_free is_lone_call (member ∷ []) = is_lone_call && is_refused member
is_free is_lone_call (first ∷ second ∷ more) = false
