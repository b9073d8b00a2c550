-- The rules of names, selectors and calls: of each a table of the rules in their order, with the condition of each in its own words,
-- whatever other rules hold.
--
-- docs/RULES.md, "Members and selectors", "Names, selectors and calls in expressions".
use Rattle.std.specs.Prelude.{◌≡◌, ℕ, Bool, true, false, ◌&&◌, ◌||◌, not, ◌==◌, List, [], ◌∷◌, length, Option, Some, None, MatchOption, is_some, option_map}
use Rattle.std.specs.List.{list_any, zip}
use Rattle.go_text_core.specs.Text.{is_blank}
use Rattle.go_text_core.specs.declared.rule.Rule.{Rule}
use Rattle.go_text_core.specs.declared.rule.Rule.TheVariants.{N1, N2, N3, N4, N5, N6, N7, N8, N9, S4, S5, S6, S8, C1, C2, C3, C4, X1}
use Rattle.go_tree_nodes.specs.declared.usage.Usage.{Usage}
use Rattle.go_tree_nodes.specs.declared.usage.Usage.TheVariants as usages
use Rattle.go_term_core.specs.declared.term.Basic.TheVariants as basics
use Rattle.go_operand_core.specs.declared.types.Operand.{Operand}
use Rattle.go_operand_core.specs.Values.{is_over, basic_under, default_type}
use Rattle.go_operand_core.specs.Assign.{assignable_to}
use Rattle.go_operand_core.specs.Conversions.{makes_text, fits as is_convertible}
use Rattle.go_denote_core.specs.declared.things.Stand.{Stand}
use Rattle.go_denote_core.specs.declared.things.Stand.TheVariants as stands
use Rattle.go_denote_core.specs.declared.things.Builtin.{Builtin}
use Rattle.go_denote_core.specs.declared.things.Builtin.TheVariants as builtins
use Rattle.go_denote_core.specs.declared.things.Outcome.{Outcome}
use Rattle.go_denote_core.specs.declared.things.Outcome.TheVariants as outcomes
use Rattle.go_denote_core.specs.declared.things.Denoted.{Denoted}
use Rattle.go_denote_core.specs.declared.things.Denoted.TheVariants as denotes
use Rattle.go_denote_core.specs.declared.things.Found.{Found}
use Rattle.go_denote_core.specs.declared.things.Found.TheVariants as founds
use Rattle.go_denote_core.specs.declared.things.Exported.{Exported}
use Rattle.go_denote_core.specs.declared.things.Exported.TheVariants as exporteds
use Rattle.go_denote_core.specs.declared.things.Selection.{Selection}
use Rattle.go_denote_core.specs.declared.things.Selection.TheVariants as selections
use Rattle.go_denote_core.specs.declared.things.Dot.{Dot}
use Rattle.go_denote_core.specs.declared.things.Dot.TheVariants as dots
use Rattle.go_denote_core.specs.declared.things.Argument.{Argument}
use Rattle.go_denote_core.specs.declared.things.Argument.TheVariants as arguments
use Rattle.go_denote_core.specs.Look.{Look}

-- the rule, where it is broken
abbrev pub breaks : Rule → Bool → Option Rule
breaks rule true = Some rule
breaks rule false = None

abbrev pub first_of : List (Option Rule) → Option Rule
first_of [] = None
first_of (None ∷ more) = first_of more
first_of (Some rule ∷ more) = Some rule

-- the outcome is the first rule of the table that is broken, and where none is, it is as the fact says
abbrev pub HasFirst : {D P : Type 0} → List (Option Rule) → (Outcome D P → Type 0) → Outcome D P → Type 0
HasFirst table Otherwise outcome = MatchOption (first_of table) (Otherwise outcome) (λ rule. outcome ≡ outcomes.Refused rule)

-- the outcome is this declaration
abbrev pub IsDeclared : {D P : Type 0} → Option D → Outcome D P → Type 0
IsDeclared None outcome = ⊥
IsDeclared (Some d) outcome = outcome ≡ outcomes.Declared d

-- names

abbrev pub is_missing : {T S D : Type 0} → Found T S D → Bool
is_missing founds.Missing = true
is_missing _ = false

abbrev pub is_bad_import : {T S D : Type 0} → Found T S D → Bool
is_bad_import founds.BadImport = true
is_bad_import _ = false

abbrev pub is_outside : {T S D : Type 0} → Found T S D → Bool
is_outside founds.Outside = true
is_outside _ = false

abbrev pub is_package : {T S D : Type 0} → Found T S D → Bool
is_package (founds.«Package» d) = true
is_package _ = false

abbrev pub is_type : {T S D : Type 0} → Found T S D → Bool
is_type (founds.«Type» d t) = true
is_type _ = false

abbrev pub is_func : {T S D : Type 0} → Found T S D → Bool
is_func (founds.Func d s) = true
is_func (founds.Builtin d b) = true
is_func _ = false

abbrev pub wants_type : Stand → Bool
wants_type stands.«Type» = true
wants_type _ = false

abbrev pub wants_package : Stand → Bool
wants_package stands.TypeDot = true
wants_package _ = false

abbrev pub is_before_dot : Stand → Bool
is_before_dot stands.BeforeDot = true
is_before_dot stands.TypeDot = true
is_before_dot _ = false

abbrev pub is_operand : Stand → Bool
is_operand stands.«Value» = true
is_operand _ = false

abbrev pub is_called : Stand → Bool
is_called stands.Callee = true
is_called _ = false

abbrev pub name_table : {T S D : Type 0} → Bool → Found T S D → Stand → List (Option Rule)
name_table blank found place =
    -- it is `_`
    breaks N8 blank
    -- no declaration of it holds
    ∷ breaks N1 (is_missing found)
    -- a refused import binds it
    ∷ breaks N9 (is_bad_import found)
    -- it is predeclared, and not usable
    ∷ breaks N7 (is_outside found)
    -- it denotes a package, and stands before no dot
    ∷ breaks N4 (is_package found && not (is_before_dot place))
    -- it denotes a type, and stands for an operand or before a dot
    ∷ breaks N5 (is_type found && (is_operand place || is_before_dot place))
    -- it denotes no type where one is wanted, or no package before the dot of a type's name
    ∷ breaks N6 ((wants_type place && not (is_type found)) || (wants_package place && not (is_package found)))
    -- it is called, and denotes no function and no type
    ∷ breaks C1 (is_called place && not (is_func found || is_type found))
    -- it denotes a function, and is not called
    ∷ breaks X1 (is_func found && not (is_called place))
    ∷ []

abbrev pub name_rules : {T S D P : Type 0} → Look T S D P → Stand → List ℕ → List (Option Rule)
name_rules look place name = name_table (is_blank name) (look.names.find name) place

abbrev pub declaration_in : {T S D : Type 0} → Found T S D → Option D
declaration_in founds.Missing = None
declaration_in founds.BadImport = None
declaration_in founds.Outside = None
declaration_in (founds.«Package» d) = Some d
declaration_in (founds.«Type» d t) = Some d
declaration_in (founds.Func d s) = Some d
declaration_in (founds.Builtin d b) = Some d
declaration_in (founds.«Value» d value) = Some d

-- selectors

abbrev pub is_absent : {T S D : Type 0} → Exported T S D → Bool
is_absent exporteds.Absent = true
is_absent _ = false

abbrev pub is_hidden : {T S D : Type 0} → Exported T S D → Bool
is_hidden exporteds.Hidden = true
is_hidden _ = false

abbrev pub is_exported_type : {T S D : Type 0} → Exported T S D → Bool
is_exported_type (exporteds.«Type» d t) = true
is_exported_type _ = false

abbrev pub is_exported_func : {T S D : Type 0} → Exported T S D → Bool
is_exported_func (exporteds.Func d s) = true
is_exported_func _ = false

abbrev pub is_used_as_type : Usage → Bool
is_used_as_type usages.«Type» = true
is_used_as_type _ = false

abbrev pub is_used_as_value : Usage → Bool
is_used_as_value usages.«Value» = true
is_used_as_value _ = false

abbrev pub is_used_as_callee : Usage → Bool
is_used_as_callee usages.Callee = true
is_used_as_callee _ = false

-- after a package
abbrev pub package_table : {T S D : Type 0} → Bool → Exported T S D → Usage → List (Option Rule)
package_table blank found usage =
    -- it is `_`
    breaks S8 blank
    -- the package does not declare it
    ∷ breaks N3 (is_absent found)
    -- it does, and it is not exported
    ∷ breaks N2 (is_hidden found)
    -- it denotes a type, and the whole is an operand
    ∷ breaks N5 (is_exported_type found && is_used_as_value usage)
    -- it denotes no type where one is wanted
    ∷ breaks N6 (is_used_as_type usage && not (is_exported_type found))
    -- the whole is called, and it denotes no function and no type
    ∷ breaks C1 (is_used_as_callee usage && not (is_exported_func found || is_exported_type found))
    -- it denotes a function, and the whole is not called
    ∷ breaks X1 (is_exported_func found && not (is_used_as_callee usage))
    ∷ []

abbrev pub declaration_exported : {T S D : Type 0} → Exported T S D → Option D
declaration_exported exporteds.Absent = None
declaration_exported exporteds.Hidden = None
declaration_exported (exporteds.«Type» d t) = Some d
declaration_exported (exporteds.Func d s) = Some d
declaration_exported (exporteds.«Value» d value) = Some d

-- the member of an operand, searched in its type or default type; nil has none
abbrev pub member_behind : {T S D P : Type 0} → Look T S D P → Operand T → List ℕ → Option (Selection T S D P)
member_behind look operand name = option_map (λ t. look.names.select t name) (default_type look.types operand.value_type)

-- the rule by which no member is selected: S4, S6, S2, S3, S1 or S7; for nil S6
abbrev pub no_member : {T S D P : Type 0} → Option (Selection T S D P) → Option Rule
no_member None = Some S6
no_member (Some (selections.Missing rule)) = Some rule
no_member (Some (selections.«Field» d path t by_pointer)) = None
no_member (Some (selections.Method d path s needs_pointer by_pointer)) = None

abbrev pub is_field : {T S D P : Type 0} → Option (Selection T S D P) → Bool
is_field (Some (selections.«Field» d path t by_pointer)) = true
is_field _ = false

abbrev pub is_method : {T S D P : Type 0} → Option (Selection T S D P) → Bool
is_method (Some (selections.Method d path s needs_pointer by_pointer)) = true
is_method _ = false

-- a method with a pointer receiver
abbrev pub needs_pointer : {T S D P : Type 0} → Option (Selection T S D P) → Bool
needs_pointer (Some (selections.Method d path s by_reference by_pointer)) = by_reference
needs_pointer _ = false

-- a pointer is passed on the way, the operand's own included
abbrev pub passes_pointer : {T S D P : Type 0} → Option (Selection T S D P) → Bool
passes_pointer (Some (selections.«Field» d path t by_pointer)) = by_pointer
passes_pointer (Some (selections.Method d path s by_reference by_pointer)) = by_pointer
passes_pointer _ = false

-- after a value
abbrev pub value_table : {T S D P : Type 0} → Bool → Option (Selection T S D P) → Bool → Usage → List (Option Rule)
value_table blank member is_addressable usage =
    -- it is `_`
    breaks S8 blank
    -- no member is selected
    ∷ no_member member
    -- the whole is called, and it denotes a field
    ∷ breaks C1 (is_used_as_callee usage && is_field member)
    -- it denotes a method, and the whole is not called
    ∷ breaks X1 (is_method member && not (is_used_as_callee usage))
    -- its receiver is a pointer, no pointer is passed, and the operand is not addressable
    ∷ breaks S5 (needs_pointer member && not (passes_pointer member || is_addressable))
    ∷ []

abbrev pub selector_rules : {T S D P : Type 0} → Look T S D P → Usage → Dot T D → List ℕ → List (Option Rule)
selector_rules look usage (dots.«Package» d) name = package_table (is_blank name) (look.names.exported d name) usage
selector_rules look usage dots.Refused name = Some S4 ∷ []
selector_rules look usage dots.Untyped name = breaks S8 (is_blank name) ∷ (Some S4 ∷ [])
selector_rules look usage (dots.«Value» operand) name = value_table (is_blank name) (member_behind look operand name) operand.addressable usage

-- the outcome is this member, by the embedded fields that lead to it
abbrev pub IsMember : {T S D P : Type 0} → Option (Selection T S D P) → Outcome D P → Type 0
IsMember None outcome = ⊥
IsMember (Some (selections.Missing rule)) outcome = ⊥
IsMember (Some (selections.«Field» d path t by_pointer)) outcome = outcome ≡ outcomes.Selected d path
IsMember (Some (selections.Method d path s by_reference by_pointer)) outcome = outcome ≡ outcomes.Selected d path

abbrev pub IsChosen : {T S D P : Type 0} → Look T S D P → Dot T D → List ℕ → Outcome D P → Type 0
IsChosen look (dots.«Package» d) name outcome = IsDeclared (declaration_exported (look.names.exported d name)) outcome
IsChosen look dots.Refused name outcome = ⊥
IsChosen look dots.Untyped name outcome = ⊥
IsChosen look (dots.«Value» operand) name outcome = IsMember (member_behind look operand name) outcome

-- calls

abbrev pub is_callable : {T S D : Type 0} → Denoted T S D → Bool
is_callable (denotes.«Type» d t) = true
is_callable (denotes.Func d s) = true
is_callable (denotes.Builtin d b) = true
is_callable _ = false

-- how many arguments are wanted; print and println take any number
abbrev pub wanted : {T S D P : Type 0} → Look T S D P → Denoted T S D → Option ℕ
wanted look (denotes.«Type» d t) = Some 1
wanted look (denotes.Func d s) = Some (length (look.names.params s))
wanted look (denotes.Builtin d builtins.Len) = Some 1
wanted look (denotes.Builtin d builtins.Panic) = Some 1
wanted look (denotes.Builtin d builtins.Print) = None
wanted look _ = None

abbrev pub is_other_count : Option ℕ → ℕ → Bool
is_other_count None n = false
is_other_count (Some m) n = not (n == m)

-- an argument is assignable to a parameter; a refused one breaks no rule, and a parameter without a type takes each
abbrev pub suits : {T S D P : Type 0} → Look T S D P → Argument T → Option T → Bool
suits look arguments.Refused param = true
suits look arguments.Void None = true
suits look arguments.Void (Some t) = false
suits look (arguments.«Value» operand) None = true
suits look (arguments.«Value» operand) (Some t) = assignable_to look.types operand t

-- an argument suits a predeclared function
abbrev pub suits_builtin : {T S D P : Type 0} → Look T S D P → Builtin → Argument T → Bool
suits_builtin look b arguments.Refused = true
suits_builtin look b arguments.Void = false
-- a string
suits_builtin look builtins.Len (arguments.«Value» operand) = is_over basics.Text (basic_under look.types operand.value_type)
-- assignable to any
suits_builtin look builtins.Panic (arguments.«Value» operand) = assignable_to look.types operand look.types.any
-- over bool, int or string
suits_builtin look builtins.Print (arguments.«Value» operand) = is_some (basic_under look.types operand.value_type)

abbrev pub has_misfit : {T S D P : Type 0} → Look T S D P → Denoted T S D → List (Argument T) → Bool
has_misfit look (denotes.Func d s) given = list_any (λ pair. not (suits look pair.0 pair.1)) (zip given (look.names.params s))
has_misfit look (denotes.Builtin d b) given = list_any (λ argument. not (suits_builtin look b argument)) given
has_misfit look _ given = false

-- an argument may be converted to a type, integers to strings apart
abbrev pub may_become : {T S D P : Type 0} → Look T S D P → Option T → Argument T → Bool
may_become look t arguments.Refused = true
may_become look t arguments.Void = false
may_become look None (arguments.«Value» operand) = false
may_become look (Some t) (arguments.«Value» operand) = makes_text look.types operand.value_type t || is_convertible look.types operand.value_type t

abbrev pub has_bad_conversion : {T S D P : Type 0} → Look T S D P → Denoted T S D → List (Argument T) → Bool
has_bad_conversion look (denotes.«Type» d t) given = list_any (λ argument. not (may_become look t argument)) given
has_bad_conversion look _ given = false

-- an integer that becomes a string
abbrev pub becomes_text : {T S D P : Type 0} → Look T S D P → Option T → Argument T → Bool
becomes_text look (Some t) (arguments.«Value» operand) = makes_text look.types operand.value_type t
becomes_text look _ _ = false

abbrev pub makes_string : {T S D P : Type 0} → Look T S D P → Denoted T S D → List (Argument T) → Bool
makes_string look (denotes.«Type» d t) given = list_any (λ argument. becomes_text look t argument) given
makes_string look _ given = false

-- where nothing is known of the arguments, they break no rule
abbrev pub call_rules : {T S D P : Type 0} → Look T S D P → Denoted T S D → Bool → List (Argument T) → List (Option Rule)
call_rules look callee is_free given =
    -- what is called denotes no function, method or type, or is refused
    breaks C1 (not (is_callable callee))
    -- the count of arguments is wrong
    ∷ breaks C2 (not is_free && is_other_count (wanted look callee) (length given))
    -- an argument is not assignable to its parameter, or does not suit the predeclared function
    ∷ breaks C3 (not is_free && has_misfit look callee given)
    -- the conversion is not allowed
    ∷ breaks C4 (not is_free && has_bad_conversion look callee given)
    -- the conversion makes a string of an integer
    ∷ breaks X1 (not is_free && makes_string look callee given)
    ∷ []

-- the declaration of what is called, for a conversion that of the type's name
abbrev pub declaration_called : {T S D : Type 0} → Denoted T S D → Option D
declaration_called (denotes.«Type» d t) = Some d
declaration_called (denotes.Func d s) = Some d
declaration_called (denotes.Builtin d b) = Some d
declaration_called _ = None
