-- Names, selectors and calls denote nothing exactly where they break a rule.
use Rattle.std.proofs.Common.{◌≡◌, ℕ, Bool, true, false, List, [], ◌∷◌, length, refl}
use Rattle.std.specs.Prelude.{Option, Some, None, Result, Ok, Err, ◌==◌, if◌then◌else◌}
use Rattle.go_text_core.specs.Text.{is_blank}
use Rattle.go_text_core.specs.declared.rule.Rule.{Rule}
use Rattle.go_text_core.specs.declared.rule.Rule.TheVariants.{N8, S4, S8, C2, C3}
use Rattle.go_tree_nodes.specs.declared.usage.Usage.{Usage}
use Rattle.go_tree_nodes.specs.declared.usage.Usage.TheVariants as usages
use Rattle.go_operand_core.specs.declared.types.Operand.{Operand}
use Rattle.go_operand_core.specs.Values.{default_type}
use Rattle.go_operand_core.specs.Conversions.{convert, length_of}
use Rattle.std.specs.List.{list_all}
use Rattle.go_denote_core.specs.Arguments.{fits_type}
use Rattle.go_denote_core.specs.declared.things.Stand.{Stand}
use Rattle.go_denote_core.specs.declared.things.Stand.TheVariants as stands
use Rattle.go_denote_core.specs.declared.things.Builtin.{Builtin}
use Rattle.go_denote_core.specs.declared.things.Builtin.TheVariants as builtins
use Rattle.go_denote_core.specs.declared.things.Denoted.{Denoted}
use Rattle.go_denote_core.specs.declared.things.Denoted.TheVariants as denotes
use Rattle.go_denote_core.specs.declared.things.Answer.{Answer}
use Rattle.go_denote_core.specs.declared.things.Found.{Found}
use Rattle.go_denote_core.specs.declared.things.Found.TheVariants as founds
use Rattle.go_denote_core.specs.declared.things.Exported.{Exported}
use Rattle.go_denote_core.specs.declared.things.Exported.TheVariants as exporteds
use Rattle.go_denote_core.specs.declared.things.Selection.{Selection}
use Rattle.go_denote_core.specs.declared.things.Selection.TheVariants as selections
use Rattle.go_denote_core.specs.declared.things.Dot.{Dot}
use Rattle.go_denote_core.specs.declared.things.Dot.TheVariants as dots
use Rattle.go_denote_core.specs.declared.things.Argument.{Argument}
use Rattle.go_denote_core.specs.declared.things.Argument.TheVariants as arguments
use Rattle.go_denote_core.specs.Look.{Look}
use Rattle.go_denote_core.specs.Answers.{declared, refused, of_value, value_of_type, package_answer, type_answer, func_answer, value_answer, found_answer}
use Rattle.go_denote_core.specs.Selectors.{usage_place, exported_answer, field_answer, method_answer, member_answer, value_selector, selector_answer}
use Rattle.go_denote_core.specs.Calls.{of_results, all_fit, func_call, of_conversion, convert_argument, conversion, of_length, length_argument, is_printable, builtin_call, judged_call, of_builtin, free_call}
use Rattle.go_denote_core.specs.Laws.{is_nothing, Agree, RefusedDenotesNothing}

one_of : {T S D P : Type 0} (b : Bool) (x y : Answer T S D P) → Agree x → Agree y → Agree (if b then x else y)
one_of true x y h k = h
one_of false x y h k = k

value_something : {T S D P : Type 0} (look : Look T S D P) (value : Option (Operand T)) → is_nothing {S = S} {D = D} (of_value value) ≡ false
value_something look None = refl
value_something look (Some operand) = refl

typed_something : {T S D P : Type 0} (look : Look T S D P) (is_addressable : Bool) (t : Option T) → is_nothing {S = S} {D = D} (value_of_type is_addressable t) ≡ false
typed_something look is_addressable None = refl
typed_something look is_addressable (Some t) = refl

-- names

package_agrees : {T S D P : Type 0} (look : Look T S D P) (place : Stand) (d : D) → Agree {T = T} {S = S} {P = P} (package_answer place d)
package_agrees look stands.«Type» d = refl
package_agrees look stands.TypeDot d = refl
package_agrees look stands.«Value» d = refl
package_agrees look stands.Callee d = refl
package_agrees look stands.BeforeDot d = refl

type_agrees : {T S D P : Type 0} (look : Look T S D P) (place : Stand) (d : D) (t : Option T) → Agree {S = S} {P = P} (type_answer place d t)
type_agrees look stands.«Type» d t = refl
type_agrees look stands.TypeDot d t = refl
type_agrees look stands.«Value» d t = refl
type_agrees look stands.Callee d t = refl
type_agrees look stands.BeforeDot d t = refl

func_agrees : {T S D P : Type 0} (look : Look T S D P) (place : Stand) (d : D) (func : Denoted T S D) → is_nothing func ≡ false → Agree {P = P} (func_answer place d func)
func_agrees look stands.«Type» d func something = refl
func_agrees look stands.TypeDot d func something = refl
func_agrees look stands.«Value» d func something = refl
func_agrees look stands.Callee d func something = something
func_agrees look stands.BeforeDot d func something = refl

value_agrees : {T S D P : Type 0} (look : Look T S D P) (place : Stand) (d : D) (value : Option (Operand T)) → Agree {S = S} {P = P} (value_answer place d value)
value_agrees look stands.«Type» d value = refl
value_agrees look stands.TypeDot d value = refl
value_agrees look stands.«Value» d value = value_something look value
value_agrees look stands.Callee d value = refl
value_agrees look stands.BeforeDot d value = value_something look value

found_agrees : {T S D P : Type 0} (look : Look T S D P) (place : Stand) (found : Found T S D) → Agree {P = P} (found_answer place found)
found_agrees look place founds.Missing = refl
found_agrees look place founds.BadImport = refl
found_agrees look place founds.Outside = refl
found_agrees look place (founds.«Package» d) = package_agrees look place d
found_agrees look place (founds.«Type» d t) = type_agrees look place d t
found_agrees look place (founds.Func d s) = func_agrees look place d (denotes.Func d s) refl
found_agrees look place (founds.Builtin d b) = func_agrees look place d (denotes.Builtin d b) refl
found_agrees look place (founds.«Value» d value) = value_agrees look place d value

-- selectors

exported_agrees : {T S D P : Type 0} (look : Look T S D P) (usage : Usage) (found : Exported T S D) → Agree {P = P} (exported_answer usage found)
exported_agrees look usage exporteds.Absent = refl
exported_agrees look usage exporteds.Hidden = refl
exported_agrees look usage (exporteds.«Type» d t) = type_agrees look (usage_place usage) d t
exported_agrees look usage (exporteds.Func d s) = func_agrees look (usage_place usage) d (denotes.Func d s) refl
exported_agrees look usage (exporteds.«Value» d value) = value_agrees look (usage_place usage) d value

field_agrees : {T S D P : Type 0} (look : Look T S D P) (usage : Usage) (d : D) (path : P) (t : Option T) (is_addressable : Bool) → Agree {S = S} (field_answer usage d path t is_addressable)
field_agrees look usages.«Type» d path t is_addressable = typed_something look is_addressable t
field_agrees look usages.«Value» d path t is_addressable = typed_something look is_addressable t
field_agrees look usages.Callee d path t is_addressable = refl

method_agrees : {T S D P : Type 0} (look : Look T S D P) (usage : Usage) (d : D) (path : P) (s : S) (has_receiver : Bool) → Agree {T = T} (method_answer usage d path s has_receiver)
method_agrees look usages.«Type» d path s has_receiver = refl
method_agrees look usages.«Value» d path s has_receiver = refl
method_agrees look usages.Callee d path s true = refl
method_agrees look usages.Callee d path s false = refl

member_agrees : {T S D P : Type 0} (look : Look T S D P) (usage : Usage) (is_addressable : Bool) (found : Selection T S D P) → Agree (member_answer usage is_addressable found)
member_agrees look usage is_addressable (selections.Missing rule) = refl
member_agrees look usage is_addressable (selections.«Field» d path t by_pointer) = field_agrees look usage d path t _
member_agrees look usage is_addressable (selections.Method d path s needs_pointer by_pointer) = method_agrees look usage d path s _

behind_agrees : {T S D P : Type 0} (look : Look T S D P) (usage : Usage) (is_addressable : Bool) (t : Option T) (name : List ℕ) → Agree (value_selector look usage is_addressable t name)
behind_agrees look usage is_addressable None name = refl
behind_agrees look usage is_addressable (Some t) name = member_agrees look usage is_addressable (look.names.select t name)

-- calls

results_something : {T S D P : Type 0} (look : Look T S D P) (s : S) (results : List (Option T)) → is_nothing {D = D} (of_results s results) ≡ false
results_something look s [] = refl
results_something look s (t ∷ []) = typed_something look false t
results_something look s (t ∷ u ∷ more) = refl

builtin_something : {T S D P : Type 0} (look : Look T S D P) (b : Builtin) → is_nothing (of_builtin look b) ≡ false
builtin_something look builtins.Len = refl
builtin_something look builtins.Panic = refl
builtin_something look builtins.Print = refl

free_agrees : {T S D P : Type 0} (look : Look T S D P) (callee : Denoted T S D) → Agree (free_call look callee)
free_agrees look (denotes.«Type» d t) = typed_something look false t
free_agrees look (denotes.Func d s) = results_something look s (look.names.results s)
free_agrees look (denotes.Builtin d b) = builtin_something look b
free_agrees look denotes.Refused = refl
free_agrees look denotes.Typeless = refl
free_agrees look (denotes.«Package» p) = refl
free_agrees look (denotes.«Value» operand) = refl
free_agrees look (denotes.Several s) = refl
free_agrees look denotes.Nothing = refl

converted_agrees : {T S D P : Type 0} (look : Look T S D P) (d : D) (converted : Result (Operand T) Rule) → Agree {S = S} {P = P} (of_conversion d converted)
converted_agrees look d (Ok operand) = refl
converted_agrees look d (Err rule) = refl

argument_agrees : {T S D P : Type 0} (look : Look T S D P) (d : D) (t : Option T) (argument : Argument T) → Agree (convert_argument look d t argument)
argument_agrees look d t arguments.Refused = typed_something look false t
argument_agrees look d t arguments.Void = refl
argument_agrees look d None (arguments.«Value» operand) = refl
argument_agrees look d (Some t) (arguments.«Value» operand) = converted_agrees look d (convert look.types operand t)

conversion_agrees : {T S D P : Type 0} (look : Look T S D P) (d : D) (t : Option T) (given : List (Argument T)) → Agree (conversion look d t given)
conversion_agrees look d t [] = refl
conversion_agrees look d t (argument ∷ []) = argument_agrees look d t argument
conversion_agrees look d t (first ∷ second ∷ more) = refl

measured_agrees : {T S D P : Type 0} (look : Look T S D P) (d : D) (length : Option (Operand T)) → Agree {S = S} {P = P} (of_length d length)
measured_agrees look d None = refl
measured_agrees look d (Some operand) = refl

length_agrees : {T S D P : Type 0} (look : Look T S D P) (d : D) (argument : Argument T) → Agree (length_argument look d argument)
length_agrees look d arguments.Refused = refl
length_agrees look d arguments.Void = refl
length_agrees look d (arguments.«Value» operand) = measured_agrees look d (length_of look.types operand)

builtin_agrees : {T S D P : Type 0} (look : Look T S D P) (d : D) (b : Builtin) (given : List (Argument T)) → Agree (builtin_call look d b given)
builtin_agrees look d builtins.Len [] = refl
builtin_agrees look d builtins.Len (argument ∷ []) = length_agrees look d argument
builtin_agrees look d builtins.Len (first ∷ second ∷ more) = refl
builtin_agrees look d builtins.Panic [] = refl
builtin_agrees look d builtins.Panic (argument ∷ []) = one_of (fits_type look.types look.types.any argument) (declared d denotes.Nothing) (refused C3) refl refl
builtin_agrees look d builtins.Panic (first ∷ second ∷ more) = refl
builtin_agrees look d builtins.Print given = one_of (list_all (is_printable look) given) (declared d denotes.Nothing) (refused C3) refl refl

func_call_agrees : {T S D P : Type 0} (look : Look T S D P) (d : D) (s : S) (given : List (Argument T)) → Agree (func_call look d s given)
func_call_agrees look d s given =
    one_of (length given == length (look.names.params s)) (if all_fit look given (look.names.params s) then declared d (of_results s (look.names.results s)) else refused C3) (refused C2)
    (one_of (all_fit look given (look.names.params s)) (declared d (of_results s (look.names.results s))) (refused C3) (results_something look s (look.names.results s)) refl) refl

judged_agrees : {T S D P : Type 0} (look : Look T S D P) (callee : Denoted T S D) (given : List (Argument T)) → Agree (judged_call look callee given)
judged_agrees look (denotes.«Type» d t) given = conversion_agrees look d t given
judged_agrees look (denotes.Func d s) given = func_call_agrees look d s given
judged_agrees look (denotes.Builtin d b) given = builtin_agrees look d b given
judged_agrees look denotes.Refused given = refl
judged_agrees look denotes.Typeless given = refl
judged_agrees look (denotes.«Package» p) given = refl
judged_agrees look (denotes.«Value» operand) given = refl
judged_agrees look (denotes.Several s) given = refl
judged_agrees look denotes.Nothing given = refl

selector_agrees : {T S D P : Type 0} (look : Look T S D P) (usage : Usage) (dot : Dot T D) (name : List ℕ) → Agree (selector_answer look usage dot name)
selector_agrees look usage (dots.«Package» d) name = one_of (is_blank name) (refused S8) (exported_answer usage (look.names.exported d name)) refl (exported_agrees look usage (look.names.exported d name))
selector_agrees look usage dots.Refused name = refl
selector_agrees look usage dots.Untyped name = one_of (is_blank name) (refused S8) (refused S4) refl refl
selector_agrees look usage (dots.«Value» operand) name =
    let t = default_type look.types operand.value_type in
    one_of (is_blank name) (refused S8) (value_selector look usage operand.addressable t name) refl (behind_agrees look usage operand.addressable t name)

pub agree : {T S D P : Type 0} → RefusedDenotesNothing T S D P
agree = record {
  names = λ look place name. one_of (is_blank name) (refused N8) (found_answer place (look.names.find name)) refl (found_agrees look place (look.names.find name));
  selectors = selector_agrees;
  calls = λ look callee is_free given. one_of is_free (free_call look callee) (judged_call look callee given) (free_agrees look callee) (judged_agrees look callee given);
}
