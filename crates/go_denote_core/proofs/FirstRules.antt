-- A name, a selector and a call have the first rule that they break.
use Rattle.std.proofs.Common.{◌≡◌, ℕ, suc, Bool, true, false, ◌&&◌, ◌||◌, not, List, [], ◌∷◌, length, refl, sym, ap, subst, ◌∙◌, arith}
use Rattle.std.specs.Prelude.{Option, Some, None, Ok, Err, option_map, ◌==◌, if◌then◌else◌}
use Rattle.std.specs.List.{list_all, list_any, zip}
use Rattle.std.proofs.lemmas.Bool.Decides.{nat_tests}
use Rattle.go_text_core.specs.Text.{is_blank}
use Rattle.go_text_core.specs.declared.rule.Rule.{Rule}
use Rattle.go_text_core.specs.declared.rule.Rule.TheVariants.{N8, S4, S8, C2, C3, C4, X1}
use Rattle.go_tree_nodes.specs.declared.usage.Usage.{Usage}
use Rattle.go_tree_nodes.specs.declared.usage.Usage.TheVariants as usages
use Rattle.go_term_core.specs.declared.term.Basic.TheVariants as basics
use Rattle.go_operand_core.specs.declared.types.Operand.{Operand}
use Rattle.go_operand_core.specs.declared.types.ValueType.TheVariants as value_types
use Rattle.go_operand_core.specs.Values.{is_over, form_basic, basic_under, default_type}
use Rattle.go_operand_core.specs.Assign.{assignable_to}
use Rattle.go_operand_core.specs.Operators.{value}
use Rattle.go_operand_core.specs.Conversions.{makes_text, kept, length_constant, fits as is_convertible}
use Rattle.go_denote_core.specs.Arguments.{fits_type}
use Rattle.go_denote_core.specs.declared.things.Stand.{Stand}
use Rattle.go_denote_core.specs.declared.things.Stand.TheVariants as stands
use Rattle.go_denote_core.specs.declared.things.Builtin.TheVariants as builtins
use Rattle.go_denote_core.specs.declared.things.Outcome.TheVariants as outcomes
use Rattle.go_denote_core.specs.declared.things.Denoted.{Denoted}
use Rattle.go_denote_core.specs.declared.things.Denoted.TheVariants as denotes
use Rattle.go_denote_core.specs.declared.things.Found.{Found}
use Rattle.go_denote_core.specs.declared.things.Found.TheVariants as founds
use Rattle.go_denote_core.specs.declared.things.Exported.{Exported}
use Rattle.go_denote_core.specs.declared.things.Exported.TheVariants as exporteds
use Rattle.go_denote_core.specs.declared.things.Selection.{Selection}
use Rattle.go_denote_core.specs.declared.things.Selection.TheVariants as selections
use Rattle.go_denote_core.specs.declared.things.Dot.TheVariants as dots
use Rattle.go_denote_core.specs.declared.things.Argument.{Argument}
use Rattle.go_denote_core.specs.declared.things.Argument.TheVariants as arguments
use Rattle.go_denote_core.specs.Look.{Look}
use Rattle.go_denote_core.specs.Answers.{declared, refused, found_answer}
use Rattle.go_denote_core.specs.Selectors.{exported_answer, member_answer, value_selector}
use Rattle.go_denote_core.specs.Calls.{of_results, fits_parameter, all_fit, func_call, of_conversion, convert_argument, of_length, length_argument, is_printable, print_call, judged_call, free_call}
use Rattle.go_denote_core.specs.Rules.{breaks, HasFirst, IsDeclared, IsMember, name_table, declaration_in, package_table, declaration_exported, value_table, suits, suits_builtin, has_misfit, has_bad_conversion, makes_string, call_rules, declaration_called}
use Rattle.go_denote_core.specs.Laws.{FirstRuleOfName, FirstRuleOfSelector, FirstRuleOfCall}

-- names

named : {T S D P : Type 0} (look : Look T S D P) (blank : Bool) (found : Found T S D) (place : Stand) → HasFirst {P = P} (name_table blank found place) (IsDeclared (declaration_in found)) (if blank then refused N8 else found_answer place found).outcome
named look true found place = refl
named look false founds.Missing place = refl
named look false founds.BadImport place = refl
named look false founds.Outside place = refl
named look false (founds.«Package» d) stands.«Type» = refl
named look false (founds.«Package» d) stands.TypeDot = refl
named look false (founds.«Package» d) stands.«Value» = refl
named look false (founds.«Package» d) stands.Callee = refl
named look false (founds.«Package» d) stands.BeforeDot = refl
named look false (founds.«Type» d t) stands.«Type» = refl
named look false (founds.«Type» d t) stands.TypeDot = refl
named look false (founds.«Type» d t) stands.«Value» = refl
named look false (founds.«Type» d t) stands.Callee = refl
named look false (founds.«Type» d t) stands.BeforeDot = refl
named look false (founds.Func d s) stands.«Type» = refl
named look false (founds.Func d s) stands.TypeDot = refl
named look false (founds.Func d s) stands.«Value» = refl
named look false (founds.Func d s) stands.Callee = refl
named look false (founds.Func d s) stands.BeforeDot = refl
named look false (founds.Builtin d b) stands.«Type» = refl
named look false (founds.Builtin d b) stands.TypeDot = refl
named look false (founds.Builtin d b) stands.«Value» = refl
named look false (founds.Builtin d b) stands.Callee = refl
named look false (founds.Builtin d b) stands.BeforeDot = refl
named look false (founds.«Value» d value) stands.«Type» = refl
named look false (founds.«Value» d value) stands.TypeDot = refl
named look false (founds.«Value» d value) stands.«Value» = refl
named look false (founds.«Value» d value) stands.Callee = refl
named look false (founds.«Value» d value) stands.BeforeDot = refl

pub first_of_name : {T S D P : Type 0} → FirstRuleOfName T S D P
first_of_name look place name = named look (is_blank name) (look.names.find name) place

-- selectors

after_package : {T S D P : Type 0} (look : Look T S D P) (blank : Bool) (found : Exported T S D) (usage : Usage) → HasFirst {P = P} (package_table blank found usage) (IsDeclared (declaration_exported found)) (if blank then refused S8 else exported_answer usage found).outcome
after_package look true found usage = refl
after_package look false exporteds.Absent usage = refl
after_package look false exporteds.Hidden usage = refl
after_package look false (exporteds.«Type» d t) usages.«Type» = refl
after_package look false (exporteds.«Type» d t) usages.«Value» = refl
after_package look false (exporteds.«Type» d t) usages.Callee = refl
after_package look false (exporteds.Func d s) usages.«Type» = refl
after_package look false (exporteds.Func d s) usages.«Value» = refl
after_package look false (exporteds.Func d s) usages.Callee = refl
after_package look false (exporteds.«Value» d value) usages.«Type» = refl
after_package look false (exporteds.«Value» d value) usages.«Value» = refl
after_package look false (exporteds.«Value» d value) usages.Callee = refl

member : {T S D P : Type 0} (usage : Usage) (is_addressable : Bool) (sel : Selection T S D P)
    → HasFirst (value_table false (Some sel) is_addressable usage) (IsMember (Some sel)) (member_answer usage is_addressable sel).outcome
member usage is_addressable (selections.Missing rule) = refl
member usages.«Type» is_addressable (selections.«Field» d path t by_pointer) = refl
member usages.«Value» is_addressable (selections.«Field» d path t by_pointer) = refl
member usages.Callee is_addressable (selections.«Field» d path t by_pointer) = refl
member usages.«Type» is_addressable (selections.Method d path s by_reference by_pointer) = refl
member usages.«Value» is_addressable (selections.Method d path s by_reference by_pointer) = refl
member usages.Callee is_addressable (selections.Method d path s false by_pointer) = refl
member usages.Callee is_addressable (selections.Method d path s true true) = refl
member usages.Callee true (selections.Method d path s true false) = refl
member usages.Callee false (selections.Method d path s true false) = refl

after_value : {T S D P : Type 0} (look : Look T S D P) (usage : Usage) (is_addressable blank : Bool) (t : Option T) (name : List ℕ)
    → HasFirst (value_table blank (option_map (λ u. look.names.select u name) t) is_addressable usage) (IsMember (option_map (λ u. look.names.select u name) t)) (if blank then refused S8 else value_selector look usage is_addressable t name).outcome
after_value look usage is_addressable true t name = refl
after_value look usage is_addressable false None name = refl
after_value look usage is_addressable false (Some t) name = member usage is_addressable (look.names.select t name)

after_untyped : {T S D P : Type 0} (look : Look T S D P) (blank : Bool) → HasFirst {D = D} {P = P} (breaks S8 blank ∷ (Some S4 ∷ [])) (λ outcome. ⊥) (if blank then refused {T = T} {S = S} S8 else refused S4).outcome
after_untyped look true = refl
after_untyped look false = refl

pub first_of_selector : {T S D P : Type 0} → FirstRuleOfSelector T S D P
first_of_selector look usage (dots.«Package» d) name = after_package look (is_blank name) (look.names.exported d name) usage
first_of_selector look usage dots.Refused name = refl
first_of_selector look usage dots.Untyped name = after_untyped look (is_blank name)
first_of_selector look usage (dots.«Value» operand) name = after_value look usage operand.addressable (is_blank name) (default_type look.types operand.value_type) name

-- lists of arguments

and_not : (a b c d : Bool) → a ≡ b → c ≡ not d → (a && c) ≡ not (not b || d)
and_not a true c d h k = ap (λ x. x && c) h ∙ k
and_not a false c d h k = ap (λ x. x && c) h

all_any : {X : Type 0} (p q : X → Bool) → ((x : X) → p x ≡ q x) → (xs : List X) → list_all p xs ≡ not (list_any (λ x. not (q x)) xs)
all_any p q h [] = refl
all_any p q h (x ∷ xs) = and_not (p x) (q x) (list_all p xs) (list_any (λ y. not (q y)) xs) (h x) (all_any p q h xs)

fits_is : {T S D P : Type 0} (look : Look T S D P) (argument : Argument T) (param : Option T) → fits_parameter look argument param ≡ suits look argument param
fits_is look arguments.Refused None = refl
fits_is look arguments.Refused (Some t) = refl
fits_is look arguments.Void None = refl
fits_is look arguments.Void (Some t) = refl
fits_is look (arguments.«Value» operand) None = refl
fits_is look (arguments.«Value» operand) (Some t) = refl

all_fit_is : {T S D P : Type 0} (look : Look T S D P) (given : List (Argument T)) (params : List (Option T)) → all_fit look given params ≡ not (list_any (λ pair. not (suits look pair.0 pair.1)) (zip given params))
all_fit_is look [] params = refl
all_fit_is look (argument ∷ given) [] = refl
all_fit_is look (argument ∷ given) (param ∷ params) =
    and_not (fits_parameter look argument param) (suits look argument param) (all_fit look given params) (list_any (λ pair. not (suits look pair.0 pair.1)) (zip given params)) (fits_is look argument param) (all_fit_is look given params)

printable_is : {T S D P : Type 0} (look : Look T S D P) (argument : Argument T) → is_printable look argument ≡ suits_builtin look builtins.Print argument
printable_is look arguments.Refused = refl
printable_is look arguments.Void = refl
printable_is look (arguments.«Value» operand) = refl

two_not_one : (n : ℕ) → (suc (suc n) == 1) ≡ false
two_not_one n = grind (arith, nat_tests)

-- calls

-- the rules behind the count
abbrev after_count : {T S D P : Type 0} → Look T S D P → Denoted T S D → List (Argument T) → List (Option Rule)
after_count look callee given = breaks C3 (has_misfit look callee given) ∷ (breaks C4 (has_bad_conversion look callee given) ∷ (breaks X1 (makes_string look callee given) ∷ []))

miscounted : {T S D P : Type 0} (look : Look T S D P) (same : Bool) → same ≡ false → (more : List (Option Rule)) (d : Option D)
    → HasFirst {P = P} (None ∷ (breaks C2 (not same) ∷ more)) (IsDeclared d) (outcomes.Refused C2)
miscounted look true h more d = absurd (cc)
miscounted look false h more d = refl

converted : {T S D P : Type 0} (look : Look T S D P) (d : D) (makes fits : Bool) (operand : Operand T)
    → HasFirst {P = P} (None ∷ (None ∷ (None ∷ (breaks C4 (not (makes || fits) || false) ∷ (breaks X1 (makes || false) ∷ []))))) (IsDeclared (Some d))
    (of_conversion {S = S} d (if makes then Err X1 else (if fits then Ok operand else Err C4))).outcome
converted look d true fits operand = refl
converted look d false true operand = refl
converted look d false false operand = refl

conversion_of : {T S D P : Type 0} (look : Look T S D P) (d : D) (t : Option T) (argument : Argument T)
    → HasFirst {P = P} (call_rules look (denotes.«Type» d t) false (argument ∷ [])) (IsDeclared (Some d)) (convert_argument look d t argument).outcome
conversion_of look d None arguments.Refused = refl
conversion_of look d (Some t) arguments.Refused = refl
conversion_of look d None arguments.Void = refl
conversion_of look d (Some t) arguments.Void = refl
conversion_of look d None (arguments.«Value» operand) = refl
conversion_of look d (Some t) (arguments.«Value» operand) =
    converted look d (makes_text look.types operand.value_type t) (is_convertible look.types operand.value_type t) (value (value_types.Typed t) (kept (form_basic (look.types.form t)) operand.constant))

func_called : {T S D P : Type 0} (look : Look T S D P) (d : D) (denoted : Denoted T S D) (same misfit : Bool)
    → HasFirst {P = P} (None ∷ (breaks C2 (not same) ∷ (breaks C3 misfit ∷ (None ∷ (None ∷ []))))) (IsDeclared (Some d)) (if same then (if not misfit then declared d denoted else refused C3) else refused C2).outcome
func_called look d denoted true true = refl
func_called look d denoted true false = refl
func_called look d denoted false misfit = refl

func_of : {T S D P : Type 0} (look : Look T S D P) (d : D) (s : S) (given : List (Argument T))
    → HasFirst {P = P} (call_rules look (denotes.Func d s) false given) (IsDeclared (Some d)) (func_call look d s given).outcome
func_of {T} {S} {D} {P} look d s given =
    let params = look.names.params s in
    let misfit = list_any (λ pair. not (suits look pair.0 pair.1)) (zip given params) in
    let denoted : Denoted T S D = of_results s (look.names.results s) in
    let same = length given == length params in
    subst (λ (f : Bool). HasFirst {P = P} (None ∷ (breaks C2 (not same) ∷ (breaks C3 misfit ∷ (None ∷ (None ∷ []))))) (IsDeclared (Some d)) (if same then (if f then declared d denoted else refused C3) else refused C2).outcome)
    (sym (all_fit_is look given params)) (func_called look d denoted same misfit)

-- a call of a predeclared function that is refused by C3 where its argument does not suit
suited : {T S D P : Type 0} (look : Look T S D P) (d : D) (denoted : Denoted T S D) (good : Bool)
    → HasFirst {P = P} (None ∷ (None ∷ (breaks C3 (not good || false) ∷ (None ∷ (None ∷ []))))) (IsDeclared (Some d)) (if good then declared d denoted else refused C3).outcome
suited look d denoted true = refl
suited look d denoted false = refl

measured : {T S D P : Type 0} (look : Look T S D P) (d : D) (operand : Operand T) (good : Bool)
    → HasFirst {P = P} (None ∷ (None ∷ (breaks C3 (not good || false) ∷ (None ∷ (None ∷ []))))) (IsDeclared (Some d)) (of_length {S = S} d (if good then Some operand else None)).outcome
measured look d operand true = refl
measured look d operand false = refl

length_of_one : {T S D P : Type 0} (look : Look T S D P) (d : D) (argument : Argument T)
    → HasFirst {P = P} (call_rules look (denotes.Builtin d builtins.Len) false (argument ∷ [])) (IsDeclared (Some d)) (length_argument look d argument).outcome
length_of_one look d arguments.Refused = refl
length_of_one look d arguments.Void = refl
length_of_one look d (arguments.«Value» operand) =
    measured look d (value (value_types.Typed look.types.int) (length_constant operand.constant)) (is_over basics.Text (basic_under look.types operand.value_type))

panic_of_one : {T S D P : Type 0} (look : Look T S D P) (d : D) (argument : Argument T)
    → HasFirst {P = P} (call_rules look (denotes.Builtin d builtins.Panic) false (argument ∷ [])) (IsDeclared (Some d)) (if fits_type look.types look.types.any argument then declared {T = T} {S = S} d denotes.Nothing else refused C3).outcome
panic_of_one look d arguments.Refused = refl
panic_of_one look d arguments.Void = refl
panic_of_one look d (arguments.«Value» operand) = suited look d denotes.Nothing (assignable_to look.types operand look.types.any)

printed : {T S D P : Type 0} (look : Look T S D P) (d : D) (denoted : Denoted T S D) (misfit : Bool)
    → HasFirst {P = P} (None ∷ (None ∷ (breaks C3 misfit ∷ (None ∷ (None ∷ []))))) (IsDeclared (Some d)) (if not misfit then declared d denoted else refused C3).outcome
printed look d denoted true = refl
printed look d denoted false = refl

print_of : {T S D P : Type 0} (look : Look T S D P) (d : D) (given : List (Argument T))
    → HasFirst {P = P} (call_rules look (denotes.Builtin d builtins.Print) false given) (IsDeclared (Some d)) (print_call look d given).outcome
print_of {T} {S} {D} {P} look d given =
    let misfit = list_any (λ argument. not (suits_builtin look builtins.Print argument)) given in
    let denoted : Denoted T S D = denotes.Nothing in
    subst (λ (f : Bool). HasFirst {P = P} (None ∷ (None ∷ (breaks C3 misfit ∷ (None ∷ (None ∷ []))))) (IsDeclared (Some d)) (if f then declared d denoted else refused C3).outcome)
    (sym (all_any (is_printable look) (suits_builtin look builtins.Print) (printable_is look) given)) (printed look d denoted misfit)

many : {T S D P : Type 0} (look : Look T S D P) (callee : Denoted T S D) (n : ℕ) (given : List (Argument T)) (d : Option D)
    → HasFirst {P = P} (None ∷ (breaks C2 (not (suc (suc n) == 1)) ∷ after_count look callee given)) (IsDeclared d) (outcomes.Refused C2)
many look callee n given d = miscounted look (suc (suc n) == 1) (two_not_one n) (after_count look callee given) d

judged : {T S D P : Type 0} (look : Look T S D P) (callee : Denoted T S D) (given : List (Argument T))
    → HasFirst (call_rules look callee false given) (IsDeclared (declaration_called callee)) (judged_call look callee given).outcome
judged look (denotes.«Type» d t) [] = refl
judged look (denotes.«Type» d t) (argument ∷ []) = conversion_of look d t argument
judged look (denotes.«Type» d t) (first ∷ second ∷ more) = many look (denotes.«Type» d t) (length more) (first ∷ second ∷ more) (Some d)
judged look (denotes.Func d s) given = func_of look d s given
judged look (denotes.Builtin d builtins.Len) [] = refl
judged look (denotes.Builtin d builtins.Len) (argument ∷ []) = length_of_one look d argument
judged look (denotes.Builtin d builtins.Len) (first ∷ second ∷ more) = many look (denotes.Builtin d builtins.Len) (length more) (first ∷ second ∷ more) (Some d)
judged look (denotes.Builtin d builtins.Panic) [] = refl
judged look (denotes.Builtin d builtins.Panic) (argument ∷ []) = panic_of_one look d argument
judged look (denotes.Builtin d builtins.Panic) (first ∷ second ∷ more) = many look (denotes.Builtin d builtins.Panic) (length more) (first ∷ second ∷ more) (Some d)
judged look (denotes.Builtin d builtins.Print) given = print_of look d given
judged look denotes.Refused given = refl
judged look denotes.Typeless given = refl
judged look (denotes.«Package» p) given = refl
judged look (denotes.«Value» operand) given = refl
judged look (denotes.Several s) given = refl
judged look denotes.Nothing given = refl

free : {T S D P : Type 0} (look : Look T S D P) (callee : Denoted T S D) (given : List (Argument T))
    → HasFirst (call_rules look callee true given) (IsDeclared (declaration_called callee)) (free_call look callee).outcome
free look (denotes.«Type» d t) given = refl
free look (denotes.Func d s) given = refl
free look (denotes.Builtin d b) given = refl
free look denotes.Refused given = refl
free look denotes.Typeless given = refl
free look (denotes.«Package» p) given = refl
free look (denotes.«Value» operand) given = refl
free look (denotes.Several s) given = refl
free look denotes.Nothing given = refl

pub first_of_call : {T S D P : Type 0} → FirstRuleOfCall T S D P
first_of_call look callee true given = free look callee given
first_of_call look callee false given = judged look callee given
