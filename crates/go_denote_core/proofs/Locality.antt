-- Answers are the same under look-ups that agree on what is asked.
use Rattle.std.proofs.Common.{◌≡◌, ℕ, Bool, true, false, ◌&&◌, ◌||◌, List, [], ◌∷◌, length, refl, ap, ◌∙◌}
use Rattle.std.specs.Prelude.{Option, Some, None, Result, Ok, Err, MatchOption, is_some, ⊤, ◌==◌, if◌then◌else◌}
use Rattle.std.specs.List.{list_all}
use Rattle.go_text_core.specs.Text.{is_blank}
use Rattle.go_text_core.specs.declared.rule.Rule.TheVariants.{N8, S4, S8, C2, C3, C4, X1}
use Rattle.go_tree_nodes.specs.declared.usage.Usage.{Usage}
use Rattle.go_denote_core.specs.declared.things.Stand.{Stand}
use Rattle.go_denote_core.specs.declared.things.Builtin.TheVariants as builtins
use Rattle.go_denote_core.specs.declared.things.Denoted.{Denoted}
use Rattle.go_denote_core.specs.declared.things.Denoted.TheVariants as denotes
use Rattle.go_denote_core.specs.declared.things.Dot.{Dot}
use Rattle.go_denote_core.specs.declared.things.Dot.TheVariants as dots
use Rattle.go_denote_core.specs.declared.things.Argument.{Argument}
use Rattle.go_denote_core.specs.declared.things.Argument.TheVariants as arguments
use Rattle.go_text_core.specs.declared.rule.Rule.{Rule}
use Rattle.go_operand_core.specs.constant_core.declared.values.Constant.{Constant}
use Rattle.go_term_core.specs.declared.term.Basic.{Basic}
use Rattle.go_term_core.specs.declared.term.Basic.TheVariants as basics
use Rattle.go_operand_core.specs.declared.types.ValueType.{ValueType}
use Rattle.go_operand_core.specs.declared.types.ValueType.TheVariants as types
use Rattle.go_operand_core.specs.declared.types.Operand.{Operand}
use Rattle.go_operand_core.specs.declared.types.TypeForm.{TypeForm}
use Rattle.go_operand_core.specs.TypeRules.{TypeRules}
use Rattle.go_operand_core.specs.Values.{is_over, form_basic, basic_type, basic_under, default_type}
use Rattle.go_operand_core.specs.Assign.{takes_nil, takes_untyped, untyped_assignable, assignable}
use Rattle.go_operand_core.specs.Operators.{value}
use Rattle.go_operand_core.specs.Conversions.{convertible, kept, convert, length_constant, length_of}
use Rattle.go_denote_core.specs.Look.{Look}
use Rattle.go_denote_core.specs.Answers.{declared, refused, value_of_type, found_answer, name_answer}
use Rattle.go_denote_core.specs.Selectors.{exported_answer, member_answer, value_selector, selector_answer}
use Rattle.go_denote_core.specs.Calls.{of_results, fits_parameter, all_fit, func_call, of_conversion, of_length, is_printable, judged_call, free_call}
use Rattle.go_denote_core.specs.Laws.{SaysAlike, ValueAlike, GivenAlike, EachAlike, ArgumentAlike, ArgumentsAlike, CallsAlike, OwnNameDecidesName, OwnNameDecidesSelector, NamesAreLocal, SelectorsAreLocal, CallsAreLocal}

-- names

name_alike : {T S D P : Type 0} (look other : Look T S D P) (place : Stand) (name name' : List ℕ) → is_blank name ≡ is_blank name' → look.names.find name ≡ other.names.find name' → name_answer look place name ≡ name_answer other place name'
name_alike look other place name name' blank found =
    ap (λ b. if b then refused N8 else found_answer place (look.names.find name)) blank ∙ ap (λ f. if is_blank name' then refused N8 else found_answer place f) found

pub names_local : {T S D P : Type 0} → NamesAreLocal T S D P
names_local look other place name found = name_alike look other place name name refl found

pub own_name : {T S D P : Type 0} → OwnNameDecidesName T S D P
own_name = record {
  by_rule = λ look place name. refl;
  own_name = λ look place name name' blank found. ap (λ answer. answer.outcome) (name_alike look look place name name' blank found);
}

-- selectors

behind_alike : {T S D P : Type 0} (look other : Look T S D P) (usage : Usage) (is_addressable : Bool) (t : Option T) (name name' : List ℕ)
    → MatchOption t ⊤ (λ u. look.names.select u name ≡ other.names.select u name') → value_selector look usage is_addressable t name ≡ value_selector other usage is_addressable t name'
behind_alike look other usage is_addressable None name name' h = refl
behind_alike look other usage is_addressable (Some u) name name' h = ap (member_answer usage is_addressable) h

selector_alike : {T S D P : Type 0} (look other : Look T S D P) (usage : Usage) (dot : Dot T D) (name name' : List ℕ)
    → is_blank name ≡ is_blank name' → SaysAlike look other dot name name' → selector_answer look usage dot name ≡ selector_answer other usage dot name'
selector_alike look other usage (dots.«Package» d) name name' blank h =
    ap (λ b. if b then refused S8 else exported_answer usage (look.names.exported d name)) blank ∙ ap (λ f. if is_blank name' then refused S8 else exported_answer usage f) h
selector_alike look other usage dots.Refused name name' blank h = refl
selector_alike look other usage dots.Untyped name name' blank h = ap (λ b. if b then refused S8 else refused S4) blank
selector_alike look other usage (dots.«Value» operand) name name' blank h =
    let before = value_selector look usage operand.addressable (default_type look.types operand.value_type) name in
    ap (λ b. if b then refused S8 else before) blank
    ∙ (ap (λ t. if is_blank name' then refused S8 else value_selector look usage operand.addressable t name) h.0
    ∙ ap (λ a. if is_blank name' then refused S8 else a) (behind_alike look other usage operand.addressable (default_type other.types operand.value_type) name name' h.1))

pub selectors_local : {T S D P : Type 0} → SelectorsAreLocal T S D P
selectors_local look other usage dot name h = selector_alike look other usage dot name name refl h

pub own_selector : {T S D P : Type 0} → OwnNameDecidesSelector T S D P
own_selector = record {
  by_rule = λ look usage dot name. refl;
  own_name = λ look usage dot name name' blank h. ap (λ answer. answer.outcome) (selector_alike look look usage dot name name' blank h);
}

-- what is asked of types

-- a value of the type may be assigned, if there is one
abbrev assigned : {T : Type 0} → TypeRules T → T → Option T → Bool
assigned rules t None = false
assigned rules t (Some s) = rules.assignable s t

pub untyped_alike : {T : Type 0} (rules others : TypeRules T) (b : Basic) (t : T) → Some (basic_type rules b) ≡ Some (basic_type others b) → rules.form t ≡ others.form t
    → rules.assignable (basic_type others b) t ≡ others.assignable (basic_type others b) t → untyped_assignable rules b t ≡ untyped_assignable others b t
untyped_alike rules others b t own form is =
    ap (λ o. takes_untyped b (assigned rules t o) (rules.form t)) own
    ∙ (ap (λ f. takes_untyped b (rules.assignable (basic_type others b) t) f) form ∙ ap (λ a. takes_untyped b a (others.form t)) is)

assignable_alike : {T : Type 0} (rules others : TypeRules T) (v : ValueType T) (t : T) → GivenAlike rules others v t → assignable rules v t ≡ assignable others v t
assignable_alike rules others (types.Typed s) t h = h.2.0
assignable_alike rules others types.UntypedInt t h = untyped_alike rules others basics.Int t h.0.0 h.1 h.2.0
assignable_alike rules others types.UntypedText t h = untyped_alike rules others basics.Text t h.0.0 h.1 h.2.0
assignable_alike rules others types.UntypedBool t h = untyped_alike rules others basics.Bool t h.0.0 h.1 h.2.0
assignable_alike rules others types.Nil t h = ap takes_nil h.1

convertible_alike : {T : Type 0} (rules others : TypeRules T) (v : ValueType T) (t : T) → GivenAlike rules others v t → convertible rules v t ≡ convertible others v t
convertible_alike rules others (types.Typed s) t h = h.2.1
convertible_alike rules others types.UntypedInt t h = refl
convertible_alike rules others types.UntypedText t h = refl
convertible_alike rules others types.UntypedBool t h = refl
convertible_alike rules others types.Nil t h = refl

pub basic_alike : {T : Type 0} (rules others : TypeRules T) (v : ValueType T) → ValueAlike rules others v → basic_under rules v ≡ basic_under others v
basic_alike rules others (types.Typed s) h = ap form_basic h.1
basic_alike rules others types.UntypedInt h = refl
basic_alike rules others types.UntypedText h = refl
basic_alike rules others types.UntypedBool h = refl
basic_alike rules others types.Nil h = refl

-- a conversion, by whether it makes a string, whether it is allowed, and what lies under its type
abbrev converted : {T : Type 0} → T → Option Constant → Bool → Bool → TypeForm T → Result (Operand T) Rule
converted t constant makes allowed form = if makes then Err X1 else (if allowed then Ok (value (types.Typed t) (kept (form_basic form) constant)) else Err C4)

convert_alike : {T : Type 0} (rules others : TypeRules T) (o : Operand T) (t : T) → GivenAlike rules others o.value_type t → convert rules o t ≡ convert others o t
convert_alike rules others o t h =
    let v = o.value_type in
    ap (λ b. converted t o.constant (is_over basics.Int b && is_over basics.Text (form_basic (rules.form t))) (assignable rules v t || convertible rules v t) (rules.form t)) (basic_alike rules others v h.0)
    ∙ (ap (λ a. converted t o.constant (is_over basics.Int (basic_under others v) && is_over basics.Text (form_basic (rules.form t))) (a || convertible rules v t) (rules.form t)) (assignable_alike rules others v t h)
    ∙ (ap (λ c. converted t o.constant (is_over basics.Int (basic_under others v) && is_over basics.Text (form_basic (rules.form t))) (assignable others v t || c) (rules.form t)) (convertible_alike rules others v t h)
    ∙ ap (λ f. converted t o.constant (is_over basics.Int (basic_under others v) && is_over basics.Text (form_basic f)) (assignable others v t || convertible others v t) f) h.1))

length_alike : {T : Type 0} (rules others : TypeRules T) (o : Operand T) → rules.int ≡ others.int → ValueAlike rules others o.value_type → length_of rules o ≡ length_of others o
length_alike rules others o int h =
    ap (λ b. if is_over basics.Text b then Some (value (types.Typed rules.int) (length_constant o.constant)) else None) (basic_alike rules others o.value_type h)
    ∙ ap (λ t. if is_over basics.Text (basic_under others o.value_type) then Some (value (types.Typed t) (length_constant o.constant)) else None) int

-- calls

argument_alike : {T S D P : Type 0} (look other : Look T S D P) (argument : Argument T) (param : Option T) → ArgumentAlike look.types other.types argument param → fits_parameter look argument param ≡ fits_parameter other argument param
argument_alike look other arguments.Refused None h = refl
argument_alike look other arguments.Refused (Some t) h = refl
argument_alike look other arguments.Void None h = refl
argument_alike look other arguments.Void (Some t) h = refl
argument_alike look other (arguments.«Value» operand) None h = refl
argument_alike look other (arguments.«Value» operand) (Some t) h = assignable_alike look.types other.types operand.value_type t h

fit_alike : {T S D P : Type 0} (look other : Look T S D P) (given : List (Argument T)) (params : List (Option T)) → ArgumentsAlike look.types other.types given params → all_fit look given params ≡ all_fit other given params
fit_alike look other [] params h = refl
fit_alike look other (argument ∷ given) [] h = refl
fit_alike look other (argument ∷ given) (param ∷ params) h =
    ap (λ b. b && all_fit look given params) (argument_alike look other argument param h.0) ∙ ap (λ b. fits_parameter other argument param && b) (fit_alike look other given params h.1)

func_alike : {T S D P : Type 0} (look other : Look T S D P) (d : D) (s : S) (given : List (Argument T)) → CallsAlike look other (denotes.Func d s) given → func_call look d s given ≡ func_call other d s given
func_alike {T} {S} {D} {P} look other d s given h =
    let params = other.names.params s in
    let call = λ (ps : List (Option T)) (rs : List (Option T)) (b : Bool). if length given == length ps then (if b then declared {P = P} d (of_results s rs) else refused C3) else refused C2 in
    ap (λ ps. call ps (look.names.results s) (all_fit look given ps)) h.0
    ∙ (ap (λ rs. call params rs (all_fit look given params)) h.1
    ∙ ap (λ b. call params (other.names.results s) b) (fit_alike look other given params h.2))

print_alike : {T S D P : Type 0} (look other : Look T S D P) (given : List (Argument T)) → EachAlike (ValueAlike look.types other.types) given
    → list_all (is_printable look) given ≡ list_all (is_printable other) given
print_alike look other [] h = refl
print_alike look other (arguments.Refused ∷ given) h = print_alike look other given h
print_alike look other (arguments.Void ∷ given) h = refl
print_alike look other (arguments.«Value» operand ∷ given) h =
    ap (λ u. is_some u && list_all (is_printable look) given) (basic_alike look.types other.types operand.value_type h.0) ∙ ap (λ b. is_some (basic_under other.types operand.value_type) && b) (print_alike look other given h.1)

judged_alike : {T S D P : Type 0} (look other : Look T S D P) (callee : Denoted T S D) (given : List (Argument T)) → CallsAlike look other callee given → judged_call look callee given ≡ judged_call other callee given
judged_alike look other (denotes.«Type» d None) [] h = refl
judged_alike look other (denotes.«Type» d None) (arguments.Refused ∷ []) h = refl
judged_alike look other (denotes.«Type» d None) (arguments.Void ∷ []) h = refl
judged_alike look other (denotes.«Type» d None) (arguments.«Value» operand ∷ []) h = refl
judged_alike look other (denotes.«Type» d None) (first ∷ second ∷ more) h = refl
judged_alike look other (denotes.«Type» d (Some t)) [] h = refl
judged_alike look other (denotes.«Type» d (Some t)) (arguments.Refused ∷ []) h = refl
judged_alike look other (denotes.«Type» d (Some t)) (arguments.Void ∷ []) h = refl
judged_alike look other (denotes.«Type» d (Some t)) (arguments.«Value» operand ∷ []) h = ap (of_conversion d) (convert_alike look.types other.types operand t h.0)
judged_alike look other (denotes.«Type» d (Some t)) (first ∷ second ∷ more) h = refl
judged_alike look other (denotes.Func d s) given h = func_alike look other d s given h
judged_alike look other (denotes.Builtin d builtins.Len) [] h = refl
judged_alike look other (denotes.Builtin d builtins.Len) (arguments.Refused ∷ []) h = ap (λ t. declared d (value_of_type false (Some t))) h.0
judged_alike look other (denotes.Builtin d builtins.Len) (arguments.Void ∷ []) h = refl
judged_alike look other (denotes.Builtin d builtins.Len) (arguments.«Value» operand ∷ []) h = ap (of_length d) (length_alike look.types other.types operand h.0 h.1.0)
judged_alike look other (denotes.Builtin d builtins.Len) (first ∷ second ∷ more) h = refl
judged_alike look other (denotes.Builtin d builtins.Panic) [] h = refl
judged_alike look other (denotes.Builtin d builtins.Panic) (arguments.Refused ∷ []) h = refl
judged_alike look other (denotes.Builtin d builtins.Panic) (arguments.Void ∷ []) h = refl
judged_alike look other (denotes.Builtin d builtins.Panic) (arguments.«Value» operand ∷ []) h =
    ap (λ t. if assignable look.types operand.value_type t then declared d denotes.Nothing else refused C3) h.0
    ∙ ap (λ b. if b then declared d denotes.Nothing else refused C3) (assignable_alike look.types other.types operand.value_type other.types.any h.1.0)
judged_alike look other (denotes.Builtin d builtins.Panic) (first ∷ second ∷ more) h = refl
judged_alike look other (denotes.Builtin d builtins.Print) given h = ap (λ b. if b then declared d denotes.Nothing else refused C3) (print_alike look other given h)
judged_alike look other denotes.Refused given h = refl
judged_alike look other denotes.Typeless given h = refl
judged_alike look other (denotes.«Package» d) given h = refl
judged_alike look other (denotes.«Value» operand) given h = refl
judged_alike look other (denotes.Several s) given h = refl
judged_alike look other denotes.Nothing given h = refl

free_alike : {T S D P : Type 0} (look other : Look T S D P) (callee : Denoted T S D) (given : List (Argument T)) → CallsAlike look other callee given → free_call look callee ≡ free_call other callee
free_alike look other (denotes.«Type» d None) given h = refl
free_alike look other (denotes.«Type» d (Some t)) given h = refl
free_alike look other (denotes.Func d s) given h = ap (λ rs. declared d (of_results s rs)) h.1
free_alike look other (denotes.Builtin d builtins.Len) given h = ap (λ t. declared d (value_of_type false (Some t))) h.0
free_alike look other (denotes.Builtin d builtins.Panic) given h = refl
free_alike look other (denotes.Builtin d builtins.Print) given h = refl
free_alike look other denotes.Refused given h = refl
free_alike look other denotes.Typeless given h = refl
free_alike look other (denotes.«Package» d) given h = refl
free_alike look other (denotes.«Value» operand) given h = refl
free_alike look other (denotes.Several s) given h = refl
free_alike look other denotes.Nothing given h = refl

pub calls_local : {T S D P : Type 0} → CallsAreLocal T S D P
calls_local look other callee true given h = free_alike look other callee given h
calls_local look other callee false given h = judged_alike look other callee given h
