-- Calls: what code takes what is called for is what it denotes, and what they give.
use Rattle.std.proofs.Common.{◌≡◌, ℕ, Bool, true, false, ◌&&◌, ◌||◌, not, ◌⊎◌, inl, inr, List, [], ◌∷◌, map, Option, Some, None, Ok, Err, refl, sym, ◌∙◌, ap, subst, if◌then◌else◌}
use Rattle.std.specs.Prelude.{⊤, nat_eq}
use Rattle.go_path_core.specs.text_core.Text.{is_blank}
use Rattle.go_path_core.specs.text_core.declared.rule.Rule.TheVariants.{N8, S4, S8, C1, C2, C3, C4, X1}
use Rattle.go_tree_nodes.specs.declared.usage.Usage.TheVariants as usages
use Rattle.go_term_core.specs.declared.term.Basic.{Basic}
use Rattle.go_term_core.specs.declared.term.Basic.TheVariants as basics
use Rattle.go_constant_core.specs.declared.values.Constant.{Constant}
use Rattle.go_report_core.specs.operand_core.declared.types.ValueType.{ValueType}
use Rattle.go_report_core.specs.operand_core.declared.types.ValueType.TheVariants as value_types
use Rattle.go_report_core.specs.operand_core.declared.types.TypeForm.{TypeForm}
use Rattle.go_report_core.specs.operand_core.declared.types.TypeForm.TheVariants as forms
use Rattle.go_report_core.specs.operand_core.Assign.{takes_untyped}
use Rattle.go_report_core.specs.operand_core.declared.types.Operand.{Operand}
use Rattle.go_report_core.specs.operand_core.TypeRules.{TypeRules}
use Rattle.go_report_core.specs.operand_core.Values.{form_basic, basic_under, default_type}
use Rattle.go_report_core.specs.operand_core.Operators.{value}
use Rattle.go_report_core.specs.operand_core.Conversions.{kept, makes_text, fits}
use Rattle.go_report_core.specs.denote_core.declared.things.Stand.TheVariants as stands
use Rattle.go_report_core.specs.denote_core.declared.things.Outcome.{Outcome}
use Rattle.go_report_core.specs.denote_core.declared.things.Outcome.TheVariants as outcomes
use Rattle.go_report_core.specs.denote_core.declared.things.Denoted.{Denoted}
use Rattle.go_report_core.specs.denote_core.declared.things.Denoted.TheVariants as denotes
use Rattle.go_report_core.specs.denote_core.declared.things.Answer.{Answer}
use Rattle.go_report_core.specs.denote_core.declared.things.Argument.{Argument}
use Rattle.go_report_core.specs.denote_core.declared.things.Argument.TheVariants as arguments
use Rattle.go_report_core.specs.denote_core.declared.things.Found.{Found}
use Rattle.go_report_core.specs.denote_core.declared.things.Found.TheVariants as founds
use Rattle.go_report_core.specs.denote_core.declared.things.Exported.{Exported}
use Rattle.go_report_core.specs.denote_core.declared.things.Exported.TheVariants as exporteds
use Rattle.go_report_core.specs.denote_core.declared.things.Selection.{Selection}
use Rattle.go_report_core.specs.denote_core.declared.things.Selection.TheVariants as selections
use Rattle.go_report_core.specs.denote_core.declared.things.Dot.{Dot}
use Rattle.go_report_core.specs.denote_core.declared.things.Dot.TheVariants as dots
use Rattle.go_report_core.specs.denote_core.Look.{Look}
use Rattle.go_report_core.specs.denote_core.Answers.{declared, refused, value_of_type, found_answer, name_answer}
use Rattle.go_report_core.specs.denote_core.Selectors.{exported_answer, method_answer, member_answer, value_selector, selector_answer}
use Rattle.go_report_core.specs.denote_core.Arguments.{argument_of_result, arguments_of, is_free}
use Rattle.go_report_core.specs.denote_core.Calls.{of_results, of_conversion, convert_argument, conversion, free_call, call_answer}
use Rattle.go_report_core.specs.expr_core.Looks.{Looks, look_of_place}
use Rattle.go_object_core.specs.declared.instructions.letters.Word.{Word}
use Rattle.go_object_core.specs.declared.instructions.letters.Word.TheVariants as words
use Rattle.go_code_core.specs.declared.fragments.names.ConstantWord.{ConstantWord}
use Rattle.go_code_core.specs.declared.fragments.names.Gives.{Gives}
use Rattle.go_code_core.specs.declared.fragments.names.Gives.TheVariants as gives
use Rattle.go_code_core.specs.declared.fragments.names.Meaning.{Meaning}
use Rattle.go_code_core.specs.declared.fragments.names.Meaning.TheVariants as meanings
use Rattle.go_code_core.specs.fragments.Fragment.{call_gives, means_method}
use Rattle.go_code_core.specs.fragments.Constants.{some_held, converted}
use Rattle.go_workspace_laws.specs.folding.Reading.{basic_of, IsOver, IsOneOver, ResultsGive, IsTypeMeant, IsFunctionMeant, IsMethodMeant, IsFieldMeant, IsBuiltinMeant, IsFoundMeant, IsExportedMeant, IsSelectionMeant, IsMemberMeant, AreNamesRead}
use Rattle.go_workspace_laws.specs.folding.Laws.{IsNoText, constant_in, HasDeclaration}
use Rattle.go_workspace_laws.specs.folding.Typed.{KeepBasics}
use Rattle.go_workspace_laws.proofs.FoldingOperators.{IsJudged, operand_judged, IsNone, operand_or}
use Rattle.go_workspace_laws.proofs.FoldingWords.{basic_same}

-- what is called

-- what it comes to in code, where a call of it is not refused; what a call of a method gives follows where this is certain
abbrev pub IsCalleeMeant : {T S D P : Type 0} → Looks T S D P → Type 0 → Denoted T S D → Meaning → Type 0
IsCalleeMeant looks Certain (denotes.«Type» d t) m = IsTypeMeant looks.types t m
IsCalleeMeant looks Certain (denotes.Func d s) m = IsFunctionMeant looks.types (looks.results s) m ⊎ (IsFieldMeant m × (Certain → IsMethodMeant looks.types (looks.results s) m))
IsCalleeMeant looks Certain (denotes.Builtin d b) m = IsBuiltinMeant m
IsCalleeMeant looks Certain denotes.Refused m = ⊤
IsCalleeMeant looks Certain denotes.Typeless m = ⊤
IsCalleeMeant looks Certain (denotes.«Package» d) m = ⊤
IsCalleeMeant looks Certain (denotes.«Value» operand) m = ⊤
IsCalleeMeant looks Certain (denotes.Several s) m = ⊤
IsCalleeMeant looks Certain denotes.Nothing m = ⊤

-- no code is made of calls of it
pub other_callee : {T S D P : Type 0} (looks : Looks T S D P) (Certain : Type 0) (d : Denoted T S D) → IsCalleeMeant looks Certain d meanings.Other
other_callee looks Certain (denotes.«Type» d t) = tt
other_callee looks Certain (denotes.Func d s) = inl tt
other_callee looks Certain (denotes.Builtin d b) = tt
other_callee looks Certain denotes.Refused = tt
other_callee looks Certain denotes.Typeless = tt
other_callee looks Certain (denotes.«Package» d) = tt
other_callee looks Certain (denotes.«Value» operand) = tt
other_callee looks Certain (denotes.Several s) = tt
other_callee looks Certain denotes.Nothing = tt

-- a member that is no method is nothing that code is made of
member_gives : {T : Type 0} (rules : TypeRules T) (results : List (Option T)) (m : Meaning) → IsFieldMeant m → (means_method m ≡ true → IsMethodMeant rules results m) → IsMethodMeant rules results m
member_gives rules results (meanings.Method g) h sure = sure refl
member_gives rules results meanings.Other h sure = tt
member_gives rules results _ h sure = absurd h

-- the member that is selected of what stands left of a dot gives what its signature gives
abbrev pub IsDotMeant : {T S D P : Type 0} → Looks T S D P → (Outcome D P → Meaning) → List ℕ → Dot T D → Type 0
IsDotMeant {T} looks mean x (dots.«Value» o) = (t : T) → default_type looks.types o.value_type ≡ Some t → IsSelectionMeant looks mean (looks.select t x)
IsDotMeant {T} looks mean x dots.Refused = ⊤
IsDotMeant {T} looks mean x dots.Untyped = ⊤
IsDotMeant {T} looks mean x (dots.«Package» d) = ⊤

module _ {T S D P : Type 0} (looks : Looks T S D P) (mean : Outcome D P → Meaning) (Certain : Type 0) (m : Meaning) where
  found_callee : (f : Found T S D) → IsFoundMeant looks mean f → m ≡ mean (found_answer {P = P} stands.Callee f).outcome → IsCalleeMeant looks Certain (found_answer {P = P} stands.Callee f).denoted m
  found_callee founds.Missing h same = tt
  found_callee founds.BadImport h same = tt
  found_callee founds.Outside h same = tt
  found_callee (founds.«Package» d) h same = tt
  found_callee (founds.«Type» d t) h same = subst (IsTypeMeant looks.types t) (sym same) h
  found_callee (founds.Func d s) h same = inl (subst (IsFunctionMeant looks.types (looks.results s)) (sym same) h)
  found_callee (founds.Builtin d b) h same = subst IsBuiltinMeant (sym same) h
  found_callee (founds.«Value» d v) h same = tt

  exported_callee : (f : Exported T S D) → IsExportedMeant looks mean f → m ≡ mean (exported_answer {P = P} usages.Callee f).outcome → IsCalleeMeant looks Certain (exported_answer {P = P} usages.Callee f).denoted m
  exported_callee exporteds.Absent h same = tt
  exported_callee exporteds.Hidden h same = tt
  exported_callee (exporteds.«Type» d t) h same = subst (IsTypeMeant looks.types t) (sym same) h
  exported_callee (exporteds.Func d s) h same = inl (subst (IsFunctionMeant looks.types (looks.results s)) (sym same) h)
  exported_callee (exporteds.«Value» d v) h same = tt

  method_callee : (d : D) (path : P) (s : S) (b : Bool) → IsFieldMeant (mean (outcomes.Selected d path)) → (Certain → means_method m ≡ true → IsMethodMeant looks.types (looks.results s) (mean (outcomes.Selected d path)))
      → m ≡ mean (method_answer {T = T} {S = S} {D = D} {P = P} usages.Callee d path s b).outcome → IsCalleeMeant looks Certain (method_answer {T = T} {S = S} {D = D} {P = P} usages.Callee d path s b).denoted m
  method_callee d path s true h sure same =
      let field = subst IsFieldMeant (sym same) h in
      inr (field, λ certain. member_gives looks.types (looks.results s) m field (λ method. subst (IsMethodMeant looks.types (looks.results s)) (sym same) (sure certain method)))
  method_callee d path s false h sure same = tt

  member_callee : (addressable : Bool) (x : Selection T S D P) → IsMemberMeant {T = T} {S = S} {D = D} {P = P} mean x → (Certain → means_method m ≡ true → IsSelectionMeant looks mean x) → m ≡ mean (member_answer usages.Callee addressable x).outcome
      → IsCalleeMeant looks Certain (member_answer usages.Callee addressable x).denoted m
  member_callee addressable (selections.Missing rule) h sure same = tt
  member_callee addressable (selections.«Field» d path t by_pointer) h sure same = tt
  member_callee addressable (selections.Method d path s needs_pointer by_pointer) h sure same = method_callee d path s (not needs_pointer || (by_pointer || addressable)) h sure same

  module _ (read : AreNamesRead T S D P looks mean) (x : List ℕ) (n : ℕ) where
    pub name_callee : m ≡ mean (name_answer (look_of_place looks n) stands.Callee x).outcome → IsCalleeMeant looks Certain (name_answer (look_of_place looks n) stands.Callee x).denoted m
    name_callee = by (is_blank x)
      where
        by : (b : Bool) → m ≡ mean (if b then refused N8 else found_answer {P = P} stands.Callee (looks.find x n)).outcome → IsCalleeMeant looks Certain (if b then refused N8 else found_answer {P = P} stands.Callee (looks.find x n)).denoted m
        by true same = tt
        by false same = found_callee (looks.find x n) (read.names x n) same

    selected_callee : (addressable : Bool) (t : Option T) → (Certain → means_method m ≡ true → (u : T) → t ≡ Some u → IsSelectionMeant looks mean (looks.select u x)) → m ≡ mean (value_selector (look_of_place looks n) usages.Callee addressable t x).outcome → IsCalleeMeant looks Certain (value_selector (look_of_place looks n) usages.Callee addressable t x).denoted m
    selected_callee addressable None sure same = tt
    selected_callee addressable (Some t) sure same = member_callee addressable (looks.select t x) (read.members t x) (λ certain method. sure certain method t refl) same

    pub selector_callee : (dot : Dot T D) → (Certain → means_method m ≡ true → IsDotMeant looks mean x dot) → m ≡ mean (selector_answer (look_of_place looks n) usages.Callee dot x).outcome → IsCalleeMeant looks Certain (selector_answer (look_of_place looks n) usages.Callee dot x).denoted m
    selector_callee dots.Refused sure same = tt
    selector_callee dots.Untyped sure same = by (is_blank x)
      where
        by : (b : Bool) → IsCalleeMeant looks Certain (if b then refused S8 else refused {T = T} {S = S} {D = D} {P = P} S4).denoted m
        by true = tt
        by false = tt
    selector_callee (dots.«Package» d) sure same = by (is_blank x) same
      where
        by : (b : Bool) → m ≡ mean (if b then refused S8 else exported_answer {P = P} usages.Callee (looks.exported d x)).outcome → IsCalleeMeant looks Certain (if b then refused S8 else exported_answer {P = P} usages.Callee (looks.exported d x)).denoted m
        by true same = tt
        by false same = exported_callee (looks.exported d x) (read.exported d x) same
    selector_callee (dots.«Value» o) sure same = by (is_blank x) same
      where
        by : (b : Bool) → m ≡ mean (if b then refused S8 else value_selector (look_of_place looks n) usages.Callee o.addressable (default_type looks.types o.value_type) x).outcome
            → IsCalleeMeant looks Certain (if b then refused S8 else value_selector (look_of_place looks n) usages.Callee o.addressable (default_type looks.types o.value_type) x).denoted m
        by true same = tt
        by false same = selected_callee o.addressable (default_type looks.types o.value_type) sure same

-- functions and methods

given_one : {T : Type 0} (rules : TypeRules T) (results : List (Option T)) (g : Gives) (w : Word) → ResultsGive rules results g → g ≡ gives.One w → IsOneOver rules w results
given_one rules results g w h same = subst (ResultsGive rules results) same h

function_one : {T : Type 0} (rules : TypeRules T) (results : List (Option T)) (m : Meaning) (n : ℕ) (w : Word) → IsFunctionMeant rules results m → call_gives m n ≡ gives.One w → IsOneOver rules w results
function_one rules results (meanings.Function g) n w h one = given_one rules results g w h one
function_one rules results meanings.Other n w h one = absurd cc
function_one rules results _ n w h one = absurd h

method_one : {T : Type 0} (rules : TypeRules T) (results : List (Option T)) (m : Meaning) (n : ℕ) (w : Word) → IsMethodMeant rules results m → call_gives m n ≡ gives.One w → IsOneOver rules w results
method_one rules results (meanings.Method g) n w h one = given_one rules results g w h one
method_one rules results meanings.Other n w h one = absurd cc
method_one rules results _ n w h one = absurd h

function_converts : {T : Type 0} (rules : TypeRules T) (results : List (Option T)) (m : Meaning) (v : Option ConstantWord) → IsFunctionMeant rules results m → converted m v ≡ None
function_converts rules results (meanings.«Type» w) v h = absurd h
function_converts rules results _ v h = refl

member_converts : (m : Meaning) (v : Option ConstantWord) → IsFieldMeant m → converted m v ≡ None
member_converts (meanings.«Type» w) v h = absurd h
member_converts _ v h = refl

-- a value of a type, which is not constant
type_constant : {T : Type 0} (S D : Type 0) (b : Bool) (t : Option T) → constant_in (value_of_type {T = T} {S = S} {D = D} b t) ≡ None
type_constant S D b None = refl
type_constant S D b (Some t) = refl

results_constant : {T S : Type 0} (D : Type 0) (s : S) (results : List (Option T)) → constant_in (of_results {T = T} {S = S} {D = D} s results) ≡ None
results_constant D s [] = refl
results_constant {T} {S} D s (t ∷ []) = type_constant S D false t
results_constant D s (t ∷ (u ∷ more)) = refl

one_result : {T S D : Type 0} (rules : TypeRules T) (s : S) (results : List (Option T)) (w : Word) → IsOneOver rules w results → (o : Operand T) × (of_results {T = T} {S = S} {D = D} s results ≡ denotes.«Value» o)
one_result rules s [] w h = absurd h
one_result rules s (None ∷ []) w h = absurd h
one_result rules s (Some t ∷ []) w h = (value (value_types.Typed t) None, refl)
one_result rules s (t ∷ (u ∷ more)) w h = absurd h

result_over : {T S D : Type 0} (rules : TypeRules T) (s : S) (results : List (Option T)) (w : Word) → IsOneOver rules w results → (o : Operand T) → of_results {T = T} {S = S} {D = D} s results ≡ denotes.«Value» o
    → basic_under rules o.value_type ≡ Some (basic_of w)
result_over rules s [] w h o is = absurd h
result_over rules s (None ∷ []) w h o is = absurd h
result_over rules s (Some t ∷ []) w h o is = (let same : value (value_types.Typed t) None ≡ o = cc in subst (λ q. basic_under rules q.value_type ≡ Some (basic_of w)) same h)
result_over rules s (t ∷ (u ∷ more)) w h o is = absurd h

module _ {T S D P : Type 0} (look : Look T S D P) (Certain Known : Type 0) (certain : Known → Certain) (d : D) (s : S) (w : Word) (over : Certain → IsOneOver look.types w (look.names.results s)) where
  results_judged : IsJudged T S D look.types Certain Known w (of_results s (look.names.results s)) None
  results_judged = record {
    value = ap some_held (sym (results_constant D s (look.names.results s)));
    no_text = subst IsNoText (sym (results_constant D s (look.names.results s))) tt;
    operand = λ sure. one_result {D = D} look.types s (look.names.results s) w (over sure);
    over = λ known. result_over {D = D} look.types s (look.names.results s) w (over (certain known));
    word = λ known k is. absurd cc;
  }

  if_fits : (b c : Bool) → HasDeclaration (if b then (if c then declared {P = P} d (of_results s (look.names.results s)) else refused C3) else refused C2).outcome
      → IsJudged T S D look.types Certain Known w (if b then (if c then declared {P = P} d (of_results s (look.names.results s)) else refused C3) else refused C2).denoted None
  if_fits true true is = results_judged
  if_fits true false is = absurd is
  if_fits false c is = absurd is

  function_judged : (free : Bool) (given : List (Argument T)) → HasDeclaration (call_answer look (denotes.Func d s) free given).outcome
      → IsJudged T S D look.types Certain Known w (call_answer look (denotes.Func d s) free given).denoted None
  function_judged true given is = results_judged
  function_judged false given is = if_fits _ _ is

-- conversions

keeps : (b : Option Basic) (basic : Basic) (c : Option Constant) → b ≡ Some basic → kept b c ≡ c
keeps None basic c h = absurd cc
keeps (Some b) basic c h = refl

-- what fits a type over bool, int or string is over the same

untyped_fits : {T : Type 0} (b : Basic) (implements : Bool) (f : TypeForm T) (c : Basic) → form_basic f ≡ Some c → takes_untyped b implements f ≡ true → Some b ≡ Some c
untyped_fits b implements forms.Nothing c form h = absurd cc
untyped_fits b implements (forms.Basic x) c form h = sym (basic_same b x h) ∙ form
untyped_fits b implements (forms.Pointer t) c form h = absurd cc
untyped_fits b implements forms.Struct c form h = absurd cc
untyped_fits b implements forms.Interface c form h = absurd cc

either : (a b : Bool) → a || b ≡ true → (a ≡ true) ⊎ (b ≡ true)
either true b h = inl refl
either false b h = inr h

no_type : (b : Bool) → b || false ≡ true → b ≡ true
no_type true h = refl
no_type false h = absurd cc

module _ {T : Type 0} (rules : TypeRules T) (keep : KeepBasics rules) (t : T) (c : Basic) (form : form_basic (rules.form t) ≡ Some c) where
  fitting : (v : ValueType T) (b : Basic) → basic_under rules v ≡ Some b → fits rules v t ≡ true → Some b ≡ Some c
  fitting (value_types.Typed s) b under h = elim (either (rules.assignable s t) (rules.convertible s t) h) [
    | inl a ↦ ap Some (keep.assignable s t b c a under form)
    | inr a ↦ ap Some (keep.convertible s t b c a under form)
  ]
  fitting value_types.UntypedInt b under h = sym under ∙ untyped_fits basics.Int _ (rules.form t) c form (no_type _ h)
  fitting value_types.UntypedText b under h = sym under ∙ untyped_fits basics.Text _ (rules.form t) c form (no_type _ h)
  fitting value_types.UntypedBool b under h = sym under ∙ untyped_fits basics.Bool _ (rules.form t) c form (no_type _ h)
  fitting value_types.Nil b under h = absurd cc

word_same : (u w : Word) → Some (basic_of u) ≡ Some (basic_of w) → u ≡ w
word_same words.Int words.Int h = refl
word_same words.Bool words.Bool h = refl
word_same words.Int words.Bool h = absurd cc
word_same words.Bool words.Int h = absurd cc

none_kept : (b : Option Basic) (c : Option Constant) → c ≡ None → kept b c ≡ None
none_kept None c h = refl
none_kept (Some b) c h = h

module _ {T S D P : Type 0} (look : Look T S D P) (d : D) where
  -- of what is not constant no conversion is

  if_none : (b c : Bool) (v : ValueType T) (k : Option Constant) → k ≡ None → constant_in (of_conversion {T = T} {S = S} {D = D} {P = P} d (if b then Err X1 else (if c then Ok (value v k) else Err C4))).denoted ≡ None
  if_none true c v k h = refl
  if_none false true v k h = h
  if_none false false v k h = refl

  -- an argument that is not constant
  abbrev IsNotConstant : Argument T → Type 0
  IsNotConstant (arguments.«Value» o) = o.constant ≡ None
  IsNotConstant arguments.Void = ⊤
  IsNotConstant arguments.Refused = ⊤

  argument_none : (t : Option T) (a : Argument T) → IsNotConstant a → constant_in (convert_argument look d t a).denoted ≡ None
  argument_none t arguments.Refused h = type_constant S D false t
  argument_none t arguments.Void h = refl
  argument_none None (arguments.«Value» o) h = refl
  argument_none (Some t) (arguments.«Value» o) h =
      if_none (makes_text look.types o.value_type t) (fits look.types o.value_type t) (value_types.Typed t) (kept (form_basic (look.types.form t)) o.constant) (none_kept (form_basic (look.types.form t)) o.constant h)

  result_none : (r : Option T) → IsNotConstant (argument_of_result r)
  result_none None = tt
  result_none (Some t) = refl

  several_none : (t : Option T) (results : List (Option T)) → constant_in (conversion look d t (map argument_of_result results)).denoted ≡ None
  several_none t [] = refl
  several_none t (r ∷ []) = argument_none t (argument_of_result r) (result_none r)
  several_none t (r ∷ (q ∷ more)) = refl

  free_none : (b : Bool) (t : Option T) (a : Argument T) → IsNotConstant a → constant_in (if b then free_call look (denotes.«Type» d t) else conversion look d t (a ∷ [])).denoted ≡ None
  free_none true t a h = type_constant S D false t
  free_none false t a h = argument_none t a h

  -- what a conversion makes of this alone
  abbrev pub Converted : Bool → Option T → Denoted T S D → Answer T S D P
  Converted lone t x = call_answer look (denotes.«Type» d t) (is_free {T = T} {S = S} {D = D} lone (x ∷ [])) (arguments_of look (x ∷ []))

  no_operand : (lone : Bool) (t : Option T) (x : Denoted T S D) → IsNone T S D x → constant_in (Converted lone t x).denoted ≡ None
  no_operand lone t (denotes.«Value» o) n = absurd (n.never o refl)
  no_operand lone t denotes.Refused n = free_none (lone && true) t arguments.Refused tt
  no_operand lone t denotes.Typeless n = free_none (lone && true) t arguments.Refused tt
  no_operand lone t (denotes.«Package» p) n = free_none (lone && false) t arguments.Refused tt
  no_operand lone t (denotes.«Type» e u) n = free_none (lone && false) t arguments.Refused tt
  no_operand lone t denotes.Nothing n = free_none (lone && false) t arguments.Void tt
  no_operand lone t (denotes.Func e s) n = free_none (lone && false) t arguments.Refused tt
  no_operand lone t (denotes.Builtin e b) n = free_none (lone && false) t arguments.Refused tt
  no_operand true t (denotes.Several s) n = several_none t (look.names.results s)
  no_operand false t (denotes.Several s) n = several_none t (look.names.results s)

module _ {T S D P : Type 0} (look : Look T S D P) (Certain Known : Type 0) (certain : Known → Certain) (keep : Known → KeepBasics look.types) (d : D) (v : Option ConstantWord) (u : Word) where
  module _ (o : Operand T) (a : IsJudged T S D look.types Certain Known u (denotes.«Value» o) v) where
    if_converts : (b c : Bool) (t : T) (w : Word) → form_basic (look.types.form t) ≡ Some (basic_of w) → fits look.types o.value_type t ≡ c
        → HasDeclaration (of_conversion {T = T} {S = S} {D = D} {P = P} d (if b then Err X1 else (if c then Ok (value (value_types.Typed t) (kept (form_basic (look.types.form t)) o.constant)) else Err C4))).outcome
        → IsJudged T S D look.types Certain Known w
        (of_conversion {T = T} {S = S} {D = D} {P = P} d (if b then Err X1 else (if c then Ok (value (value_types.Typed t) (kept (form_basic (look.types.form t)) o.constant)) else Err C4))).denoted v
    if_converts true c t w h fit is = absurd is
    if_converts false true t w h fit is =
        let same : kept (form_basic (look.types.form t)) o.constant ≡ o.constant = keeps (form_basic (look.types.form t)) (basic_of w) o.constant h in
        operand_judged S D look.types Certain Known w (value (value_types.Typed t) (kept (form_basic (look.types.form t)) o.constant)) v (a.value ∙ ap some_held (sym same)) (subst IsNoText (sym same) a.no_text)
        (λ known. h)
        (λ known k is_k. a.word known k is_k ∙ word_same u w (fitting look.types (keep known) t (basic_of w) h o.value_type (basic_of u) (a.over known o refl) fit))
    if_converts false false t w h fit is = absurd is

    operand_converts : (lone : Bool) (t : Option T) (w : Word) → IsOver look.types w t → HasDeclaration (Converted look d lone t (denotes.«Value» o)).outcome
        → IsJudged T S D look.types Certain Known w (Converted look d lone t (denotes.«Value» o)).denoted v
    operand_converts lone None w h is = absurd h
    operand_converts true (Some t) w h is = if_converts (makes_text look.types o.value_type t) (fits look.types o.value_type t) t w h refl is
    operand_converts false (Some t) w h is = if_converts (makes_text look.types o.value_type t) (fits look.types o.value_type t) t w h refl is

  -- a conversion of what is denoted
  conversion_judged : (lone : Bool) (t : Option T) (w : Word) (x : Denoted T S D) → IsJudged T S D look.types Certain Known u x v → IsOver look.types w t → HasDeclaration (Converted look d lone t x).outcome
      → IsJudged T S D look.types Certain Known w (Converted look d lone t x).denoted v
  conversion_judged lone t w x a h is = elim (operand_or x) [
    | inl o ↦ (
        let P : Denoted T S D → Type 0 = λ y. IsJudged T S D look.types Certain Known u y v → HasDeclaration (Converted look d lone t y).outcome → IsJudged T S D look.types Certain Known w (Converted look d lone t y).denoted v in
        let whole : P x = subst P (sym o.1) (λ b. operand_converts o.0 b lone t w h) in
        whole a is
        )
    | inr n ↦ (
        let none : constant_in (Converted look d lone t x).denoted ≡ None = no_operand look d lone t x n in
        let v_none : v ≡ None = a.value ∙ ap some_held n.constant in
        let never : Certain → ⊥ = λ sure. n.never (a.operand sure).0 (a.operand sure).1 in
        record {
          value = v_none ∙ ap some_held (sym none);
          no_text = subst IsNoText (sym none) tt;
          operand = λ sure. absurd (never sure);
          over = λ known o is_o. absurd (never (certain known));
          word = λ known k is_k. absurd (never (certain known));
        }
        )
  ]

-- calls

-- the one argument of a list, and what code folds it to
pub record IsOneArgument (T S D : Type 0) (rules : TypeRules T) (Certain Known : Type 0) (ds : List (Denoted T S D)) (v : Option ConstantWord) : Type 0 where
  pub argument : Denoted T S D
  pub alone : ds ≡ argument ∷ []
  pub word : Word
  pub judged : IsJudged T S D rules Certain Known word argument v

no_builtin : (m : Meaning) (n : ℕ) (w : Word) → IsBuiltinMeant m → call_gives m n ≡ gives.One w → ⊥
no_builtin meanings.Println n w h one = cc
no_builtin meanings.Panic n w h one = by (nat_eq n 1) one
  where
    by : (b : Bool) → (if b then gives.Nothing else gives.Other) ≡ gives.One w → ⊥
    by true one = cc
    by false one = cc
no_builtin meanings.Other n w h one = cc
no_builtin _ n w h one = absurd h

if_word : (b : Bool) (w v : Word) → (if b then gives.One w else gives.Other) ≡ gives.One v → (b ≡ true) × (w ≡ v)
if_word true w v h = (refl, cc)
if_word false w v h = absurd cc

module _ {T S D P : Type 0} (looks : Looks T S D P) (Certain Known : Type 0) (certain : Known → Certain) (keep : Known → KeepBasics looks.types) (n : ℕ) (lone : Bool) (ds : List (Denoted T S D)) (v : Option ConstantWord) (count : ℕ)
    (argument : nat_eq count 1 ≡ true → IsOneArgument T S D looks.types Certain Known ds v) (w : Word) where
  -- the call of this with these arguments
  abbrev Called : Denoted T S D → List (Denoted T S D) → Answer T S D P
  Called callee l = call_answer (look_of_place looks n) callee (is_free {T = T} {S = S} {D = D} lone l) (arguments_of (look_of_place looks n) l)

  abbrev Judged : Answer T S D P → Option ConstantWord → Type 0
  Judged a c = IsJudged T S D looks.types Certain Known w a.denoted c

  refused_call : {A : Type 0} (b : Bool) → HasDeclaration (if b then refused {T = T} {S = S} {D = D} {P = P} C1 else refused C1).outcome → A
  refused_call true is = absurd is
  refused_call false is = absurd is

  type_call : (d : D) (t : Option T) (m : Meaning) → IsTypeMeant looks.types t m → call_gives m count ≡ gives.One w → HasDeclaration (Called (denotes.«Type» d t) ds).outcome → Judged (Called (denotes.«Type» d t) ds) (converted m v)
  type_call d t (meanings.«Type» u) h one is =
      let single : (nat_eq count 1 ≡ true) × (u ≡ w) = if_word (nat_eq count 1) u w one in
      let a : IsOneArgument T S D looks.types Certain Known ds v = argument single.0 in
      let there : HasDeclaration (Called (denotes.«Type» d t) (a.argument ∷ [])).outcome = subst (λ l. HasDeclaration (Called (denotes.«Type» d t) l).outcome) a.alone is in
      subst (λ l. Judged (Called (denotes.«Type» d t) l) v) (sym a.alone)
      (conversion_judged (look_of_place looks n) Certain Known certain keep d v a.word lone t w a.argument a.judged (subst (λ x. IsOver looks.types x t) single.1 h) there)
  type_call d t meanings.Other h one is = absurd cc
  type_call d t _ h one is = absurd h

  function_call : (d : D) (s : S) (m : Meaning) → IsFunctionMeant looks.types (looks.results s) m ⊎ (IsFieldMeant m × (Certain → IsMethodMeant looks.types (looks.results s) m)) → call_gives m count ≡ gives.One w
      → (free : Bool) (given : List (Argument T)) → HasDeclaration (call_answer (look_of_place looks n) (denotes.Func d s) free given).outcome → Judged (call_answer (look_of_place looks n) (denotes.Func d s) free given) (converted m v)
  function_call d s m (inl f) one free given is =
      subst (Judged (call_answer (look_of_place looks n) (denotes.Func d s) free given)) (sym (function_converts looks.types (looks.results s) m v f))
      (function_judged (look_of_place looks n) Certain Known certain d s w (λ sure. function_one looks.types (looks.results s) m count w f one) free given is)
  function_call d s m (inr k) one free given is =
      subst (Judged (call_answer (look_of_place looks n) (denotes.Func d s) free given)) (sym (member_converts m v k.0))
      (function_judged (look_of_place looks n) Certain Known certain d s w (λ sure. method_one looks.types (looks.results s) m count w (k.1 sure) one) free given is)

  -- a call of what comes to this in code
  pub call_judged : (callee : Denoted T S D) (m : Meaning) → IsCalleeMeant looks Certain callee m → call_gives m count ≡ gives.One w → HasDeclaration (Called callee ds).outcome → Judged (Called callee ds) (converted m v)
  call_judged (denotes.«Type» d t) m h one is = type_call d t m h one is
  call_judged (denotes.Func d s) m h one is = function_call d s m h one _ _ is
  call_judged (denotes.Builtin d b) m h one is = absurd (no_builtin m count w h one)
  call_judged denotes.Refused m h one is = refused_call _ is
  call_judged denotes.Typeless m h one is = refused_call _ is
  call_judged (denotes.«Package» d) m h one is = refused_call _ is
  call_judged (denotes.«Value» o) m h one is = refused_call _ is
  call_judged (denotes.Several s) m h one is = refused_call _ is
  call_judged denotes.Nothing m h one is = refused_call _ is
