-- Names and selectors: what code takes them for is what they denote.
use Rattle.std.proofs.Common.{◌≡◌, ℕ, Bool, true, false, ◌||◌, not, List, Option, Some, None, refl, sym, ◌∙◌, ap, subst, if◌then◌else◌}
use Rattle.std.specs.Prelude.{is_some}
use Rattle.go_path_core.specs.text_core.Text.{is_blank}
use Rattle.go_path_core.specs.text_core.declared.rule.Rule.TheVariants.{N8, S4, S8}
use Rattle.go_tree_nodes.specs.declared.usage.Usage.{Usage}
use Rattle.go_tree_nodes.specs.declared.usage.Usage.TheVariants as usages
use Rattle.go_constant_core.specs.declared.values.Constant.{Constant}
use Rattle.go_constant_core.specs.declared.values.Constant.TheVariants as values
use Rattle.go_report_core.specs.operand_core.declared.types.Operand.{Operand}
use Rattle.go_report_core.specs.operand_core.TypeRules.{TypeRules}
use Rattle.go_report_core.specs.operand_core.declared.types.ValueType.{ValueType}
use Rattle.go_report_core.specs.operand_core.Values.{basic_under, default_type}
use Rattle.go_report_core.specs.denote_core.declared.things.Stand.{Stand}
use Rattle.go_report_core.specs.denote_core.declared.things.Stand.TheVariants as stands
use Rattle.go_report_core.specs.denote_core.declared.things.Outcome.{Outcome}
use Rattle.go_report_core.specs.denote_core.declared.things.Outcome.TheVariants as outcomes
use Rattle.go_report_core.specs.denote_core.declared.things.Denoted.{Denoted}
use Rattle.go_report_core.specs.denote_core.declared.things.Denoted.TheVariants as denotes
use Rattle.go_report_core.specs.denote_core.declared.things.Answer.{Answer}
use Rattle.go_report_core.specs.denote_core.declared.things.Found.{Found}
use Rattle.go_report_core.specs.denote_core.declared.things.Found.TheVariants as founds
use Rattle.go_report_core.specs.denote_core.declared.things.Exported.{Exported}
use Rattle.go_report_core.specs.denote_core.declared.things.Exported.TheVariants as exporteds
use Rattle.go_report_core.specs.denote_core.declared.things.Selection.{Selection}
use Rattle.go_report_core.specs.denote_core.declared.things.Selection.TheVariants as selections
use Rattle.go_report_core.specs.denote_core.declared.things.Dot.{Dot}
use Rattle.go_report_core.specs.denote_core.declared.things.Dot.TheVariants as dots
use Rattle.go_report_core.specs.denote_core.Answers.{refused, of_value, package_answer, type_answer, func_answer, value_answer, found_answer, name_answer}
use Rattle.go_report_core.specs.denote_core.Selectors.{usage_place, exported_answer, field_answer, method_answer, member_answer, value_selector, selector_answer}
use Rattle.go_report_core.specs.expr_core.Looks.{Looks, look_of_place}
use Rattle.go_object_core.specs.declared.instructions.letters.Word.{Word}
use Rattle.go_code_core.specs.declared.fragments.names.ConstantWord.{ConstantWord}
use Rattle.go_code_core.specs.declared.fragments.names.Gives.{Gives}
use Rattle.go_code_core.specs.declared.fragments.names.Gives.TheVariants as gives
use Rattle.go_code_core.specs.declared.fragments.names.Meaning.{Meaning}
use Rattle.go_code_core.specs.declared.fragments.names.Meaning.TheVariants as meanings
use Rattle.go_code_core.specs.fragments.Fragment.{meaning_gives, selected_gives}
use Rattle.go_code_core.specs.fragments.Constants.{held, some_held, folded_name}
use Rattle.go_code_core.specs.fragments.Names.{slot_of, word_of}
use Rattle.go_workspace_laws.specs.folding.Reading.{held_meaning, basic_of, IsVariableMeant, IsOperandMeant, IsValueMeant, IsTypeMeant, IsFunctionMeant, IsFieldMeant, IsBuiltinMeant, IsFoundMeant, IsExportedMeant, IsMemberMeant, AreNamesRead}
use Rattle.go_workspace_laws.specs.folding.Laws.{is_text, IsNoText, HasDeclaration}
use Rattle.go_workspace_laws.specs.folding.Typed.{IsOperandTyped, IsValueTyped, IsFoundTyped, IsExportedTyped, AreTyped}
use Rattle.go_workspace_laws.proofs.FoldingOperators.{IsJudged, operand_judged}
use Rattle.go_workspace_laws.proofs.FoldingWords.{one_same}

-- no type, function or field gives a word by its name alone
module _ (slots : List (Option ℕ)) where
  type_gives : {T : Type 0} (rules : TypeRules T) (t : Option T) (m : Meaning) → IsTypeMeant rules t m → meaning_gives slots m ≡ gives.Other
  type_gives rules t (meanings.«Type» w) h = refl
  type_gives rules t meanings.Other h = refl
  type_gives rules t _ h = absurd h

  function_gives : {T : Type 0} (rules : TypeRules T) (results : List (Option T)) (m : Meaning) → IsFunctionMeant rules results m → meaning_gives slots m ≡ gives.Other
  function_gives rules results (meanings.Function g) h = refl
  function_gives rules results meanings.Other h = refl
  function_gives rules results _ h = absurd h

  field_gives : (m : Meaning) → IsFieldMeant m → meaning_gives slots m ≡ gives.Other
  field_gives (meanings.Method g) h = refl
  field_gives meanings.Other h = refl
  field_gives _ h = absurd h

  builtin_gives : (m : Meaning) → IsBuiltinMeant m → meaning_gives slots m ≡ gives.Other
  builtin_gives meanings.Println h = refl
  builtin_gives meanings.Panic h = refl
  builtin_gives meanings.Other h = refl
  builtin_gives _ h = absurd h

  -- what is selected gives what it would give as a name
  pub selected_name : (m : Meaning) (w : Word) → selected_gives m ≡ gives.One w → meaning_gives slots m ≡ gives.One w
  selected_name (meanings.Constant v) w h = h
  selected_name _ w h = absurd cc

-- constants and variables

variable_folds : (m : Meaning) → IsVariableMeant m → folded_name m ≡ None
variable_folds (meanings.Variable at w) h = refl
variable_folds meanings.Other h = refl
variable_folds _ h = absurd h

held_folds : (v : Option ConstantWord) → folded_name (held_meaning v) ≡ v
held_folds None = refl
held_folds (Some v) = refl

gives_no_text : (slots : List (Option ℕ)) (c : Constant) (w : Word) → meaning_gives slots (held_meaning (held c)) ≡ gives.One w → is_text c ≡ false
gives_no_text slots (values.Int z) w h = refl
gives_no_text slots (values.Bool b) w h = refl
gives_no_text slots (values.Text t) w h = absurd cc
gives_no_text slots values.Unknown w h = refl

never_both : {A : Type 0} (g : Gives) (w : Word) → g ≡ gives.One w → g ≡ gives.Other → A
never_both g w one other = absurd cc

-- what gives a word by its name is over it

variable_word : (b : Bool) (u w : Word) → (if b then gives.One u else gives.Other) ≡ gives.One w → u ≡ w
variable_word true u w h = one_same u w h
variable_word false u w h = absurd cc

name_over : {T : Type 0} (rules : TypeRules T) (slots : List (Option ℕ)) (t : ValueType T) (m : Meaning) (w : Word) → meaning_gives slots m ≡ gives.One w → IsOperandTyped rules t m → basic_under rules t ≡ Some (basic_of w)
name_over rules slots t (meanings.Variable at u) w one h = h ∙ ap (λ x. Some (basic_of x)) (variable_word (is_some (slot_of slots at)) u w one)
name_over rules slots t (meanings.Constant v) w one h = h ∙ ap (λ x. Some (basic_of x)) (one_same (word_of v) w one)
name_over rules slots t _ w one h = absurd cc

name_word : (slots : List (Option ℕ)) (m : Meaning) (w : Word) → meaning_gives slots m ≡ gives.One w → (k : ConstantWord) → folded_name m ≡ Some k → word_of k ≡ w
name_word slots (meanings.Constant v) w one k h = (let same : v ≡ k = cc in ap word_of (sym same) ∙ one_same (word_of v) w one)
name_word slots _ w one k h = absurd cc

module _ {T : Type 0} (S D : Type 0) (rules : TypeRules T) (Certain Known : Type 0) (slots : List (Option ℕ)) (m : Meaning) (w : Word) (one : meaning_gives slots m ≡ gives.One w) where
  found_operand : (o : Operand T) (c : Option Constant) → c ≡ o.constant → IsOperandMeant c m → (Known → IsOperandTyped rules o.value_type m) → IsJudged T S D rules Certain Known w (denotes.«Value» o) (folded_name m)
  found_operand o None same h typed =
      operand_judged S D rules Certain Known w o (folded_name m) (variable_folds m h ∙ ap some_held same) (subst IsNoText same tt)
      (λ known. name_over rules slots o.value_type m w one (typed known)) (λ known. name_word slots m w one)
  found_operand o (Some c) same h typed =
      operand_judged S D rules Certain Known w o (folded_name m) (ap folded_name h ∙ (held_folds (held c) ∙ ap some_held same))
      (subst IsNoText same (gives_no_text slots c w (subst (λ k. meaning_gives slots k ≡ gives.One w) h one)))
      (λ known. name_over rules slots o.value_type m w one (typed known)) (λ known. name_word slots m w one)

  value_judged : (v : Option (Operand T)) → IsValueMeant v m → (Known → IsValueTyped rules v m) → IsJudged T S D rules Certain Known w (of_value v) (folded_name m)
  value_judged None h typed = never_both (meaning_gives slots m) w one (ap (meaning_gives slots) h)
  value_judged (Some o) h typed = found_operand o o.constant refl h typed

-- what is declared, by what was found

record Declares (T S D P : Type 0) (answer : Answer T S D P) (d : D) (denoted : Denoted T S D) : Type 0 where
  outcome : answer.outcome ≡ outcomes.Declared d
  denotes : answer.denoted ≡ denoted

module _ {T S D P : Type 0} where
  package_declares : (p : Stand) (d : D) → HasDeclaration (package_answer {T = T} {S = S} {D = D} {P = P} p d).outcome → Declares T S D P (package_answer p d) d (denotes.«Package» d)
  package_declares stands.BeforeDot d h = record { outcome = refl; denotes = refl }
  package_declares stands.TypeDot d h = record { outcome = refl; denotes = refl }
  package_declares stands.«Type» d h = absurd h
  package_declares stands.«Value» d h = absurd h
  package_declares stands.Callee d h = absurd h

  type_declares : (p : Stand) (d : D) (t : Option T) → HasDeclaration (type_answer {T = T} {S = S} {D = D} {P = P} p d t).outcome → Declares T S D P (type_answer p d t) d (denotes.«Type» d t)
  type_declares stands.«Type» d t h = record { outcome = refl; denotes = refl }
  type_declares stands.Callee d t h = record { outcome = refl; denotes = refl }
  type_declares stands.TypeDot d t h = absurd h
  type_declares stands.«Value» d t h = absurd h
  type_declares stands.BeforeDot d t h = absurd h

  func_declares : (p : Stand) (d : D) (func : Denoted T S D) → HasDeclaration (func_answer {T = T} {S = S} {D = D} {P = P} p d func).outcome → Declares T S D P (func_answer p d func) d func
  func_declares stands.Callee d func h = record { outcome = refl; denotes = refl }
  func_declares stands.«Type» d func h = absurd h
  func_declares stands.TypeDot d func h = absurd h
  func_declares stands.«Value» d func h = absurd h
  func_declares stands.BeforeDot d func h = absurd h

  value_declares : (p : Stand) (d : D) (v : Option (Operand T)) → HasDeclaration (value_answer {T = T} {S = S} {D = D} {P = P} p d v).outcome → Declares T S D P (value_answer p d v) d (of_value v)
  value_declares stands.«Value» d v h = record { outcome = refl; denotes = refl }
  value_declares stands.BeforeDot d v h = record { outcome = refl; denotes = refl }
  value_declares stands.«Type» d v h = absurd h
  value_declares stands.TypeDot d v h = absurd h
  value_declares stands.Callee d v h = absurd h

-- a name or a selector that gives a word: it is the operand that it stands for

module _ {T S D P : Type 0} (looks : Looks T S D P) (mean : Outcome D P → Meaning) (Certain Known : Type 0) (slots : List (Option ℕ)) (m : Meaning) (w : Word) (one : meaning_gives slots m ≡ gives.One w) where
  -- what is declared comes to what its declaration comes to
  came : {a : Answer T S D P} {d : D} {x : Denoted T S D} → Declares T S D P a d x → m ≡ mean a.outcome → mean (outcomes.Declared d) ≡ m
  came is same = sym (same ∙ ap mean is.outcome)

  not_this : {A : Type 0} → meaning_gives slots m ≡ gives.Other → A
  not_this other = never_both (meaning_gives slots m) w one other

  judged_value : (a : Answer T S D P) (d : D) (v : Option (Operand T)) → Declares T S D P a d (of_value v) → IsValueMeant v (mean (outcomes.Declared d)) → (Known → IsValueTyped looks.types v (mean (outcomes.Declared d))) → m ≡ mean a.outcome
      → IsJudged T S D looks.types Certain Known w a.denoted (folded_name m)
  judged_value a d v is h typed same =
      subst (λ x. IsJudged T S D looks.types Certain Known w x (folded_name m)) (sym is.denotes)
      (value_judged S D looks.types Certain Known slots m w one v (subst (IsValueMeant v) (came is same) h) (λ known. subst (IsValueTyped looks.types v) (came is same) (typed known)))

  found_judged : (p : Stand) (f : Found T S D) → IsFoundMeant looks mean f → (Known → IsFoundTyped looks mean f) → HasDeclaration (found_answer {P = P} p f).outcome → m ≡ mean (found_answer {P = P} p f).outcome
      → IsJudged T S D looks.types Certain Known w (found_answer {P = P} p f).denoted (folded_name m)
  found_judged p founds.Missing h typed is same = absurd is
  found_judged p founds.BadImport h typed is same = absurd is
  found_judged p founds.Outside h typed is same = absurd is
  found_judged p (founds.«Package» d) h typed is same = not_this (ap (meaning_gives slots) (sym (came (package_declares p d is) same) ∙ h))
  found_judged p (founds.«Type» d t) h typed is same = not_this (type_gives slots looks.types t m (subst (IsTypeMeant looks.types t) (came (type_declares p d t is) same) h))
  found_judged p (founds.Func d s) h typed is same =
      not_this (function_gives slots looks.types (looks.results s) m (subst (IsFunctionMeant looks.types (looks.results s)) (came (func_declares p d (denotes.Func d s) is) same) h))
  found_judged p (founds.Builtin d b) h typed is same = not_this (builtin_gives slots m (subst IsBuiltinMeant (came (func_declares p d (denotes.Builtin d b) is) same) h))
  found_judged p (founds.«Value» d v) h typed is same = judged_value (value_answer p d v) d v (value_declares p d v is) h typed same

  exported_judged : (u : Usage) (f : Exported T S D) → IsExportedMeant looks mean f → (Known → IsExportedTyped looks mean f) → HasDeclaration (exported_answer {P = P} u f).outcome → m ≡ mean (exported_answer {P = P} u f).outcome
      → IsJudged T S D looks.types Certain Known w (exported_answer {P = P} u f).denoted (folded_name m)
  exported_judged u exporteds.Absent h typed is same = absurd is
  exported_judged u exporteds.Hidden h typed is same = absurd is
  exported_judged u (exporteds.«Type» d t) h typed is same = not_this (type_gives slots looks.types t m (subst (IsTypeMeant looks.types t) (came (type_declares (usage_place u) d t is) same) h))
  exported_judged u (exporteds.Func d s) h typed is same =
      not_this (function_gives slots looks.types (looks.results s) m (subst (IsFunctionMeant looks.types (looks.results s)) (came (func_declares (usage_place u) d (denotes.Func d s) is) same) h))
  exported_judged u (exporteds.«Value» d v) h typed is same = judged_value (value_answer (usage_place u) d v) d v (value_declares (usage_place u) d v is) h typed same

  -- a member gives none
  field_never : {A : Type 0} (u : Usage) (d : D) (path : P) (t : Option T) (b : Bool) → IsFieldMeant (mean (outcomes.Selected d path)) → HasDeclaration (field_answer {T = T} {S = S} {D = D} {P = P} u d path t b).outcome
      → m ≡ mean (field_answer {T = T} {S = S} {D = D} {P = P} u d path t b).outcome → A
  field_never usages.Callee d path t b h is same = absurd is
  field_never usages.«Type» d path t b h is same = not_this (field_gives slots m (subst IsFieldMeant (sym same) h))
  field_never usages.«Value» d path t b h is same = not_this (field_gives slots m (subst IsFieldMeant (sym same) h))

  method_never : {A : Type 0} (u : Usage) (d : D) (path : P) (s : S) (b : Bool) → IsFieldMeant (mean (outcomes.Selected d path)) → HasDeclaration (method_answer {T = T} {S = S} {D = D} {P = P} u d path s b).outcome
      → m ≡ mean (method_answer {T = T} {S = S} {D = D} {P = P} u d path s b).outcome → A
  method_never usages.Callee d path s true h is same = not_this (field_gives slots m (subst IsFieldMeant (sym same) h))
  method_never usages.Callee d path s false h is same = absurd is
  method_never usages.«Type» d path s b h is same = absurd is
  method_never usages.«Value» d path s b h is same = absurd is

  member_never : {A : Type 0} (u : Usage) (addressable : Bool) (x : Selection T S D P) → IsMemberMeant {T = T} {S = S} {D = D} {P = P} mean x → HasDeclaration (member_answer u addressable x).outcome → m ≡ mean (member_answer u addressable x).outcome → A
  member_never u addressable (selections.Missing rule) h is same = absurd is
  member_never u addressable (selections.«Field» d path t by_pointer) h is same = field_never u d path t (by_pointer || addressable) h is same
  member_never u addressable (selections.Method d path s needs_pointer by_pointer) h is same = method_never u d path s (not needs_pointer || (by_pointer || addressable)) h is same

  module _ (read : AreNamesRead T S D P looks mean) (typed : Known → AreTyped T S D P looks mean) (x : List ℕ) (n : ℕ) where
    -- a name where it stands
    pub name_judged : (p : Stand) → HasDeclaration (name_answer (look_of_place looks n) p x).outcome → m ≡ mean (name_answer (look_of_place looks n) p x).outcome → IsJudged T S D looks.types Certain Known w (name_answer (look_of_place looks n) p x).denoted (folded_name m)
    name_judged p = by (is_blank x)
      where
        by : (b : Bool) → HasDeclaration (if b then refused N8 else found_answer {P = P} p (looks.find x n)).outcome → m ≡ mean (if b then refused N8 else found_answer {P = P} p (looks.find x n)).outcome
            → IsJudged T S D looks.types Certain Known w (if b then refused N8 else found_answer {P = P} p (looks.find x n)).denoted (folded_name m)
        by true is same = absurd is
        by false is same = found_judged p (looks.find x n) (read.names x n) (λ known. (typed known).names x n) is same

    member_judged : (u : Usage) (addressable : Bool) (t : Option T) → HasDeclaration (value_selector (look_of_place looks n) u addressable t x).outcome → m ≡ mean (value_selector (look_of_place looks n) u addressable t x).outcome
        → IsJudged T S D looks.types Certain Known w (value_selector (look_of_place looks n) u addressable t x).denoted (folded_name m)
    member_judged u addressable None is same = absurd is
    member_judged u addressable (Some t) is same = member_never u addressable (looks.select t x) (read.members t x) is same

    -- a selector, by what stands left of its dot
    pub selector_judged : (u : Usage) (dot : Dot T D) → HasDeclaration (selector_answer (look_of_place looks n) u dot x).outcome → m ≡ mean (selector_answer (look_of_place looks n) u dot x).outcome
        → IsJudged T S D looks.types Certain Known w (selector_answer (look_of_place looks n) u dot x).denoted (folded_name m)
    selector_judged u dots.Refused is same = absurd is
    selector_judged u dots.Untyped is same = by (is_blank x) is same
      where
        by : (b : Bool) → HasDeclaration (if b then refused S8 else refused {T = T} {S = S} {D = D} {P = P} S4).outcome → m ≡ mean (if b then refused S8 else refused {T = T} {S = S} {D = D} {P = P} S4).outcome
            → IsJudged T S D looks.types Certain Known w (if b then refused S8 else refused {T = T} {S = S} {D = D} {P = P} S4).denoted (folded_name m)
        by true is same = absurd is
        by false is same = absurd is
    selector_judged u (dots.«Package» d) is same = by (is_blank x) is same
      where
        by : (b : Bool) → HasDeclaration (if b then refused S8 else exported_answer {P = P} u (looks.exported d x)).outcome → m ≡ mean (if b then refused S8 else exported_answer {P = P} u (looks.exported d x)).outcome
            → IsJudged T S D looks.types Certain Known w (if b then refused S8 else exported_answer {P = P} u (looks.exported d x)).denoted (folded_name m)
        by true is same = absurd is
        by false is same = exported_judged u (looks.exported d x) (read.exported d x) (λ known. (typed known).exported d x) is same
    selector_judged u (dots.«Value» o) is same = by (is_blank x) is same
      where
        by : (b : Bool) → HasDeclaration (if b then refused S8 else value_selector (look_of_place looks n) u o.addressable (default_type looks.types o.value_type) x).outcome
            → m ≡ mean (if b then refused S8 else value_selector (look_of_place looks n) u o.addressable (default_type looks.types o.value_type) x).outcome
            → IsJudged T S D looks.types Certain Known w (if b then refused S8 else value_selector (look_of_place looks n) u o.addressable (default_type looks.types o.value_type) x).denoted (folded_name m)
        by true is same = absurd is
        by false is same = member_judged u o.addressable (default_type looks.types o.value_type) is same
