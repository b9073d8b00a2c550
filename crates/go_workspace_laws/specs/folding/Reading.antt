-- What names come to in code, against what they stand for in the check of expressions.
--
-- docs/RULES.md, "Stack code". The Go specification, "Constants", "Variables", "Types", "Calls".
use Rattle.std.specs.Prelude.{◌≡◌, ℕ, ⊤, List, [], ◌∷◌, Option, Some, None}
use Rattle.go_constant_core.specs.declared.values.Constant.{Constant}
use Rattle.go_term_core.specs.declared.term.Basic.{Basic}
use Rattle.go_term_core.specs.declared.term.Basic.TheVariants as basics
use Rattle.go_report_core.specs.operand_core.declared.types.ValueType.{ValueType}
use Rattle.go_report_core.specs.operand_core.declared.types.Operand.{Operand}
use Rattle.go_report_core.specs.operand_core.TypeRules.{TypeRules}
use Rattle.go_report_core.specs.operand_core.Values.{form_basic, basic_under, default_type}
use Rattle.go_report_core.specs.denote_core.declared.things.Outcome.{Outcome}
use Rattle.go_report_core.specs.denote_core.declared.things.Outcome.TheVariants as outcomes
use Rattle.go_report_core.specs.denote_core.declared.things.Found.{Found}
use Rattle.go_report_core.specs.denote_core.declared.things.Found.TheVariants as founds
use Rattle.go_report_core.specs.denote_core.declared.things.Exported.{Exported}
use Rattle.go_report_core.specs.denote_core.declared.things.Exported.TheVariants as exporteds
use Rattle.go_report_core.specs.denote_core.declared.things.Selection.{Selection}
use Rattle.go_report_core.specs.denote_core.declared.things.Selection.TheVariants as selections
use Rattle.go_report_core.specs.expr_core.Looks.{Looks}
use Rattle.go_object_core.specs.declared.instructions.letters.Word.{Word}
use Rattle.go_object_core.specs.declared.instructions.letters.Word.TheVariants as words
use Rattle.go_code_core.specs.declared.fragments.names.ConstantWord.{ConstantWord}
use Rattle.go_code_core.specs.declared.fragments.names.Gives.{Gives}
use Rattle.go_code_core.specs.declared.fragments.names.Gives.TheVariants as gives
use Rattle.go_code_core.specs.declared.fragments.names.Meaning.{Meaning}
use Rattle.go_code_core.specs.declared.fragments.names.Meaning.TheVariants as meanings
use Rattle.go_code_core.specs.fragments.Constants.{held}

-- constants and variables

abbrev pub held_meaning : Option ConstantWord → Meaning
held_meaning None = meanings.Other
held_meaning (Some v) = meanings.Constant v

-- a constant, by its value
abbrev pub meant_constant : Constant → Meaning
meant_constant c = held_meaning (held c)

-- what is not constant is a variable of the function, or nothing that code is made of
abbrev pub IsVariableMeant : Meaning → Type 0
IsVariableMeant (meanings.Variable at w) = ⊤
IsVariableMeant meanings.Other = ⊤
IsVariableMeant (meanings.Constant v) = ⊥
IsVariableMeant (meanings.Function g) = ⊥
IsVariableMeant (meanings.Method g) = ⊥
IsVariableMeant (meanings.«Type» w) = ⊥
IsVariableMeant meanings.Println = ⊥
IsVariableMeant meanings.Panic = ⊥

abbrev pub IsOperandMeant : Option Constant → Meaning → Type 0
IsOperandMeant None m = IsVariableMeant m
IsOperandMeant (Some c) m = m ≡ meant_constant c

-- a constant, a variable or `nil`, which has no operand where it has no type
abbrev pub IsValueMeant : {T : Type 0} → Option (Operand T) → Meaning → Type 0
IsValueMeant None m = m ≡ meanings.Other
IsValueMeant (Some o) m = IsOperandMeant o.constant m

-- types

abbrev pub basic_of : Word → Basic
basic_of words.Int = basics.Int
basic_of words.Bool = basics.Bool

-- it is a type, and over what a word holds
abbrev pub IsOver : {T : Type 0} → TypeRules T → Word → Option T → Type 0
IsOver rules w None = ⊥
IsOver rules w (Some t) = form_basic (rules.form t) ≡ Some (basic_of w)

abbrev pub IsTypeMeant : {T : Type 0} → TypeRules T → Option T → Meaning → Type 0
IsTypeMeant rules t (meanings.«Type» w) = IsOver rules w t
IsTypeMeant rules t meanings.Other = ⊤
IsTypeMeant rules t (meanings.Variable at w) = ⊥
IsTypeMeant rules t (meanings.Constant v) = ⊥
IsTypeMeant rules t (meanings.Function g) = ⊥
IsTypeMeant rules t (meanings.Method g) = ⊥
IsTypeMeant rules t meanings.Println = ⊥
IsTypeMeant rules t meanings.Panic = ⊥

-- functions and methods

-- one result, over what a word holds
abbrev pub IsOneOver : {T : Type 0} → TypeRules T → Word → List (Option T) → Type 0
IsOneOver rules w [] = ⊥
IsOneOver rules w (t ∷ []) = IsOver rules w t
IsOneOver rules w (t ∷ u ∷ more) = ⊥

-- a call gives one word only where it has one result, over this
abbrev pub ResultsGive : {T : Type 0} → TypeRules T → List (Option T) → Gives → Type 0
ResultsGive rules results (gives.One w) = IsOneOver rules w results
ResultsGive rules results gives.Nothing = ⊤
ResultsGive rules results gives.Other = ⊤

abbrev pub IsFunctionMeant : {T : Type 0} → TypeRules T → List (Option T) → Meaning → Type 0
IsFunctionMeant rules results (meanings.Function g) = ResultsGive rules results g
IsFunctionMeant rules results meanings.Other = ⊤
IsFunctionMeant rules results (meanings.Variable at w) = ⊥
IsFunctionMeant rules results (meanings.Constant v) = ⊥
IsFunctionMeant rules results (meanings.Method g) = ⊥
IsFunctionMeant rules results (meanings.«Type» w) = ⊥
IsFunctionMeant rules results meanings.Println = ⊥
IsFunctionMeant rules results meanings.Panic = ⊥

abbrev pub IsMethodMeant : {T : Type 0} → TypeRules T → List (Option T) → Meaning → Type 0
IsMethodMeant rules results (meanings.Method g) = ResultsGive rules results g
IsMethodMeant rules results meanings.Other = ⊤
IsMethodMeant rules results (meanings.Variable at w) = ⊥
IsMethodMeant rules results (meanings.Constant v) = ⊥
IsMethodMeant rules results (meanings.Function g) = ⊥
IsMethodMeant rules results (meanings.«Type» w) = ⊥
IsMethodMeant rules results meanings.Println = ⊥
IsMethodMeant rules results meanings.Panic = ⊥

-- no code reads a field: what is selected is a method, or nothing that code is made of
abbrev pub IsFieldMeant : Meaning → Type 0
IsFieldMeant (meanings.Method g) = ⊤
IsFieldMeant meanings.Other = ⊤
IsFieldMeant (meanings.Variable at w) = ⊥
IsFieldMeant (meanings.Constant v) = ⊥
IsFieldMeant (meanings.Function g) = ⊥
IsFieldMeant (meanings.«Type» w) = ⊥
IsFieldMeant meanings.Println = ⊥
IsFieldMeant meanings.Panic = ⊥

-- of the predeclared functions code is made for `println` and `panic`
abbrev pub IsBuiltinMeant : Meaning → Type 0
IsBuiltinMeant meanings.Println = ⊤
IsBuiltinMeant meanings.Panic = ⊤
IsBuiltinMeant meanings.Other = ⊤
IsBuiltinMeant (meanings.Variable at w) = ⊥
IsBuiltinMeant (meanings.Constant v) = ⊥
IsBuiltinMeant (meanings.Function g) = ⊥
IsBuiltinMeant (meanings.Method g) = ⊥
IsBuiltinMeant (meanings.«Type» w) = ⊥

-- look-ups, where declarations come to this in code: what is missing or refused asks nothing

abbrev pub IsFoundMeant : {T S D P : Type 0} → Looks T S D P → (Outcome D P → Meaning) → Found T S D → Type 0
IsFoundMeant looks mean founds.Missing = ⊤
IsFoundMeant looks mean founds.BadImport = ⊤
IsFoundMeant looks mean founds.Outside = ⊤
IsFoundMeant looks mean (founds.«Package» d) = mean (outcomes.Declared d) ≡ meanings.Other
IsFoundMeant looks mean (founds.«Type» d t) = IsTypeMeant looks.types t (mean (outcomes.Declared d))
IsFoundMeant looks mean (founds.Func d s) = IsFunctionMeant looks.types (looks.results s) (mean (outcomes.Declared d))
IsFoundMeant looks mean (founds.Builtin d b) = IsBuiltinMeant (mean (outcomes.Declared d))
IsFoundMeant looks mean (founds.«Value» d o) = IsValueMeant o (mean (outcomes.Declared d))

abbrev pub IsExportedMeant : {T S D P : Type 0} → Looks T S D P → (Outcome D P → Meaning) → Exported T S D → Type 0
IsExportedMeant looks mean exporteds.Absent = ⊤
IsExportedMeant looks mean exporteds.Hidden = ⊤
IsExportedMeant looks mean (exporteds.«Type» d t) = IsTypeMeant looks.types t (mean (outcomes.Declared d))
IsExportedMeant looks mean (exporteds.Func d s) = IsFunctionMeant looks.types (looks.results s) (mean (outcomes.Declared d))
IsExportedMeant looks mean (exporteds.«Value» d o) = IsValueMeant o (mean (outcomes.Declared d))

abbrev pub IsSelectionMeant : {T S D P : Type 0} → Looks T S D P → (Outcome D P → Meaning) → Selection T S D P → Type 0
IsSelectionMeant looks mean (selections.Missing rule) = ⊤
IsSelectionMeant looks mean (selections.«Field» d path t by_pointer) = IsFieldMeant (mean (outcomes.Selected d path))
IsSelectionMeant looks mean (selections.Method d path s needs_pointer by_pointer) = IsMethodMeant looks.types (looks.results s) (mean (outcomes.Selected d path))

-- a member, whatever a call of it gives
abbrev pub IsMemberMeant : {T S D P : Type 0} → (Outcome D P → Meaning) → Selection T S D P → Type 0
IsMemberMeant mean (selections.Missing rule) = ⊤
IsMemberMeant mean (selections.«Field» d path t by_pointer) = IsFieldMeant (mean (outcomes.Selected d path))
IsMemberMeant mean (selections.Method d path s needs_pointer by_pointer) = IsFieldMeant (mean (outcomes.Selected d path))

-- what each name comes to in code is what it stands for; nothing is asked of what calls of methods give
pub record AreNamesRead (T S D P : Type 0) (looks : Looks T S D P) (mean : Outcome D P → Meaning) : Type 0 where
  pub names : (name : List ℕ) (offset : ℕ) → IsFoundMeant looks mean (looks.find name offset)
  pub exported : (d : D) (name : List ℕ) → IsExportedMeant looks mean (looks.exported d name)
  pub members : (t : T) (name : List ℕ) → IsMemberMeant {T = T} {S = S} {D = D} {P = P} mean (looks.select t name)

-- the same, and calls of methods give what their signatures give, of every type that there may be
pub record AreRead (T S D P : Type 0) (looks : Looks T S D P) (mean : Outcome D P → Meaning) : Type 0 where
  pub names : (name : List ℕ) (offset : ℕ) → IsFoundMeant looks mean (looks.find name offset)
  pub exported : (d : D) (name : List ℕ) → IsExportedMeant looks mean (looks.exported d name)
  pub selected : (t : T) (name : List ℕ) → IsSelectionMeant looks mean (looks.select t name)

-- The same, and calls of methods give what their signatures give, of the types of operands over `int` and `bool` alone: of no other call of a method code is
-- made. Nothing is asked of terms that no such operand has, as an interface type that is written out is one.
pub record AreReadOver (T S D P : Type 0) (looks : Looks T S D P) (mean : Outcome D P → Meaning) : Type 0 where
  pub all : AreNamesRead T S D P looks mean
  pub selected : (v : ValueType T) (w : Word) → basic_under looks.types v ≡ Some (basic_of w) → (t : T) → default_type looks.types v ≡ Some t → (name : List ℕ) → IsSelectionMeant looks mean (looks.select t name)
