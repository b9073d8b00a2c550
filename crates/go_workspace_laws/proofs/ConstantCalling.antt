-- Where no method is called it does not matter what methods come to.
use Rattle.std.proofs.Common.{◌≡◌, List, Option, Some, None, refl, sym, ap, ap₂, subst, ◌∙◌}
use Rattle.go_tree_nodes.specs.Trees.{ExprTree, ItemTrees, Integer, Text, Named, Paren, Unary, Binary, Select, Call, Literal, StructLiteral, NoItems, Item}
use Rattle.go_constant_core.specs.declared.values.Constant.{Constant}
use Rattle.go_code_core.specs.declared.fragments.names.ConstantWord.{ConstantWord}
use Rattle.go_code_core.specs.declared.fragments.names.Meaning.{Meaning}
use Rattle.go_code_core.specs.declared.fragments.names.Meaning.TheVariants as meanings
use Rattle.go_code_core.specs.fragments.Constants.{converted, folded, folded_binary, folded_name, folded_one, folded_unary, held}
use Rattle.go_code_core.specs.fragments.Names as code_names
use Rattle.go_code_core.specs.fragments.Names.{callee_meaning}
use Rattle.go_report_core.specs.operand_core.declared.types.Operand.{Operand}
use Rattle.go_report_core.specs.operand_core.TypeRules.{TypeRules}
use Rattle.go_report_core.specs.denote_core.declared.things.Exported.{Exported}
use Rattle.go_report_core.specs.denote_core.declared.things.Exported.TheVariants as exporteds
use Rattle.go_report_core.specs.denote_core.declared.things.Found.{Found}
use Rattle.go_report_core.specs.denote_core.declared.things.Found.TheVariants as founds
use Rattle.go_report_core.specs.denote_core.declared.things.Outcome.{Outcome}
use Rattle.go_report_core.specs.denote_core.declared.things.Outcome.TheVariants as outcomes
use Rattle.go_report_core.specs.denote_core.declared.things.Selection.{Selection}
use Rattle.go_report_core.specs.denote_core.declared.things.Selection.TheVariants as selections
use Rattle.go_report_core.specs.expr_core.declared.things.Use.{Use}
use Rattle.go_report_core.specs.expr_core.Looks.{Looks}
use Rattle.go_workspace_laws.specs.folding.Laws.{AreMeant}
use Rattle.go_workspace_laws.specs.folding.Reading.{IsBuiltinMeant, IsExportedMeant, IsFieldMeant, IsFoundMeant, IsFunctionMeant, IsMethodMeant, IsOperandMeant, IsSelectionMeant, IsTypeMeant, IsValueMeant, IsVariableMeant, held_meaning}
use Rattle.go_workspace_laws.specs.Calling.{without_method, without_methods}

-- what code folds

name_same : (m : Meaning) → folded_name (without_method m) ≡ folded_name m
name_same (meanings.Method g) = refl
name_same (meanings.Variable at w) = refl
name_same (meanings.Constant v) = refl
name_same (meanings.Function g) = refl
name_same (meanings.«Type» w) = refl
name_same meanings.Println = refl
name_same meanings.Panic = refl
name_same meanings.Other = refl

converted_same : (m : Meaning) (v : Option ConstantWord) → converted (without_method m) v ≡ converted m v
converted_same (meanings.Method g) v = refl
converted_same (meanings.Variable at w) v = refl
converted_same (meanings.Constant k) v = refl
converted_same (meanings.Function g) v = refl
converted_same (meanings.«Type» w) v = refl
converted_same meanings.Println v = refl
converted_same meanings.Panic v = refl
converted_same meanings.Other v = refl

module _ (code : code_names.CodeLooks) where
  called_same : (e : ExprTree) → callee_meaning (without_methods code) e ≡ without_method (callee_meaning code e)
  called_same (Named x) = refl
  called_same (Select e dot x) = refl
  called_same (Paren first e last) = called_same e
  called_same (Integer n s) = refl
  called_same (Text t) = refl
  called_same (Unary op s e) = refl
  called_same (Binary a op s b) = refl
  called_same (Call e first items last) = refl
  called_same (Literal n first items last) = refl
  called_same (StructLiteral t first items last) = refl

  mutual
    pub folded_same : (e : ExprTree) → folded (without_methods code) e ≡ folded code e
    folded_same (Integer n s) = refl
    folded_same (Text t) = refl
    folded_same (Named x) = name_same (code.meaning x.span.start)
    folded_same (Paren first e last) = folded_same e
    folded_same (Unary op s e) = ap (folded_unary op) (folded_same e)
    folded_same (Binary a op s b) = ap₂ (folded_binary op) (folded_same a) (folded_same b)
    folded_same (Select e dot x) = name_same (code.meaning x.span.start)
    folded_same (Call e first items last) = ap₂ converted (called_same e) (one_same items) ∙ converted_same (callee_meaning code e) (folded_one code items)
    folded_same (Literal n first items last) = refl
    folded_same (StructLiteral t first items last) = refl

    one_same : (items : ItemTrees) → folded_one (without_methods code) items ≡ folded_one code items
    one_same NoItems = refl
    one_same (Item key e comma NoItems) = folded_same e
    one_same (Item key e comma (Item key' e' comma' rest)) = refl

-- what names come to, without methods

type_calm : {T : Type 0} (rules : TypeRules T) (t : Option T) (m : Meaning) → IsTypeMeant rules t m → IsTypeMeant rules t (without_method m)
type_calm rules t (meanings.Method g) h = absurd h
type_calm rules t (meanings.Variable at w) h = h
type_calm rules t (meanings.Constant v) h = h
type_calm rules t (meanings.Function g) h = h
type_calm rules t (meanings.«Type» w) h = h
type_calm rules t meanings.Println h = h
type_calm rules t meanings.Panic h = h
type_calm rules t meanings.Other h = h

function_calm : {T : Type 0} (rules : TypeRules T) (results : List (Option T)) (m : Meaning) → IsFunctionMeant rules results m → IsFunctionMeant rules results (without_method m)
function_calm rules results (meanings.Method g) h = absurd h
function_calm rules results (meanings.Variable at w) h = h
function_calm rules results (meanings.Constant v) h = h
function_calm rules results (meanings.Function g) h = h
function_calm rules results (meanings.«Type» w) h = h
function_calm rules results meanings.Println h = h
function_calm rules results meanings.Panic h = h
function_calm rules results meanings.Other h = h

builtin_calm : (m : Meaning) → IsBuiltinMeant m → IsBuiltinMeant (without_method m)
builtin_calm (meanings.Method g) h = absurd h
builtin_calm (meanings.Variable at w) h = h
builtin_calm (meanings.Constant v) h = h
builtin_calm (meanings.Function g) h = h
builtin_calm (meanings.«Type» w) h = h
builtin_calm meanings.Println h = h
builtin_calm meanings.Panic h = h
builtin_calm meanings.Other h = h

variable_calm : (m : Meaning) → IsVariableMeant m → IsVariableMeant (without_method m)
variable_calm (meanings.Method g) h = absurd h
variable_calm (meanings.Variable at w) h = h
variable_calm (meanings.Constant v) h = h
variable_calm (meanings.Function g) h = h
variable_calm (meanings.«Type» w) h = h
variable_calm meanings.Println h = h
variable_calm meanings.Panic h = h
variable_calm meanings.Other h = h

held_calm : (o : Option ConstantWord) → without_method (held_meaning o) ≡ held_meaning o
held_calm None = refl
held_calm (Some v) = refl

operand_calm : (k : Option Constant) (m : Meaning) → IsOperandMeant k m → IsOperandMeant k (without_method m)
operand_calm None m h = variable_calm m h
operand_calm (Some c) m h = ap without_method h ∙ held_calm (held c)

value_calm : {T : Type 0} (o : Option (Operand T)) (m : Meaning) → IsValueMeant o m → IsValueMeant o (without_method m)
value_calm None m h = ap without_method h
value_calm (Some o) m h = operand_calm o.constant m h

field_calm : (m : Meaning) → IsFieldMeant m → without_method m ≡ meanings.Other
field_calm (meanings.Method g) h = refl
field_calm (meanings.Variable at w) h = absurd h
field_calm (meanings.Constant v) h = absurd h
field_calm (meanings.Function g) h = absurd h
field_calm (meanings.«Type» w) h = absurd h
field_calm meanings.Println h = absurd h
field_calm meanings.Panic h = absurd h
field_calm meanings.Other h = refl

module _ {T S D P : Type 0} (looks : Looks T S D P) (mean : Outcome D P → Meaning) where
  abbrev pub calm_mean : Outcome D P → Meaning
  calm_mean o = without_method (mean o)

  pub found_calm : (f : Found T S D) → IsFoundMeant looks mean f → IsFoundMeant looks (λ o. without_method (mean o)) f
  found_calm founds.Missing h = tt
  found_calm founds.BadImport h = tt
  found_calm founds.Outside h = tt
  found_calm (founds.«Package» d) h = ap without_method h
  found_calm (founds.«Type» d t) h = type_calm looks.types t (mean (outcomes.Declared d)) h
  found_calm (founds.Func d s) h = function_calm looks.types (looks.results s) (mean (outcomes.Declared d)) h
  found_calm (founds.Builtin d b) h = builtin_calm (mean (outcomes.Declared d)) h
  found_calm (founds.«Value» d o) h = value_calm o (mean (outcomes.Declared d)) h

  pub exported_calm : (f : Exported T S D) → IsExportedMeant looks mean f → IsExportedMeant looks (λ o. without_method (mean o)) f
  exported_calm exporteds.Absent h = tt
  exported_calm exporteds.Hidden h = tt
  exported_calm (exporteds.«Type» d t) h = type_calm looks.types t (mean (outcomes.Declared d)) h
  exported_calm (exporteds.Func d s) h = function_calm looks.types (looks.results s) (mean (outcomes.Declared d)) h
  exported_calm (exporteds.«Value» d o) h = value_calm o (mean (outcomes.Declared d)) h

  pub selected_calm : ((d : D) (path : P) → IsFieldMeant (mean (outcomes.Selected d path))) → (s : Selection T S D P) → IsSelectionMeant looks (λ o. without_method (mean o)) s
  selected_calm h (selections.Missing rule) = tt
  selected_calm h (selections.«Field» d path t by_pointer) = subst IsFieldMeant (sym (field_calm (mean (outcomes.Selected d path)) (h d path))) tt
  selected_calm h (selections.Method d path s needs_pointer by_pointer) = method (without_method (mean (outcomes.Selected d path))) (field_calm (mean (outcomes.Selected d path)) (h d path))
    where
      method : (m : Meaning) → m ≡ meanings.Other → IsMethodMeant looks.types (looks.results s) m
      method m e = subst (IsMethodMeant looks.types (looks.results s)) (sym e) tt

  pub meant_calm : (code : code_names.CodeLooks) (us : List (Use D P)) → AreMeant code mean us → AreMeant (without_methods code) (λ o. without_method (mean o)) us
  meant_calm code us h u there = (let m = h u there in record { meaning = ap without_method m.meaning; declared = m.declared })
