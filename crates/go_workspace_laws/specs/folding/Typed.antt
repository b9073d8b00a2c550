-- What expressions are over in code, against the types that the check gives them.
--
-- docs/RULES.md, "Stack code". The Go specification, "Types", "Constant expressions", "Conversions".
use Rattle.std.specs.Prelude.{◌≡◌, ℕ, ⊤, true, List, [], Option, Some, None}
use Rattle.std.specs.List.{Contains}
use Rattle.go_term_core.specs.declared.term.Basic.{Basic}
use Rattle.go_tree_nodes.specs.Trees.{ExprTree}
use Rattle.go_report_core.specs.operand_core.declared.types.ValueType.{ValueType}
use Rattle.go_report_core.specs.operand_core.declared.types.Operand.{Operand}
use Rattle.go_report_core.specs.operand_core.TypeRules.{TypeRules}
use Rattle.go_report_core.specs.operand_core.Values.{form_basic, basic_under}
use Rattle.go_report_core.specs.denote_core.declared.things.Stand.{Stand}
use Rattle.go_report_core.specs.denote_core.declared.things.Outcome.{Outcome}
use Rattle.go_report_core.specs.denote_core.declared.things.Outcome.TheVariants as outcomes
use Rattle.go_report_core.specs.denote_core.declared.things.Denoted.TheVariants as denotes
use Rattle.go_report_core.specs.denote_core.declared.things.Found.{Found}
use Rattle.go_report_core.specs.denote_core.declared.things.Found.TheVariants as founds
use Rattle.go_report_core.specs.denote_core.declared.things.Exported.{Exported}
use Rattle.go_report_core.specs.denote_core.declared.things.Exported.TheVariants as exporteds
use Rattle.go_report_core.specs.expr_core.Looks.{Looks}
use Rattle.go_report_core.specs.expr_core.Denoting.{denoted}
use Rattle.go_report_core.specs.expr_core.Uses.{uses}
use Rattle.go_report_core.specs.expr_core.Faults.{faults}
use Rattle.go_object_core.specs.declared.instructions.letters.Word.{Word}
use Rattle.go_code_core.specs.declared.fragments.names.ConstantWord.{ConstantWord}
use Rattle.go_code_core.specs.declared.fragments.names.Gives.TheVariants as gives
use Rattle.go_code_core.specs.declared.fragments.names.Meaning.{Meaning}
use Rattle.go_code_core.specs.declared.fragments.names.Meaning.TheVariants as meanings
use Rattle.go_code_core.specs.fragments.Names as code_names
use Rattle.go_code_core.specs.fragments.Names.{word_of, frame_of}
use Rattle.go_code_core.specs.fragments.Fragment.{expr_gives}
use Rattle.go_code_core.specs.fragments.Constants.{folded}
use Rattle.go_workspace_laws.specs.folding.Reading.{AreReadOver, basic_of}
use Rattle.go_workspace_laws.specs.folding.Parts.{parts}
use Rattle.go_workspace_laws.specs.folding.Laws.{AreMeant}

-- a variable is over what its type is over, and so is the value of a constant
abbrev pub IsOperandTyped : {T : Type 0} → TypeRules T → ValueType T → Meaning → Type 0
IsOperandTyped rules t (meanings.Variable at w) = basic_under rules t ≡ Some (basic_of w)
IsOperandTyped rules t (meanings.Constant v) = basic_under rules t ≡ Some (basic_of (word_of v))
IsOperandTyped rules t (meanings.Function g) = ⊤
IsOperandTyped rules t (meanings.Method g) = ⊤
IsOperandTyped rules t (meanings.«Type» w) = ⊤
IsOperandTyped rules t meanings.Println = ⊤
IsOperandTyped rules t meanings.Panic = ⊤
IsOperandTyped rules t meanings.Other = ⊤

abbrev pub IsValueTyped : {T : Type 0} → TypeRules T → Option (Operand T) → Meaning → Type 0
IsValueTyped rules None m = ⊤
IsValueTyped rules (Some o) m = IsOperandTyped rules o.value_type m

abbrev pub IsFoundTyped : {T S D P : Type 0} → Looks T S D P → (Outcome D P → Meaning) → Found T S D → Type 0
IsFoundTyped looks mean (founds.«Value» d o) = IsValueTyped looks.types o (mean (outcomes.Declared d))
IsFoundTyped looks mean (founds.«Package» d) = ⊤
IsFoundTyped looks mean (founds.«Type» d t) = ⊤
IsFoundTyped looks mean (founds.Func d s) = ⊤
IsFoundTyped looks mean (founds.Builtin d b) = ⊤
IsFoundTyped looks mean founds.Missing = ⊤
IsFoundTyped looks mean founds.BadImport = ⊤
IsFoundTyped looks mean founds.Outside = ⊤

abbrev pub IsExportedTyped : {T S D P : Type 0} → Looks T S D P → (Outcome D P → Meaning) → Exported T S D → Type 0
IsExportedTyped looks mean (exporteds.«Value» d o) = IsValueTyped looks.types o (mean (outcomes.Declared d))
IsExportedTyped looks mean (exporteds.«Type» d t) = ⊤
IsExportedTyped looks mean (exporteds.Func d s) = ⊤
IsExportedTyped looks mean exporteds.Absent = ⊤
IsExportedTyped looks mean exporteds.Hidden = ⊤

-- what each name comes to in code is over what its type is over
pub record AreTyped (T S D P : Type 0) (looks : Looks T S D P) (mean : Outcome D P → Meaning) : Type 0 where
  pub names : (name : List ℕ) (offset : ℕ) → IsFoundTyped looks mean (looks.find name offset)
  pub exported : (d : D) (name : List ℕ) → IsExportedTyped looks mean (looks.exported d name)

-- a value of a type over bool, int or string is assignable or convertible to another such type only where both are over the same
pub record KeepBasics {T : Type 0} (rules : TypeRules T) : Type 0 where
  pub assignable : (s t : T) (b c : Basic) → rules.assignable s t ≡ true → form_basic (rules.form s) ≡ Some b → form_basic (rules.form t) ≡ Some c → b ≡ c
  pub convertible : (s t : T) (b c : Basic) → rules.convertible s t ≡ true → form_basic (rules.form s) ≡ Some b → form_basic (rules.form t) ≡ Some c → b ≡ c

-- the check makes an operand of an expression, of a type over this; and so is the constant that code takes it for
pub record IsTyped (T S D P : Type 0) (looks : Looks T S D P) (code : code_names.CodeLooks) (p : Stand) (e : ExprTree) (w : Word) : Type 0 where
  pub operand : Operand T
  pub denotes : denoted looks p e ≡ denotes.«Value» operand
  pub over : basic_under looks.types operand.value_type ≡ Some (basic_of w)
  pub word : (v : ConstantWord) → folded code e ≡ Some v → word_of v ≡ w

-- the same of an expression whose names are over what their types are over
abbrev pub ExpressionsAreTyped : (T S D P : Type 0) → Type 0
ExpressionsAreTyped T S D P = (looks : Looks T S D P) (code : code_names.CodeLooks) (mean : Outcome D P → Meaning) (slots : List (Option ℕ)) (p : Stand) (e : ExprTree)
    → AreReadOver T S D P looks mean → AreTyped T S D P looks mean → KeepBasics looks.types → AreMeant code mean (uses looks p e) → faults looks p e ≡ []
    → (q : Stand) (x : ExprTree) → Contains (parts p e) (q, x) → (w : Word) → expr_gives (frame_of code slots) x ≡ gives.One w
    → IsTyped T S D P looks code q x w
