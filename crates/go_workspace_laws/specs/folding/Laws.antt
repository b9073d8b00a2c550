-- What code takes an expression for is what the check makes of it.
--
-- docs/RULES.md, "Stack code". The Go specification, "Constant expressions".
use Rattle.std.specs.Prelude.{◌≡◌, ℕ, Bool, true, false, ⊤, List, [], Option, Some, None}
use Rattle.std.specs.List.{Contains}
use Rattle.go_constant_core.specs.declared.values.Constant.{Constant}
use Rattle.go_constant_core.specs.declared.values.Constant.TheVariants as values
use Rattle.go_tree_nodes.specs.Trees.{ExprTree}
use Rattle.go_report_core.specs.operand_core.declared.types.Operand.{Operand}
use Rattle.go_report_core.specs.denote_core.declared.things.Stand.{Stand}
use Rattle.go_report_core.specs.denote_core.declared.things.Outcome.{Outcome}
use Rattle.go_report_core.specs.denote_core.declared.things.Outcome.TheVariants as outcomes
use Rattle.go_report_core.specs.denote_core.declared.things.Denoted.{Denoted}
use Rattle.go_report_core.specs.denote_core.declared.things.Denoted.TheVariants as denotes
use Rattle.go_report_core.specs.expr_core.declared.things.Use.{Use}
use Rattle.go_report_core.specs.expr_core.Looks.{Looks}
use Rattle.go_report_core.specs.expr_core.Denoting.{denoted}
use Rattle.go_report_core.specs.expr_core.Uses.{uses}
use Rattle.go_report_core.specs.expr_core.Faults.{faults}
use Rattle.go_code_core.specs.declared.fragments.names.Gives.TheVariants as gives
use Rattle.go_code_core.specs.declared.fragments.names.Meaning.{Meaning}
use Rattle.go_object_core.specs.declared.instructions.letters.Word.{Word}
use Rattle.go_code_core.specs.fragments.Names as code_names
use Rattle.go_code_core.specs.fragments.Names.{frame_of}
use Rattle.go_code_core.specs.fragments.Fragment.{expr_gives}
use Rattle.go_code_core.specs.fragments.Constants.{folded, some_held}
use Rattle.go_workspace_laws.specs.folding.Reading.{AreNamesRead, AreRead}
use Rattle.go_workspace_laws.specs.folding.Parts.{parts}

-- the outcome is a declaration, and no rule
abbrev pub HasDeclaration : {D P : Type 0} → Outcome D P → Type 0
HasDeclaration (outcomes.Declared d) = ⊤
HasDeclaration (outcomes.Selected d path) = ⊤
HasDeclaration (outcomes.Refused rule) = ⊥

-- code takes an occurrence for what its outcome comes to, and it breaks no rule
pub record IsMeant (D P : Type 0) (code : code_names.CodeLooks) (mean : Outcome D P → Meaning) (u : Use D P) : Type 0 where
  pub meaning : code.meaning u.offset ≡ mean u.outcome
  pub declared : HasDeclaration u.outcome

abbrev pub AreMeant : {D P : Type 0} → code_names.CodeLooks → (Outcome D P → Meaning) → List (Use D P) → Type 0
AreMeant {D} {P} code mean us = (u : Use D P) → Contains us u → IsMeant D P code mean u

-- no text

abbrev pub is_text : Constant → Bool
is_text (values.Text t) = true
is_text (values.Int z) = false
is_text (values.Bool b) = false
is_text values.Unknown = false

abbrev pub IsNoText : Option Constant → Type 0
IsNoText None = ⊤
IsNoText (Some c) = is_text c ≡ false

-- the constant that an expression is to the check, if it is one: where it is a single value that is constant
abbrev pub constant_in : {T S D : Type 0} → Denoted T S D → Option Constant
constant_in (denotes.«Value» operand) = operand.constant
constant_in denotes.Refused = None
constant_in denotes.Typeless = None
constant_in (denotes.«Package» d) = None
constant_in (denotes.«Type» d t) = None
constant_in (denotes.Several s) = None
constant_in denotes.Nothing = None
constant_in (denotes.Func d s) = None
constant_in (denotes.Builtin d b) = None

-- code takes an expression for a constant where it is one over `int` or `bool` to the check, and then with its value
pub record IsConstantFolded (T S D P : Type 0) (looks : Looks T S D P) (code : code_names.CodeLooks) (p : Stand) (e : ExprTree) : Type 0 where
  pub value : folded code e ≡ some_held (constant_in (denoted looks p e))
  pub no_text : IsNoText (constant_in (denoted looks p e))

-- An expression in which each occurrence denotes a declaration, which code takes for what it is, and whose operators and literals break no rule. Each
-- expression in it of which code is made is constant in code exactly where it is to the check, with the same value.
abbrev pub ConstantsAreFolded : (T S D P : Type 0) → Type 0
ConstantsAreFolded T S D P = (looks : Looks T S D P) (code : code_names.CodeLooks) (mean : Outcome D P → Meaning) (slots : List (Option ℕ)) (p : Stand) (e : ExprTree)
    → AreNamesRead T S D P looks mean → AreMeant code mean (uses looks p e) → faults looks p e ≡ []
    → (q : Stand) (x : ExprTree) → Contains (parts p e) (q, x) → (w : Word) → expr_gives (frame_of code slots) x ≡ gives.One w
    → IsConstantFolded T S D P looks code q x

-- the check makes an operand of an expression; code takes it for a constant where the operand is one over `int` or `bool`, and then with its value
pub record IsFolded (T S D P : Type 0) (looks : Looks T S D P) (code : code_names.CodeLooks) (p : Stand) (e : ExprTree) : Type 0 where
  pub operand : Operand T
  pub denotes : denoted looks p e ≡ denotes.«Value» operand
  pub value : folded code e ≡ some_held operand.constant
  pub no_text : IsNoText operand.constant

-- where calls of methods give what their signatures give, each such expression is an operand to the check
abbrev pub ExpressionsAreFolded : (T S D P : Type 0) → Type 0
ExpressionsAreFolded T S D P = (looks : Looks T S D P) (code : code_names.CodeLooks) (mean : Outcome D P → Meaning) (slots : List (Option ℕ)) (p : Stand) (e : ExprTree)
    → AreRead T S D P looks mean → AreMeant code mean (uses looks p e) → faults looks p e ≡ []
    → (q : Stand) (x : ExprTree) → Contains (parts p e) (q, x) → (w : Word) → expr_gives (frame_of code slots) x ≡ gives.One w
    → IsFolded T S D P looks code q x
