-- Constants are of types over what their values are.
--
-- docs/RULES.md, "Operands and operators", "Constants and variables of a package". The Go specification, "Constants", "Constant expressions",
-- "Constant declarations", "Representability".
use Rattle.std.specs.Prelude.{◌≡◌, ℕ, Bool, List, Option, Some, None}
use Rattle.std.specs.List.{AllByRecursion}
use Rattle.go_tree_nodes.specs.Trees.{ExprTree}
use Rattle.go_names_core.specs.local_core.Steps.{Piece}
use Rattle.go_term_core.specs.declared.term.Basic.{Basic}
use Rattle.go_term_core.specs.declared.term.Basic.TheVariants as basics
use Rattle.go_constant_core.specs.declared.values.Constant.{Constant}
use Rattle.go_constant_core.specs.declared.values.Constant.TheVariants as values
use Rattle.go_report_core.specs.operand_core.declared.types.Operand.{Operand}
use Rattle.go_report_core.specs.operand_core.TypeRules.{TypeRules}
use Rattle.go_report_core.specs.operand_core.Values.{basic_under}
use Rattle.go_report_core.specs.denote_core.declared.things.Denoted.{Denoted}
use Rattle.go_report_core.specs.denote_core.declared.things.Denoted.TheVariants as denotes
use Rattle.go_report_core.specs.denote_core.declared.things.Exported.{Exported}
use Rattle.go_report_core.specs.denote_core.declared.things.Exported.TheVariants as exporteds
use Rattle.go_report_core.specs.denote_core.declared.things.Found.{Found}
use Rattle.go_report_core.specs.denote_core.declared.things.Found.TheVariants as founds
use Rattle.go_report_core.specs.denote_core.declared.things.Stand.{Stand}
use Rattle.go_report_core.specs.expr_core.Denoting.{denoted}
use Rattle.go_report_core.specs.expr_core.Looks.{Looks}
use Rattle.go_body_core.specs.stmt_core.PiecePieces.{piece_values}
use Rattle.go_workspace_laws.specs.folding.Typed.{KeepBasics}
use Rattle.go_program_laws.specs.checked_sources.Operators.{KeepIdentity}
use Rattle.go_program_laws.specs.checked_sources.Statements.{ArePredeclared}

-- a constant is one of these values: an integer is over `int`, a truth over `bool`, a text over `string`. Nothing is asked of one whose value is not known
abbrev pub IsConstantOver : Option Constant → Option Basic → Type 0
IsConstantOver None b = Unit {0}
IsConstantOver (Some (values.Int z)) b = b ≡ Some basics.Int
IsConstantOver (Some (values.Bool t)) b = b ≡ Some basics.Bool
IsConstantOver (Some (values.Text t)) b = b ≡ Some basics.Text
IsConstantOver (Some values.Unknown) b = Unit {0}

-- the type of an operand is over what its constant is, if it is one
abbrev pub IsOperandOver : {T : Type 0} → TypeRules T → Operand T → Type 0
IsOperandOver rules o = IsConstantOver o.constant (basic_under rules o.value_type)

abbrev pub IsValueOver : {T : Type 0} → TypeRules T → Option (Operand T) → Type 0
IsValueOver rules None = Unit {0}
IsValueOver rules (Some o) = IsOperandOver rules o

abbrev pub IsFoundOver : {T S D : Type 0} → TypeRules T → Found T S D → Type 0
IsFoundOver rules (founds.«Value» d o) = IsValueOver rules o
IsFoundOver rules (founds.«Package» d) = Unit {0}
IsFoundOver rules (founds.«Type» d t) = Unit {0}
IsFoundOver rules (founds.Func d s) = Unit {0}
IsFoundOver rules (founds.Builtin d b) = Unit {0}
IsFoundOver rules founds.Missing = Unit {0}
IsFoundOver rules founds.BadImport = Unit {0}
IsFoundOver rules founds.Outside = Unit {0}

abbrev pub IsExportedOver : {T S D : Type 0} → TypeRules T → Exported T S D → Type 0
IsExportedOver rules (exporteds.«Value» d o) = IsValueOver rules o
IsExportedOver rules (exporteds.«Type» d t) = Unit {0}
IsExportedOver rules (exporteds.Func d s) = Unit {0}
IsExportedOver rules exporteds.Absent = Unit {0}
IsExportedOver rules exporteds.Hidden = Unit {0}

abbrev pub IsDenotedOver : {T S D : Type 0} → TypeRules T → Denoted T S D → Type 0
IsDenotedOver rules (denotes.«Value» o) = IsOperandOver rules o
IsDenotedOver rules denotes.Refused = Unit {0}
IsDenotedOver rules denotes.Typeless = Unit {0}
IsDenotedOver rules (denotes.«Package» d) = Unit {0}
IsDenotedOver rules (denotes.«Type» d t) = Unit {0}
IsDenotedOver rules (denotes.Several s) = Unit {0}
IsDenotedOver rules denotes.Nothing = Unit {0}
IsDenotedOver rules (denotes.Func d s) = Unit {0}
IsDenotedOver rules (denotes.Builtin d b) = Unit {0}

-- so is each that a name stands for
pub record NamesAreOver (T S D P : Type 0) (looks : Looks T S D P) : Type 0 where
  pub names : (name : List ℕ) (offset : ℕ) → IsFoundOver looks.types (looks.find name offset)
  pub exported : (d : D) (name : List ℕ) → IsExportedOver looks.types (looks.exported d name)

-- types are judged as those of a table are
pub record AreKept {T : Type 0} (rules : TypeRules T) : Type 0 where
  pub basics : KeepBasics rules
  pub identity : KeepIdentity rules
  pub predeclared : ArePredeclared rules

-- then so is each expression, and each name that a piece of a function declares
pub record ConstantsKeepTypes (T S D P : Type 0) : Type 0 where
  pub expressions : (looks : Looks T S D P) → AreKept looks.types → NamesAreOver T S D P looks → (p : Stand) (e : ExprTree) → IsDenotedOver looks.types (denoted looks p e)
  pub pieces : (looks : Looks T S D P) → AreKept looks.types → NamesAreOver T S D P looks → (firsts : List Bool) (p : Piece) → AllByRecursion (IsValueOver looks.types) (piece_values looks firsts p)
