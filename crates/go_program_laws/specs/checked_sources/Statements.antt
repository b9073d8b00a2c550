-- Conditions, assignments, declarations and returns of functions are over what they must be, and so are conversions and arguments.
--
-- docs/RULES.md, "Assignments, declarations, returns, statements", "Names, selectors and calls in expressions", "Stack code". The Go specification,
-- "If statements", "For statements", "Assignment statements", "IncDec statements", "Return statements", "Variable declarations", "Conversions", "Calls".
use Rattle.std.specs.Prelude.{◌≡◌, ℕ, Bool, true, false, List, [], ◌∷◌, Option, Some, None, is_some}
use Rattle.std.specs.List.{Contains}
use Rattle.go_constant_core.specs.text_core.Text.{is_blank}
use Rattle.go_constant_core.specs.text_core.declared.span.Span.{Span}
use Rattle.go_tree_nodes.specs.token_core.declared.kind.Operator.{Operator}
use Rattle.go_tree_nodes.specs.declared.names.Ident.{Ident}
use Rattle.go_tree_nodes.specs.declared.decls.ValueKind.TheVariants as value_kinds
use Rattle.go_tree_nodes.specs.Trees.{TypeTree, Separated, One, ExprTree, ItemTrees, Call, Assign, Define, Step, Update}
use Rattle.go_names_core.specs.local_core.Steps.{Piece, Spec, Act, Condition, Given}
use Rattle.go_names_core.specs.local_core.WalksEnds.{is_blank_target}
use Rattle.go_term_core.specs.declared.term.Basic.TheVariants as basics
use Rattle.go_object_core.specs.declared.instructions.letters.Word.{Word}
use Rattle.go_object_core.specs.declared.instructions.letters.Word.TheVariants as words
use Rattle.go_code_core.specs.declared.fragments.names.Gives.TheVariants as gives
use Rattle.go_code_core.specs.declared.fragments.names.Meaning.{Meaning}
use Rattle.go_code_core.specs.declared.fragments.names.Meaning.TheVariants as meanings
use Rattle.go_code_core.specs.fragments.Fragment.{expr_gives, all_ones}
use Rattle.go_code_core.specs.fragments.Names as code_names
use Rattle.go_code_core.specs.fragments.Names.{frame_of, callee_meaning}
use Rattle.go_code_core.specs.fragments.Operators.{update_operator}
use Rattle.go_code_core.specs.Code.{letters}
use Rattle.go_report_core.specs.operand_core.declared.types.Operand.{Operand}
use Rattle.go_report_core.specs.operand_core.TypeRules.{TypeRules}
use Rattle.go_report_core.specs.operand_core.Values.{form_basic, basic_under}
use Rattle.go_report_core.specs.denote_core.declared.things.Denoted.TheVariants as denotes
use Rattle.go_report_core.specs.denote_core.declared.things.Stand.{Stand}
use Rattle.go_report_core.specs.denote_core.declared.things.Stand.TheVariants as stands
use Rattle.go_report_core.specs.denote_core.declared.things.Outcome.{Outcome}
use Rattle.go_report_core.specs.expr_core.Looks.{Looks}
use Rattle.go_report_core.specs.expr_core.Denoting.{denoted, written_type}
use Rattle.go_report_core.specs.expr_core.Uses.{uses}
use Rattle.go_report_core.specs.expr_core.Faults.{faults}
use Rattle.go_body_core.specs.stmt_core.PiecePieces.{piece_uses, piece_faults, piece_values}
use Rattle.go_workspace_laws.specs.folding.Reading.{AreReadOver, IsOver, IsOneOver, basic_of}
use Rattle.go_workspace_laws.specs.folding.Parts.{parts}
use Rattle.go_workspace_laws.specs.folding.Laws.{AreMeant}
use Rattle.go_workspace_laws.specs.folding.Typed.{AreTyped, KeepBasics}
use Rattle.go_program_laws.specs.checked_sources.Operators.{KeepIdentity}

-- names are in code what they are to the check, and over what their types are over
pub record AreAlike (T S D P : Type 0) (looks : Looks T S D P) (mean : Outcome D P → Meaning) : Type 0 where
  pub read : AreReadOver T S D P looks mean
  pub typed : AreTyped T S D P looks mean
  pub keep : KeepBasics looks.types
  pub identity : KeepIdentity looks.types

-- the predeclared types `int` and `bool` are over themselves
pub record ArePredeclared {T : Type 0} (rules : TypeRules T) : Type 0 where
  pub int : form_basic (rules.form rules.int) ≡ Some basics.Int
  pub bool : form_basic (rules.form rules.bool) ≡ Some basics.Bool

-- a piece of a function with such results, by which of the names that it declares are the first of their block, breaks no rule, and its names are such
pub record IsClear (T S D P : Type 0) (looks : Looks T S D P) (code : code_names.CodeLooks) (mean : Outcome D P → Meaning) (results : List (Option T)) (has_names : Bool) (firsts : List Bool) (p : Piece) : Type 0 where
  pub alike : AreAlike T S D P looks mean
  pub meant : AreMeant code mean (piece_uses looks p)
  pub sound : piece_faults looks results has_names firsts p ≡ []

-- an expression that breaks no rule, and its names are such
pub record IsClearAt (T S D P : Type 0) (looks : Looks T S D P) (code : code_names.CodeLooks) (mean : Outcome D P → Meaning) (p : Stand) (e : ExprTree) : Type 0 where
  pub alike : AreAlike T S D P looks mean
  pub meant : AreMeant code mean (uses looks p e)
  pub sound : faults looks p e ≡ []

-- a condition of which code is made is over `bool`
abbrev pub ConditionsAreOverBool : (T S D P : Type 0) → Type 0
ConditionsAreOverBool T S D P = (looks : Looks T S D P) (code : code_names.CodeLooks) (mean : Outcome D P → Meaning) (slots : List (Option ℕ)) (results : List (Option T)) (has_names : Bool) (firsts : List Bool) (e : ExprTree)
    → IsClear T S D P looks code mean results has_names firsts (Condition e) → (w : Word) → expr_gives (frame_of code slots) e ≡ gives.One w
    → w ≡ words.Bool

-- what is assigned is over what is assigned to
abbrev pub AssignmentsAreOverOne : (T S D P : Type 0) → Type 0
AssignmentsAreOverOne T S D P = (looks : Looks T S D P) (code : code_names.CodeLooks) (mean : Outcome D P → Meaning) (slots : List (Option ℕ)) (results : List (Option T)) (has_names : Bool) (firsts : List Bool) (t e : ExprTree) (span : Span)
    → IsClear T S D P looks code mean results has_names firsts (Act (Assign (One t) span (One e))) → is_blank_target t ≡ false
    → (v w : Word) → expr_gives (frame_of code slots) t ≡ gives.One v → expr_gives (frame_of code slots) e ≡ gives.One w
    → w ≡ v

-- `++`, `--` and the assignment operations of which code is made stand between integers
pub record UpdatesAreOverInt (T S D P : Type 0) : Type 0 where
  pub step : (looks : Looks T S D P) (code : code_names.CodeLooks) (mean : Outcome D P → Meaning) (slots : List (Option ℕ)) (results : List (Option T)) (has_names : Bool) (firsts : List Bool) (t : ExprTree) (op : Operator) (span : Span)
      → IsClear T S D P looks code mean results has_names firsts (Act (Step t op span)) → (v : Word) → expr_gives (frame_of code slots) t ≡ gives.One v
      → v ≡ words.Int
  pub update : (looks : Looks T S D P) (code : code_names.CodeLooks) (mean : Outcome D P → Meaning) (slots : List (Option ℕ)) (results : List (Option T)) (has_names : Bool) (firsts : List Bool) (t : ExprTree) (op : Operator) (span : Span) (e : ExprTree)
      → IsClear T S D P looks code mean results has_names firsts (Act (Update t op span e)) → is_some (update_operator op) ≡ true
      → (v w : Word) → expr_gives (frame_of code slots) t ≡ gives.One v → expr_gives (frame_of code slots) e ≡ gives.One w
      → (v ≡ words.Int) × (w ≡ words.Int)

-- a value is returned only where there is a result, and it is over what the result is over; nothing is returned where results have no names only where
-- there are none
pub record ReturnsAreOverResults (T S D P : Type 0) : Type 0 where
  pub value : (looks : Looks T S D P) (code : code_names.CodeLooks) (mean : Outcome D P → Meaning) (slots : List (Option ℕ)) (results : List (Option T)) (has_names : Bool) (firsts : List Bool) (place : Span) (e : ExprTree)
      → IsClear T S D P looks code mean results has_names firsts (Given place (Some (One e))) → (w : Word) → expr_gives (frame_of code slots) e ≡ gives.One w
      → (v : Word) → IsOneOver looks.types v results → w ≡ v
  pub some : (looks : Looks T S D P) (code : code_names.CodeLooks) (mean : Outcome D P → Meaning) (slots : List (Option ℕ)) (results : List (Option T)) (has_names : Bool) (firsts : List Bool) (place : Span) (e : ExprTree)
      → IsClear T S D P looks code mean results has_names firsts (Given place (Some (One e))) → (w : Word) → expr_gives (frame_of code slots) e ≡ gives.One w
      → results ≡ [] → ⊥
  pub none : (looks : Looks T S D P) (code : code_names.CodeLooks) (mean : Outcome D P → Meaning) (results : List (Option T)) (firsts : List Bool) (place : Span)
      → IsClear T S D P looks code mean results false firsts (Given place None) → results ≡ []

-- what one name stands for is over this
pub record StandsOver {T : Type 0} (rules : TypeRules T) (values : List (Option (Operand T))) (w : Word) : Type 0 where
  pub operand : Operand T
  pub alone : values ≡ Some operand ∷ []
  pub over : basic_under rules operand.value_type ≡ Some (basic_of w)

-- the declaration of one variable
abbrev pub one_variable : Ident → Option TypeTree → Option (Span × Separated ExprTree) → Piece
one_variable x t values = Spec value_kinds.Var (record { names = One x; type_expr = t; values = values })

-- a variable that is declared is over what it is given, and over what its type is over where one is written
pub record DeclarationsAreOverOne (T S D P : Type 0) : Type 0 where
  pub short : (looks : Looks T S D P) (code : code_names.CodeLooks) (mean : Outcome D P → Meaning) (slots : List (Option ℕ)) (results : List (Option T)) (has_names : Bool) (firsts : List Bool) (x : Ident) (span : Span) (e : ExprTree)
      → ArePredeclared looks.types → IsClear T S D P looks code mean results has_names (true ∷ firsts) (Act (Define (One x) span (One e))) → is_blank x.name ≡ false
      → (w : Word) → expr_gives (frame_of code slots) e ≡ gives.One w
      → StandsOver looks.types (piece_values looks (true ∷ firsts) (Act (Define (One x) span (One e)))) w
  pub untyped : (looks : Looks T S D P) (code : code_names.CodeLooks) (mean : Outcome D P → Meaning) (slots : List (Option ℕ)) (results : List (Option T)) (has_names : Bool) (firsts : List Bool) (x : Ident) (span : Span) (e : ExprTree)
      → ArePredeclared looks.types → IsClear T S D P looks code mean results has_names firsts (one_variable x None (Some (span, One e)))
      → (w : Word) → expr_gives (frame_of code slots) e ≡ gives.One w
      → StandsOver looks.types (piece_values looks firsts (one_variable x None (Some (span, One e)))) w
  pub typed : (looks : Looks T S D P) (code : code_names.CodeLooks) (mean : Outcome D P → Meaning) (slots : List (Option ℕ)) (results : List (Option T)) (has_names : Bool) (firsts : List Bool) (x : Ident) (t : TypeTree) (span : Span) (e : ExprTree)
      → IsClear T S D P looks code mean results has_names firsts (one_variable x (Some t) (Some (span, One e)))
      → (w : Word) → expr_gives (frame_of code slots) e ≡ gives.One w → (u : Word) → IsOver looks.types u (written_type looks t)
      → (w ≡ u) × StandsOver looks.types (piece_values looks firsts (one_variable x (Some t) (Some (span, One e)))) u
  pub without_value : (looks : Looks T S D P) (firsts : List Bool) (x : Ident) (t : TypeTree) (u : Word) → IsOver looks.types u (written_type looks t)
      → StandsOver looks.types (piece_values looks firsts (one_variable x (Some t) None)) u

-- a conversion of which code is made has one argument, which is over what its type is over
abbrev pub ConversionsKeepWords : (T S D P : Type 0) → Type 0
ConversionsKeepWords T S D P = (looks : Looks T S D P) (code : code_names.CodeLooks) (mean : Outcome D P → Meaning) (slots : List (Option ℕ)) (p : Stand) (e : ExprTree) → IsClearAt T S D P looks code mean p e
    → (q : Stand) (f : ExprTree) (first : Span) (items : ItemTrees) (last : Span) → Contains (parts p e) (q, Call f first items last)
    → (u : Word) → callee_meaning code f ≡ meanings.«Type» u → (w : Word) → expr_gives (frame_of code slots) (Call f first items last) ≡ gives.One w
    → letters (frame_of code slots) items ≡ u ∷ []

-- each of some parameters is of a type, and over this
abbrev pub AreOverEach : {T : Type 0} → TypeRules T → List Word → List (Option T) → Type 0
AreOverEach rules [] [] = Unit {0}
AreOverEach rules [] (t ∷ ts) = ⊥
AreOverEach rules (w ∷ ws) [] = ⊥
AreOverEach rules (w ∷ ws) (t ∷ ts) = IsOver rules w t × AreOverEach rules ws ts

-- a call of a function or a method has an argument for each parameter, over what the parameter is over
abbrev pub ArgumentsAreOverParameters : (T S D P : Type 0) → Type 0
ArgumentsAreOverParameters T S D P = (looks : Looks T S D P) (code : code_names.CodeLooks) (mean : Outcome D P → Meaning) (slots : List (Option ℕ)) (p : Stand) (e : ExprTree) → IsClearAt T S D P looks code mean p e
    → (q : Stand) (f : ExprTree) (first : Span) (items : ItemTrees) (last : Span) → Contains (parts p e) (q, Call f first items last)
    → (d : D) (s : S) → denoted looks stands.Callee f ≡ denotes.Func d s → (ws : List Word) → AreOverEach looks.types ws (looks.params s)
    → all_ones (frame_of code slots) items ≡ true
    → letters (frame_of code slots) items ≡ ws
