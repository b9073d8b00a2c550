-- Statements, worked out.
use Rattle.std.specs.Prelude.{◌≡◌, true, false, List, [], ◌∷◌, Some, None, pos}
use Rattle.go_constant_core.specs.text_core.declared.rule.Rule.TheVariants.{Y3, Y4, Y7, Y8, X1}
use Rattle.go_tree_nodes.specs.token_core.declared.kind.Operator.TheVariants as operators
use Rattle.go_constant_core.specs.declared.values.Constant.{Constant}
use Rattle.go_constant_core.specs.declared.values.Constant.TheVariants as constant
use Rattle.go_expr_core.specs.operand_core.declared.types.ValueType.{ValueType}
use Rattle.go_expr_core.specs.operand_core.declared.types.ValueType.TheVariants as value_types
use Rattle.go_expr_core.specs.operand_core.declared.types.Operand.{Operand}
use Rattle.go_expr_core.specs.denote_core.declared.things.Builtin.TheVariants as builtins
use Rattle.go_expr_core.specs.denote_core.declared.things.Argument.{Argument}
use Rattle.go_expr_core.specs.denote_core.declared.things.Argument.TheVariants as arguments
use Rattle.go_expr_core.specs.denote_core.declared.things.Denoted.{Denoted}
use Rattle.go_expr_core.specs.denote_core.declared.things.Denoted.TheVariants as denotes
use Rattle.go_expr_core.specs.denote_core.Look.{Look}
use Rattle.go_expr_core.specs.denote_core.Arguments.{arguments_of, is_free}
use Rattle.go_stmt_core.specs.declared.statement.targets.Target.TheVariants as targets
use Rattle.go_stmt_core.specs.statement.Targets.{target_of}
use Rattle.go_stmt_core.specs.statement.Assignments.{assignment_rule}
use Rattle.go_stmt_core.specs.statement.Declarations.{declared_types, variables_rule, short_types}
use Rattle.go_stmt_core.specs.statement.Constants.{answer, constants_rule, constant_answer}
use Rattle.go_stmt_core.specs.statement.Returns.{return_rule}
use Rattle.go_stmt_core.specs.statement.Statements.{statement_rule, condition_rule}
use Rattle.go_stmt_core.specs.statement.Updates.{update_rule}
use Rattle.go_expr_core.specs.operand_core.Variables.{operand}

-- `1`
abbrev pub sample_one : {T : Type 0} → Operand T
sample_one = operand value_types.UntypedInt (Some (constant.Int (pos 1))) false

-- `"a"`
abbrev pub sample_text : {T : Type 0} → Operand T
sample_text = operand value_types.UntypedText (Some (constant.Text (97 ∷ []))) false

-- `nil`
abbrev pub nil : {T : Type 0} → Operand T
nil = operand value_types.Nil None false

-- a variable of a type
abbrev pub sample_variable : {T : Type 0} → T → Operand T
sample_variable t = operand (value_types.Typed t) None true

-- one expression
abbrev pub alone : {T S D P : Type 0} → Look T S D P → Denoted T S D → List (Argument T)
alone look denoted = arguments_of look (denoted ∷ [])

pub record WorkedStatements (T S D P : Type 0) : Type 0 where
  -- a, b := 1, "a"
  pub both_new : (look : Look T S D P) → short_types look.types (targets.New ∷ targets.New ∷ []) (arguments_of look (denotes.«Value» sample_one ∷ denotes.«Value» sample_text ∷ []))
      ≡ Some look.types.int ∷ Some look.types.string ∷ []
  -- a, b := 1, "a", where a is a variable of type t already
  pub one_new : (look : Look T S D P) (t : T) → short_types look.types (targets.Variable t ∷ targets.New ∷ []) (arguments_of look (denotes.«Value» sample_one ∷ denotes.«Value» sample_text ∷ []))
      ≡ Some t ∷ Some look.types.string ∷ []
  -- a, b := f(), where f has results of types t and u
  pub two_results : (look : Look T S D P) (s : S) (t u : T) → look.names.results s ≡ Some t ∷ Some u ∷ []
      → short_types look.types (targets.New ∷ targets.New ∷ []) (alone look (denotes.Several s)) ≡ Some t ∷ Some u ∷ []
  pub two_taken : (look : Look T S D P) (s : S) (t u : T) → look.names.results s ≡ Some t ∷ Some u ∷ []
      → assignment_rule look.types (targets.New ∷ targets.New ∷ []) false (alone look (denotes.Several s)) ≡ None
  -- a := f()
  pub two_for_one : (look : Look T S D P) (s : S) (t u : T) → look.names.results s ≡ Some t ∷ Some u ∷ []
      → assignment_rule look.types (targets.New ∷ []) false (alone look (denotes.Several s)) ≡ Some Y4
  -- a, b := 1
  pub one_for_two : (look : Look T S D P) → short_types look.types (targets.New ∷ targets.New ∷ []) (alone look (denotes.«Value» sample_one)) ≡ None ∷ None ∷ []
  -- a := v(), where v has no results
  pub no_value : (look : Look T S D P) → assignment_rule look.types (targets.New ∷ []) false (alone look denotes.Nothing) ≡ Some Y4
  -- v() = 1
  pub call_left : (look : Look T S D P) → assignment_rule look.types (target_of {S = S} {D = D} denotes.Nothing true ∷ []) false (alone look (denotes.«Value» sample_one)) ≡ Some Y4
  -- 1 = 1
  pub value_left : (look : Look T S D P) → assignment_rule look.types (target_of {S = S} {D = D} (denotes.«Value» sample_one) true ∷ []) false (alone look (denotes.«Value» sample_one)) ≡ Some Y4
  -- _ = nil, _ = 1
  pub blank_nil : (look : Look T S D P) → assignment_rule look.types (targets.Blank ∷ []) false (alone look (denotes.«Value» nil)) ≡ Some Y4
  pub blank_one : (look : Look T S D P) → assignment_rule look.types (targets.Blank ∷ []) false (alone look (denotes.«Value» sample_one)) ≡ None
  -- a, b = n(), where n is refused: nothing is known of its count; a, b = n, where n is no call
  pub refused_call : (look : Look T S D P) (t u : T) → assignment_rule look.types (targets.Variable t ∷ targets.Variable u ∷ []) (is_free {T = T} {S = S} {D = D} true (denotes.Refused ∷ [])) (alone look denotes.Refused) ≡ None
  pub refused_name : (look : Look T S D P) (t u : T) → assignment_rule look.types (targets.Variable t ∷ targets.Variable u ∷ []) (is_free {T = T} {S = S} {D = D} false (denotes.Refused ∷ [])) (alone look denotes.Refused) ≡ Some Y4
  -- var a = 1, var a = nil, var a, b = 1
  pub variable_one : (look : Look T S D P) → declared_types look.types None 1 (alone look (denotes.«Value» sample_one)) ≡ Some look.types.int ∷ []
  pub variable_nil : (look : Look T S D P) → variables_rule look.types None 1 false (alone look (denotes.«Value» nil)) ≡ Some Y4
  pub variable_two : (look : Look T S D P) → variables_rule look.types None 2 false (alone look (denotes.«Value» sample_one)) ≡ Some Y4
  -- const a = 1, of a variable, of nil, of a refused expression
  pub constant_one : (look : Look T S D P) → constant_answer look.types None (arguments.«Value» sample_one) ≡ answer (Some sample_one) None
  pub constant_held : (look : Look T S D P) → constant_answer look.types None (arguments.«Value» (operand value_types.UntypedBool None false)) ≡ answer None (Some Y7)
  pub constant_nil : (look : Look T S D P) → constant_answer look.types None (arguments.«Value» nil) ≡ answer None (Some Y7)
  pub constant_refused : (look : Look T S D P) → constant_answer look.types None arguments.Refused ≡ answer None None
  -- const a, b = 1
  pub constants_one : (look : Look T S D P) → constants_rule look.types false 2 (arguments.«Value» sample_one ∷ []) ≡ Some Y4
  -- return, with names of results and without; return 1, return v(), where there are no results
  pub return_named : (look : Look T S D P) (t : T) → return_rule look.types (Some t ∷ []) true false [] ≡ None
  pub return_nothing : (look : Look T S D P) (t : T) → return_rule look.types (Some t ∷ []) false false [] ≡ Some Y4
  pub return_plain : (look : Look T S D P) → return_rule look.types [] false false [] ≡ None
  pub return_one : (look : Look T S D P) → return_rule look.types [] false false (alone look (denotes.«Value» sample_one)) ≡ Some Y4
  pub return_void : (look : Look T S D P) → return_rule look.types [] false false (alone look denotes.Nothing) ≡ Some Y4
  -- the statements f(), t(1), len("a"), panic(1), 1
  pub call : (d : D) (s : S) (t : T) → statement_rule (Some (denotes.Func d s)) (denotes.«Value» (sample_variable t)) ≡ None
  pub conversion : (d : D) (t : T) → statement_rule {S = S} (Some (denotes.«Type» d (Some t))) (denotes.«Value» (sample_variable t)) ≡ Some Y8
  pub length : (d : D) (t : T) → statement_rule {S = S} (Some (denotes.Builtin d builtins.Len)) (denotes.«Value» (sample_variable t)) ≡ Some Y8
  pub panics : (d : D) → statement_rule {T = T} {S = S} (Some (denotes.Builtin d builtins.Panic)) denotes.Nothing ≡ None
  pub literal : statement_rule {T = T} {S = S} {D = D} None (denotes.«Value» sample_one) ≡ Some Y8
  -- if nil
  pub condition_nil : (look : Look T S D P) → condition_rule {S = S} {D = D} look.types (denotes.«Value» nil) ≡ Some Y3
  -- n &= 1, where n is refused
  pub refused_bits : (look : Look T S D P) → update_rule look.types operators.AndAssign arguments.Refused (arguments.«Value» sample_one) ≡ Some X1
