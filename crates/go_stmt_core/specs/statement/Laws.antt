-- Laws of assignments, declarations, returns and statements.
use Rattle.std.specs.Prelude.{◌≡◌, ◌≢◌, ◌↔◌, ◌⊎◌, ◌<◌, ℕ, Bool, true, false, List, [], ◌∷◌, length, replicate, slice_get, Option, Some, None, IfSome}
use Rattle.go_constant_core.specs.text_core.declared.rule.Rule.TheVariants.{Y3, Y4, Y7, Y8, X1}
use Rattle.go_tree_nodes.specs.token_core.declared.kind.Operator.{Operator}
use Rattle.go_tree_nodes.specs.token_core.declared.kind.Operator.TheVariants as operators
use Rattle.go_constant_core.specs.declared.values.Constant.{Constant}
use Rattle.go_term_core.specs.declared.term.Basic.{Basic}
use Rattle.go_term_core.specs.declared.term.Basic.TheVariants as basics
use Rattle.go_expr_core.specs.operand_core.declared.types.ValueType.TheVariants as value_types
use Rattle.go_expr_core.specs.operand_core.declared.types.TypeForm.TheVariants as forms
use Rattle.go_expr_core.specs.operand_core.declared.types.Operand.{Operand}
use Rattle.go_expr_core.specs.operand_core.TypeRules.{TypeRules}
use Rattle.go_expr_core.specs.operand_core.Values.{basic_type, basic_under, default_type}
use Rattle.go_expr_core.specs.operand_core.Relations.{IsAssignable}
use Rattle.go_expr_core.specs.operand_core.Known.{KeepsKinds, IsConstantOfItsType}
use Rattle.go_expr_core.specs.operand_core.Updates.{update, increment}
use Rattle.go_expr_core.specs.denote_core.declared.things.Builtin.TheVariants as builtins
use Rattle.go_expr_core.specs.denote_core.declared.things.Denoted.{Denoted}
use Rattle.go_expr_core.specs.denote_core.declared.things.Denoted.TheVariants as denotes
use Rattle.go_expr_core.specs.denote_core.declared.things.Argument.{Argument}
use Rattle.go_expr_core.specs.denote_core.declared.things.Argument.TheVariants as arguments
use Rattle.go_expr_core.specs.denote_core.Arguments.{is_refused, single_rule}
use Rattle.go_stmt_core.specs.declared.statement.targets.Target.{Target}
use Rattle.go_stmt_core.specs.declared.statement.targets.Target.TheVariants as targets
use Rattle.go_stmt_core.specs.statement.Targets.{target_of}
use Rattle.go_stmt_core.specs.statement.Assignments.{assignment_rule}
use Rattle.go_stmt_core.specs.statement.Declarations.{declared_types, declared_target, variables_rule, short_types}
use Rattle.go_stmt_core.specs.statement.Constants.{answer, constants_rule, constant_answer}
use Rattle.go_stmt_core.specs.statement.Returns.{return_rule}
use Rattle.go_stmt_core.specs.statement.Statements.{statement_rule, condition_rule}
use Rattle.go_stmt_core.specs.statement.Updates.{update_rule, increment_rule}
use Rattle.go_stmt_core.specs.statement.Relations.{IsAssigned, Returns, IsConstant, IsDeclaredAs, IsNoConstant, IsOfOtherType}

-- "Assignment statements"
pub record AssignmentsStand (T : Type 0) : Type 0 where
  pub stands : (rules : TypeRules T) (ts : List (Target T)) (is_free : Bool) (given : List (Argument T))
      → (assignment_rule rules ts is_free given ≡ None) ↔ IsAssigned rules ts is_free given
  -- no other rule is broken
  pub only : (rules : TypeRules T) (ts : List (Target T)) (is_free : Bool) (given : List (Argument T)) → IfSome (assignment_rule rules ts is_free given) (λ rule. rule ≡ Y4)

-- what is addressable is a variable of its type, what is not is a bad left side, and what has no type is neither
pub record TargetsAreAddressable (T S D : Type 0) : Type 0 where
  pub variable : (o : Operand T) (t : T) (is_alone : Bool)
      → (target_of {S = S} {D = D} (denotes.«Value» o) is_alone ≡ targets.Variable t) ↔ ((o.addressable ≡ true) × (o.value_type ≡ value_types.Typed t))
  pub fixed : (o : Operand T) (is_alone : Bool) → o.addressable ≡ false → target_of {S = S} {D = D} (denotes.«Value» o) is_alone ≡ targets.Fixed
  pub alone : (denoted : Denoted T S D) → single_rule denoted ≡ Some Y3 → target_of denoted true ≡ targets.Fixed
  pub among : (denoted : Denoted T S D) → single_rule denoted ≡ Some Y3 → target_of denoted false ≡ targets.Typeless
  pub refused : (denoted : Denoted T S D) (is_alone : Bool) → is_refused denoted ≡ true → target_of denoted is_alone ≡ targets.Typeless

-- the predeclared types are what they are called, and a value is assignable to a variable of its own type
pub record KnowsTypes {T : Type 0} (rules : TypeRules T) : Type 0 where
  pub basic : (b : Basic) → rules.form (basic_type rules b) ≡ forms.Basic b
  pub itself : (t : T) → rules.assignable t t ≡ true

-- a value initialises a variable of this type: it is assignable to it, and no value is untyped any more
pub record Initialises {T : Type 0} (rules : TypeRules T) (o : Operand T) (declared : Option (Option T)) : Type 0 where
  pub t : T
  pub declared_is : declared ≡ Some (Some t)
  pub assignable : IsAssignable rules o.value_type t

-- "Variable declarations"
pub record VariablesAreDeclared (T : Type 0) : Type 0 where
  -- the variables are initialised by the rules of assignment
  pub by_assignment : (rules : TypeRules T) (written : Option (Option T)) (count : ℕ) (is_free : Bool) (given : List (Argument T))
      → variables_rule rules written count is_free given ≡ assignment_rule rules (replicate count (declared_target written)) is_free given
  -- each has a type, or none
  pub count : (rules : TypeRules T) (written : Option (Option T)) (count : ℕ) (given : List (Argument T)) → length (declared_types rules written count given) ≡ count
  -- if a type is written, each variable is given that type
  pub written : (rules : TypeRules T) (t : Option T) (count i : ℕ) (given : List (Argument T)) → i < count → slice_get (declared_types rules (Some t) count given) i ≡ Some t
  -- otherwise each variable is given the type of its own value, or the default type of an untyped one
  pub own : (rules : TypeRules T) (given : List (Argument T)) (i : ℕ) (o : Operand T)
      → slice_get given i ≡ Some (arguments.«Value» o) → slice_get (declared_types rules None (length given) given) i ≡ Some (default_type rules o.value_type)
  -- where there is not one value for each, the variables have no type
  pub unpaired : (rules : TypeRules T) (count i : ℕ) (given : List (Argument T)) → count ≢ length given → i < count → slice_get (declared_types rules None count given) i ≡ Some None
  -- where the declaration stands, each value is assignable to its variable
  pub initialised : (rules : TypeRules T) (count : ℕ) (given : List (Argument T)) (i : ℕ) (o : Operand T) → KnowsTypes rules
      → variables_rule rules None count false given ≡ None → slice_get given i ≡ Some (arguments.«Value» o)
      → Initialises rules o (slice_get (declared_types rules None count given) i)

-- "Short variable declarations"
pub record ShortDeclarations (T : Type 0) : Type 0 where
  -- shorthand for a declaration of variables without types
  pub all_new : (rules : TypeRules T) (count : ℕ) (given : List (Argument T)) → short_types rules (replicate count targets.New) given ≡ declared_types rules None count given
  pub count : (rules : TypeRules T) (ts : List (Target T)) (given : List (Argument T)) → length (short_types rules ts given) ≡ length ts
  -- a variable that was declared before keeps its type, whatever it is given
  pub old : (rules : TypeRules T) (ts : List (Target T)) (given : List (Argument T)) (i : ℕ) (t : T)
      → slice_get ts i ≡ Some (targets.Variable t) → slice_get (short_types rules ts given) i ≡ Some (Some t)
  -- a new one has the type of its own value, or the default type of an untyped one
  pub new : (rules : TypeRules T) (ts : List (Target T)) (given : List (Argument T)) (i : ℕ) (o : Operand T) → length ts ≡ length given
      → slice_get ts i ≡ Some targets.New → slice_get given i ≡ Some (arguments.«Value» o) → slice_get (short_types rules ts given) i ≡ Some (default_type rules o.value_type)
  -- and none where there is not one value for each name
  pub unpaired : (rules : TypeRules T) (ts : List (Target T)) (given : List (Argument T)) (i : ℕ) → length ts ≢ length given
      → slice_get ts i ≡ Some targets.New → slice_get (short_types rules ts given) i ≡ Some None

-- "Constant declarations", "Constants"
pub record ConstantsAreDeclared (T : Type 0) : Type 0 where
  pub stands : (rules : TypeRules T) (written : Option (Option T)) (given : Argument T) (declared : Option (Operand T))
      → (constant_answer rules written given ≡ answer declared None) ↔ IsDeclaredAs rules written given declared
  -- Y7 is of what is not constant, or not over bool, int or string; then Y4 of another type than is written
  pub no_constant : (rules : TypeRules T) (written : Option (Option T)) (given : Argument T)
      → ((constant_answer rules written given).rule ≡ Some Y7) ↔ IsNoConstant rules written given
  pub of_other_type : (rules : TypeRules T) (written : Option (Option T)) (given : Argument T)
      → ((constant_answer rules written given).rule ≡ Some Y4) ↔ IsOfOtherType rules written given
  pub only : (rules : TypeRules T) (written : Option (Option T)) (given : Argument T)
      → IfSome (constant_answer rules written given).rule (λ rule. (rule ≡ Y4) ⊎ (rule ≡ Y7))
  -- what is declared of a constant of its type is a constant of its type: none that is out of range, and none that is not known
  pub of_its_type : (rules : TypeRules T) (written : Option (Option T)) (o v : Operand T) → KeepsKinds rules → IsConstantOfItsType rules o
      → constant_answer rules written (arguments.«Value» o) ≡ answer (Some v) None → IsConstantOfItsType rules v
  -- the number of constants is equal to the number of expressions
  pub counted : (rules : TypeRules T) (count : ℕ) (given : List (Argument T)) → (constants_rule rules false count given ≡ None) ↔ (count ≡ length given)
  pub lone_constant : (rules : TypeRules T) (count : ℕ) (given : Argument T) (o : Operand T) (k : Constant) → IsConstant rules given o k
      → (constants_rule rules true count (given ∷ []) ≡ None) ↔ (count ≡ 1)
  pub only_count : (rules : TypeRules T) (is_lone_call : Bool) (count : ℕ) (given : List (Argument T)) → IfSome (constants_rule rules is_lone_call count given) (λ rule. rule ≡ Y4)

-- "Return statements"
pub record ReturnsStand (T : Type 0) : Type 0 where
  pub stands : (rules : TypeRules T) (results : List (Option T)) (has_names is_free : Bool) (given : List (Argument T))
      → (return_rule rules results has_names is_free given ≡ None) ↔ Returns rules results has_names is_free given
  pub only : (rules : TypeRules T) (results : List (Option T)) (has_names is_free : Bool) (given : List (Argument T))
      → IfSome (return_rule rules results has_names is_free given) (λ rule. rule ≡ Y4)

-- a call of a function or a method, and of no predeclared function but `panic`, `print` and `println`
abbrev pub MayStand : {T S D : Type 0} → Denoted T S D → Type 0
MayStand {T} {S} {D} callee = ((d : D) (t : Option T) → callee ≢ denotes.«Type» d t) × ((d : D) → callee ≢ denotes.Builtin d builtins.Len)

pub record IsCallOf {T S D : Type 0} (callee : Option (Denoted T S D)) : Type 0 where
  pub called : Denoted T S D
  pub callee_is : callee ≡ Some called
  pub may_stand : MayStand called

-- "Expression statements"
pub record CallsStand (T S D : Type 0) : Type 0 where
  pub stands : (callee : Option (Denoted T S D)) (denoted : Denoted T S D) → (statement_rule callee denoted ≡ None) ↔ ((is_refused denoted ≡ true) ⊎ IsCallOf callee)
  pub only : (callee : Option (Denoted T S D)) (denoted : Denoted T S D) → IfSome (statement_rule callee denoted) (λ rule. rule ≡ Y8)

-- "If statements", "For statements", and where single values are wanted
pub record ConditionsAreBoolean (T S D : Type 0) : Type 0 where
  pub boolean : (rules : TypeRules T) (o : Operand T) → (condition_rule {S = S} {D = D} rules (denotes.«Value» o) ≡ None) ↔ (basic_under rules o.value_type ≡ Some basics.Bool)
  -- what is no single value is no condition
  pub single : (rules : TypeRules T) (denoted : Denoted T S D) → single_rule denoted ≡ Some Y3 → condition_rule rules denoted ≡ Some Y3
  pub refused : (rules : TypeRules T) (denoted : Denoted T S D) → is_refused denoted ≡ true → condition_rule rules denoted ≡ None
  pub only : (rules : TypeRules T) (denoted : Denoted T S D) → IfSome (condition_rule rules denoted) (λ rule. rule ≡ Y3)
  -- a call with several results, and a call without results, are no single values
  pub not_single : (denoted : Denoted T S D) → (single_rule denoted ≡ Some Y3) ↔ ((denoted ≡ denotes.Nothing) ⊎ ((s : S) × (denoted ≡ denotes.Several s)))
  pub only_single : (denoted : Denoted T S D) → IfSome (single_rule denoted) (λ rule. rule ≡ Y3)

abbrev pub IsBitAssignment : Operator → Type 0
IsBitAssignment op =
    (op ≡ operators.AndAssign) ⊎ ((op ≡ operators.OrAssign) ⊎ ((op ≡ operators.CaretAssign) ⊎ ((op ≡ operators.AndNotAssign)
    ⊎ ((op ≡ operators.ShiftLeftAssign) ⊎ (op ≡ operators.ShiftRightAssign)))))

-- `+=`, `-=`, `*=`, `/=`, `%=`
abbrev pub IsSumAssignment : Operator → Type 0
IsSumAssignment op =
    (op ≡ operators.PlusAssign) ⊎ ((op ≡ operators.MinusAssign) ⊎ ((op ≡ operators.StarAssign) ⊎ ((op ≡ operators.SlashAssign) ⊎ (op ≡ operators.PercentAssign))))

-- "Assignment statements": assignment operations; "IncDec statements"
pub record UpdatesStand (T : Type 0) : Type 0 where
  pub of_values : (rules : TypeRules T) (op : Operator) (x y : Operand T) → update_rule rules op (arguments.«Value» x) (arguments.«Value» y) ≡ update rules op x y
  -- bit operators and shifts are outside whatever stands beside them
  pub bits : (rules : TypeRules T) (op : Operator) (x y : Argument T) → IsBitAssignment op → update_rule rules op x y ≡ Some X1
  -- another operator breaks no rule beside what is refused
  pub refused_left : (rules : TypeRules T) (op : Operator) (y : Argument T) → IsSumAssignment op → update_rule rules op arguments.Refused y ≡ None
  pub refused_right : (rules : TypeRules T) (op : Operator) (x : Argument T) → IsSumAssignment op → update_rule rules op x arguments.Refused ≡ None
  pub of_value : (rules : TypeRules T) (x : Operand T) → increment_rule rules (arguments.«Value» x) ≡ increment rules x
  pub refused : (rules : TypeRules T) → increment_rule rules arguments.Refused ≡ None
