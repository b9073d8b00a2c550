-- What functions do, by their trees.
--
-- The Go specification, "Expressions", "Statements", "Calls", "Order of evaluation", "Program initialization and execution".
use Rattle.std.specs.Prelude.{ℕ, zero, suc, Bool, true, false, List, [], ◌∷◌, ◌++◌, length, map, nat_eq, slice_get, pos, Option, Some, None, if◌then◌else◌}
use Rattle.go_constant_core.specs.text_core.Text.{is_blank}
use Rattle.go_constant_core.specs.text_core.declared.span.Span.{Span}
use Rattle.go_tree_nodes.specs.token_core.declared.kind.Operator.{Operator}
use Rattle.go_tree_nodes.specs.token_core.declared.kind.Operator.TheVariants as operators
use Rattle.go_tree_nodes.specs.declared.names.Ident.{Ident}
use Rattle.go_tree_nodes.specs.declared.decls.ValueKind.{ValueKind}
use Rattle.go_tree_nodes.specs.declared.decls.ValueKind.TheVariants as value_kinds
use Rattle.go_object_core.specs.declared.instructions.letters.Word.{Word}
use Rattle.go_object_core.specs.declared.instructions.letters.Word.TheVariants as words
use Rattle.go_tree_nodes.specs.Trees.{TypeTree, Separated, One, Then, ExprTree, ItemTrees, Integer, Text, Named, Paren, Unary, Binary, Select, Call, Literal, StructLiteral, NoItems, Item, ValueSpecTree, Specs, Single, Group, SimpleTree, Alone, Step, Assign, Update, Define, StmtTree, Empty, Declare, Simple, Return, Break, Continue, Block, If, For, BranchTree, Branch, ElseTree, NoElse, ElseBlock, ElseIf, Lines, NoLines, Line, FuncTree}
use Rattle.go_code_core.specs.declared.fragments.names.ConstantWord.{ConstantWord}
use Rattle.go_code_core.specs.declared.fragments.names.ConstantWord.TheVariants as constants
use Rattle.go_code_core.specs.declared.fragments.names.Gives.{Gives}
use Rattle.go_code_core.specs.declared.fragments.names.Gives.TheVariants as gives
use Rattle.go_code_core.specs.declared.fragments.names.Meaning.{Meaning}
use Rattle.go_code_core.specs.declared.fragments.names.Meaning.TheVariants as meanings
use Rattle.go_code_core.specs.fragments.Constants.{folded}
use Rattle.go_code_core.specs.fragments.Fragment.{expr_gives, means_method, type_word}
use Rattle.go_code_core.specs.fragments.Names.{CodeLooks, Frame, callee_meaning, frame_of}
use Rattle.go_code_core.specs.fragments.Slots.{lines_slots, receiver_slots, signature_slots, slots_of}
use Rattle.go_code_core.specs.Code.{head_init, head_post, head_test, letters}
use Rattle.go_machine_core.specs.declared.state.PanicValue.{PanicValue}
use Rattle.go_machine_core.specs.declared.state.PanicValue.TheVariants as panics
use Rattle.go_machine_core.specs.Programs.{callee_in}
use Rattle.go_meaning_laws.specs.source_meaning.Values.{Value, Number, Truth, Applied, Yields, Panics, Undefined, unary_applied, binary_applied, step_binary, update_binary, panicked_with, line_printed}

-- what something comes to that is done, with what was printed up to then: it is done; it panicked with a value; a bound ran out; or it means nothing
pub data Outcome (A : Type 0) : Type 0 where
  Done : A → (out : List ℕ) → Outcome A
  Panicked : (value : PanicValue) (out : List ℕ) → Outcome A
  Unfinished : (out : List ℕ) → Outcome A
  Nonsense : Outcome A

abbrev pub and_then : {A B : Type 0} → Outcome A → (A → List ℕ → Outcome B) → Outcome B
and_then (Done a out) go = go a out
and_then (Panicked value out) go = Panicked value out
and_then (Unfinished out) go = Unfinished out
and_then Nonsense go = Nonsense

-- one value
abbrev pub just_one : {A : Type 0} → List Value → (Value → Outcome A) → Outcome A
just_one [] go = Nonsense
just_one (v ∷ []) go = go v
just_one (v ∷ w ∷ vs) go = Nonsense

abbrev pub just_none : {A : Type 0} → List Value → Outcome A → Outcome A
just_none [] go = go
just_none (v ∷ vs) go = Nonsense

abbrev pub with_one : {A : Type 0} → Outcome (List Value) → (Value → List ℕ → Outcome A) → Outcome A
with_one o go = and_then o (λ vs out. just_one vs (λ v. go v out))

-- a value that is a truth
abbrev pub just_truth : {A : Type 0} → Value → (Bool → Outcome A) → Outcome A
just_truth (Truth b) go = go b
just_truth (Number x) go = Nonsense

abbrev pub with_truth : {A : Type 0} → Outcome (List Value) → (Bool → List ℕ → Outcome A) → Outcome A
with_truth o go = with_one o (λ v out. just_truth v (λ b. go b out))

abbrev pub if_some : {A B : Type 0} → Option A → (A → Outcome B) → Outcome B
if_some None go = Nonsense
if_some (Some a) go = go a

-- what an operator gives, with what was printed up to then: the one that panics is a division by 0
abbrev pub if_yields : {A : Type 0} → Applied → List ℕ → (Value → Outcome A) → Outcome A
if_yields (Yields v) out go = go v
if_yields Panics out go = Panicked panics.DivideByZero out
if_yields Undefined out go = Nonsense

-- the values of the variables of a function, in the order in which they are declared; none of one whose declaration is not done yet
abbrev pub Variables : Type 0
Variables = List (Option Value)

abbrev pub value_of : List (Option ℕ) → Variables → ℕ → Option Value
value_of [] vs at = None
value_of (d ∷ ds) [] at = None
value_of (None ∷ ds) (v ∷ vs) at = value_of ds vs at
value_of (Some d ∷ ds) (v ∷ vs) at = if nat_eq d at then v else value_of ds vs at

abbrev pub behind : Option Value → Option Variables → Option Variables
behind v None = None
behind v (Some vs) = Some (v ∷ vs)

-- with another value of the variable that is declared at an offset
abbrev pub assigned : List (Option ℕ) → Variables → ℕ → Value → Option Variables
assigned [] vs at x = None
assigned (d ∷ ds) [] at x = None
assigned (None ∷ ds) (v ∷ vs) at x = behind v (assigned ds vs at x)
assigned (Some d ∷ ds) (v ∷ vs) at x = if nat_eq d at then Some (Some x ∷ vs) else behind v (assigned ds vs at x)

-- expressions: the values that they give, of which there is one, or none for a call without a result

-- what a call of a declared function with some arguments comes to
abbrev pub Calls : Type 0
Calls = ℕ → List Value → List ℕ → Outcome (List Value)

abbrev pub gives_one : Value → List ℕ → Outcome (List Value)
gives_one v out = Done (v ∷ []) out

abbrev pub constant_value : ConstantWord → Value
constant_value (constants.Int x) = Number x
constant_value (constants.Bool b) = Truth b

-- a constant expression has its value
abbrev pub constant_else : Option ConstantWord → List ℕ → Outcome (List Value) → Outcome (List Value)
constant_else (Some v) out o = gives_one (constant_value v) out
constant_else None out o = o

abbrev pub name_value : List (Option ℕ) → Meaning → Variables → List ℕ → Outcome (List Value)
name_value variables (meanings.Variable at w) values out = if_some (value_of variables values at) (λ v. gives_one v out)
name_value variables (meanings.Constant c) values out = gives_one (constant_value c) out
name_value variables _ values out = Nonsense

-- the second operand, which is a truth
abbrev pub second_truth : Outcome (List Value) → Outcome (List Value)
second_truth o = with_truth o (λ b out. gives_one (Truth b) out)

-- the second where the first holds, else false
abbrev pub and_value : Bool → List ℕ → Outcome (List Value) → Outcome (List Value)
and_value true out o = second_truth o
and_value false out o = gives_one (Truth false) out

-- true where the first holds, else the second
abbrev pub or_value : Bool → List ℕ → Outcome (List Value) → Outcome (List Value)
or_value true out o = gives_one (Truth true) out
or_value false out o = second_truth o

-- the operands from left to right; of `&&` and `||` the second only where it is wanted
abbrev pub binary_meaning : Operator → Outcome (List Value) → (List ℕ → Outcome (List Value)) → Outcome (List Value)
binary_meaning operators.LogicalAnd a b = with_truth a (λ x out. and_value x out (b out))
binary_meaning operators.LogicalOr a b = with_truth a (λ x out. or_value x out (b out))
binary_meaning op a b = with_one a (λ x out. with_one (b out) (λ y out. if_yields (binary_applied op x y) out (λ v. gives_one v out)))

-- what a declared function gives must be what its results say
abbrev pub fitting : Gives → List Value → List ℕ → Outcome (List Value)
fitting (gives.One w) vs out = just_one vs (λ v. gives_one v out)
fitting gives.Nothing vs out = just_none vs (Done [] out)
fitting gives.Other vs out = Nonsense

-- the declared function of a call, with its arguments
abbrev pub called : Calls → Option ℕ → Gives → List Value → List ℕ → Outcome (List Value)
called calls d g arguments out = if_some d (λ d. and_then (calls d arguments out) (λ vs out. fitting g vs out))

-- what is called, with the arguments, a receiver first
abbrev pub call_meaning : Calls → Frame → Meaning → Option ℕ → ItemTrees → List Value → List ℕ → Outcome (List Value)
call_meaning calls f (meanings.Function g) d items vs out = called calls d g vs out
call_meaning calls f (meanings.Method g) d items vs out = called calls d g vs out
call_meaning calls f (meanings.«Type» w) d items vs out = just_one vs (λ v. gives_one v out)
call_meaning calls f meanings.Println d items vs out = if_some (line_printed (letters f items) vs) (λ line. Done [] (out ++ line))
call_meaning calls f meanings.Panic d items vs out = if_some (panicked_with (letters f items) vs) (λ value. Panicked value out)
call_meaning calls f (meanings.Variable at w) d items vs out = Nonsense
call_meaning calls f (meanings.Constant v) d items vs out = Nonsense
call_meaning calls f meanings.Other d items vs out = Nonsense

-- a function as it is run: its names and variables, the number of the function that a call calls whose opening parenthesis stands at an offset, and
-- what calls come to
pub record Scene : Type 0 where
  pub frame : Frame
  pub declared : ℕ → Option ℕ
  pub calls : Calls

abbrev mutual
  pub expr_meaning : Scene → ExprTree → Variables → List ℕ → Outcome (List Value)
  expr_meaning c (Integer n s) values out = constant_else (folded c.frame.looks (Integer n s)) out Nonsense
  expr_meaning c (Text t) values out = Nonsense
  expr_meaning c (Literal n first items last) values out = Nonsense
  expr_meaning c (StructLiteral t first items last) values out = Nonsense
  expr_meaning c (Named x) values out = name_value c.frame.slots (c.frame.looks.meaning x.span.start) values out
  expr_meaning c (Paren first e last) values out = expr_meaning c e values out
  expr_meaning c (Unary op s e) values out = constant_else (folded c.frame.looks (Unary op s e)) out (with_one (expr_meaning c e values out) (λ x out. if_yields (unary_applied op x) out (λ v. gives_one v out)))
  expr_meaning c (Binary a op s b) values out = constant_else (folded c.frame.looks (Binary a op s b)) out (binary_meaning op (expr_meaning c a values out) (expr_meaning c b values))
  expr_meaning c (Select e dot x) values out = name_value c.frame.slots (c.frame.looks.meaning x.span.start) values out
  expr_meaning c (Call e first items last) values out =
      constant_else (folded c.frame.looks (Call e first items last)) out
      (and_then (receiver_meaning c e values out) (λ receiver out.
      and_then (items_meaning c items values out) (λ vs out.
      call_meaning c.calls c.frame (callee_meaning c.frame.looks e) (c.declared first.start) items (receiver ++ vs) out)))

  -- the receiver of a method that is called
  pub receiver_meaning : Scene → ExprTree → Variables → List ℕ → Outcome (List Value)
  receiver_meaning c (Select e dot x) values out = if means_method (c.frame.looks.meaning x.span.start) then with_one (expr_meaning c e values out) gives_one else Done [] out
  receiver_meaning c (Paren first e last) values out = receiver_meaning c e values out
  receiver_meaning c (Literal n first items last) values out = Done [] out
  receiver_meaning c (StructLiteral t first items last) values out = Done [] out
  receiver_meaning c (Integer n s) values out = Done [] out
  receiver_meaning c (Text t) values out = Done [] out
  receiver_meaning c (Named x) values out = if means_method (c.frame.looks.meaning x.span.start) then Nonsense else Done [] out
  receiver_meaning c (Unary op s e) values out = Done [] out
  receiver_meaning c (Binary a op s b) values out = Done [] out
  receiver_meaning c (Call e first items last) values out = Done [] out

  -- arguments, from left to right
  pub items_meaning : Scene → ItemTrees → Variables → List ℕ → Outcome (List Value)
  items_meaning c NoItems values out = Done [] out
  items_meaning c (Item key e comma rest) values out = with_one (expr_meaning c e values out) (λ v out. and_then (items_meaning c rest values out) (λ vs out. Done (v ∷ vs) out))

-- statements

-- how a statement is left, with the values of the variables: at its end, by `break` or `continue`, or by `return` with results
pub data Flow : Type 0 where
  Falls : (values : Variables) → Flow
  Breaks : (values : Variables) → Flow
  Continues : (values : Variables) → Flow
  Returns : (results : List Value) → Flow

-- what is behind a statement is done where its end is reached
abbrev pub flow_on : Flow → List ℕ → (Variables → List ℕ → Outcome Flow) → Outcome Flow
flow_on (Falls values) out go = go values out
flow_on (Breaks values) out go = Done (Breaks values) out
flow_on (Continues values) out go = Done (Continues values) out
flow_on (Returns vs) out go = Done (Returns vs) out

abbrev pub then_do : Outcome Flow → (Variables → List ℕ → Outcome Flow) → Outcome Flow
then_do o go = and_then o (λ flow out. flow_on flow out go)

-- a statement whose end is reached, with new values of the variables
abbrev pub falls : Option Variables → List ℕ → Outcome Flow
falls values out = if_some values (λ values. Done (Falls values) out)

-- what is assigned to: a variable, by the offset at which it is declared, nothing, or something else
pub data Goal : Type 0 where
  ToVariable : (at : ℕ) → Goal
  ToNothing : Goal
  Elsewhere : Goal

abbrev pub meant_goal : Meaning → Goal
meant_goal (meanings.Variable at w) = ToVariable at
meant_goal _ = Elsewhere

abbrev pub named_goal : CodeLooks → Ident → Goal
named_goal looks x = if is_blank x.name then ToNothing else meant_goal (looks.meaning x.span.start)

abbrev pub goal_of : CodeLooks → ExprTree → Goal
goal_of looks (Named x) = named_goal looks x
goal_of looks (Paren first e last) = goal_of looks e
goal_of looks (Integer n s) = Elsewhere
goal_of looks (Text t) = Elsewhere
goal_of looks (Unary op s e) = Elsewhere
goal_of looks (Binary a op s b) = Elsewhere
goal_of looks (Select e dot x) = Elsewhere
goal_of looks (Call e first items last) = Elsewhere
goal_of looks (Literal n first items last) = Elsewhere
goal_of looks (StructLiteral t first items last) = Elsewhere

-- what is declared
abbrev pub declared_goal : Ident → Goal
declared_goal x = if is_blank x.name then ToNothing else ToVariable x.span.start

abbrev pub assign_to : List (Option ℕ) → Goal → Value → Variables → List ℕ → Outcome Flow
assign_to variables (ToVariable at) v values out = falls (assigned variables values at v) out
assign_to variables ToNothing v values out = Done (Falls values) out
assign_to variables Elsewhere v values out = Nonsense

abbrev pub one_meaning : Scene → Separated ExprTree → Variables → List ℕ → Outcome (List Value)
one_meaning c (One e) values out = expr_meaning c e values out
one_meaning c (Then e comma more) values out = Nonsense

abbrev pub assign_one : Scene → Separated ExprTree → Value → Variables → List ℕ → Outcome Flow
assign_one c (One e) v values out = assign_to c.frame.slots (goal_of c.frame.looks e) v values out
assign_one c (Then e comma more) v values out = Nonsense

abbrev pub declare_one : Scene → Separated Ident → Value → Variables → List ℕ → Outcome Flow
declare_one c (One x) v values out = assign_to c.frame.slots (declared_goal x) v values out
declare_one c (Then x comma more) v values out = Nonsense

-- the variable's value, an operator, and another value: the variable's new value
abbrev pub update_meaning : List (Option ℕ) → Goal → Option Operator → (List ℕ → Outcome (List Value)) → Variables → List ℕ → Outcome Flow
update_meaning variables (ToVariable at) op value values out =
    if_some (value_of variables values at) (λ x.
    if_some op (λ op.
    with_one (value out) (λ y out. if_yields (binary_applied op x y) out (λ v. falls (assigned variables values at v) out))))
update_meaning variables ToNothing op value values out = Nonsense
update_meaning variables Elsewhere op value values out = Nonsense

-- the value of an expression that is a statement is let go
abbrev pub let_go : Gives → List Value → Variables → List ℕ → Outcome Flow
let_go (gives.One w) vs values out = just_one vs (λ v. Done (Falls values) out)
let_go gives.Nothing vs values out = just_none vs (Done (Falls values) out)
let_go gives.Other vs values out = Nonsense

abbrev pub simple_meaning : Scene → SimpleTree → Variables → List ℕ → Outcome Flow
simple_meaning c (Alone e) values out = and_then (expr_meaning c e values out) (λ vs out. let_go (expr_gives c.frame e) vs values out)
simple_meaning c (Step e op s) values out = update_meaning c.frame.slots (goal_of c.frame.looks e) (step_binary op) (λ out. gives_one (Number (pos 1)) out) values out
simple_meaning c (Assign ts s es) values out = with_one (one_meaning c es values out) (λ v out. assign_one c ts v values out)
simple_meaning c (Update t op s e) values out = update_meaning c.frame.slots (goal_of c.frame.looks t) (update_binary op) (expr_meaning c e values) values out
simple_meaning c (Define xs s es) values out = with_one (one_meaning c es values out) (λ v out. declare_one c xs v values out)

abbrev pub some_simple_meaning : Scene → Option SimpleTree → Variables → List ℕ → Outcome Flow
some_simple_meaning c None values out = Done (Falls values) out
some_simple_meaning c (Some s) values out = simple_meaning c s values out

-- without an initialiser a variable has the zero value of its type

abbrev pub zero_value : Word → Value
zero_value words.Int = Number (pos 0)
zero_value words.Bool = Truth false

abbrev pub some_type_word : CodeLooks → Option TypeTree → Option Word
some_type_word looks None = None
some_type_word looks (Some t) = type_word looks t

abbrev pub initial_meaning : Scene → Option TypeTree → Option (Span × Separated ExprTree) → Variables → List ℕ → Outcome (List Value)
initial_meaning c type_expr None values out = if_some (some_type_word c.frame.looks type_expr) (λ w. gives_one (zero_value w) out)
initial_meaning c type_expr (Some v) values out = one_meaning c v.1 values out

abbrev pub value_spec_meaning : Scene → ValueKind → ValueSpecTree → Variables → List ℕ → Outcome Flow
value_spec_meaning c value_kinds.Const v values out = Done (Falls values) out
value_spec_meaning c value_kinds.Var v values out = with_one (initial_meaning c v.type_expr v.values values out) (λ x out. declare_one c v.names x values out)

abbrev pub value_lines_meaning : Scene → ValueKind → List (ValueSpecTree × Option Span) → Variables → List ℕ → Outcome Flow
value_lines_meaning c kind [] values out = Done (Falls values) out
value_lines_meaning c kind (l ∷ ls) values out = then_do (value_spec_meaning c kind l.0 values out) (value_lines_meaning c kind ls)

abbrev pub value_specs_meaning : Scene → ValueKind → Specs ValueSpecTree → Variables → List ℕ → Outcome Flow
value_specs_meaning c kind (Single v) values out = value_spec_meaning c kind v values out
value_specs_meaning c kind (Group first ls last) values out = value_lines_meaning c kind ls values out

-- what is done in front of a condition
abbrev pub init_meaning : Scene → Option (Option SimpleTree × Span) → Variables → List ℕ → Outcome Flow
init_meaning c None values out = Done (Falls values) out
init_meaning c (Some init) values out = some_simple_meaning c init.0 values out

-- a condition: true where there is none
abbrev pub test_meaning : Scene → Option ExprTree → Variables → List ℕ → Outcome Bool
test_meaning c None values out = Done true out
test_meaning c (Some e) values out = with_truth (expr_meaning c e values out) (λ b out. Done b out)

-- behind the body of a loop: `break` ends the loop, and `continue` ends the body
abbrev pub loop_on : Flow → List ℕ → (Variables → List ℕ → Outcome Flow) → Outcome Flow
loop_on (Falls values) out go = go values out
loop_on (Breaks values) out go = Done (Falls values) out
loop_on (Continues values) out go = go values out
loop_on (Returns vs) out go = Done (Returns vs) out

-- at most so many turns of a loop
abbrev pub turns : ℕ → (Variables → List ℕ → Outcome Bool) → (Variables → List ℕ → Outcome Flow) → (Variables → List ℕ → Outcome Flow) → Variables → List ℕ → Outcome Flow
turns zero test body post values out = Unfinished out
turns (suc n) test body post values out =
    and_then (test values out) (λ holds out.
    if holds
    then and_then (body values out) (λ flow out. loop_on flow out (λ values out. then_do (post values out) (turns n test body post)))
    else Done (Falls values) out)

abbrev pub returned : Scene → Option (Separated ExprTree) → Variables → List ℕ → Outcome Flow
returned c None values out = Done (Returns []) out
returned c (Some es) values out = with_one (one_meaning c es values out) (λ v out. Done (Returns (v ∷ [])) out)

-- what a statement does, where each loop makes at most n turns
abbrev mutual
  pub stmt_meaning : ℕ → Scene → StmtTree → Variables → List ℕ → Outcome Flow
  stmt_meaning n c Empty values out = Done (Falls values) out
  stmt_meaning n c (Declare v) values out = value_specs_meaning c v.kind v.specs values out
  stmt_meaning n c (Simple s) values out = simple_meaning c s values out
  stmt_meaning n c (Return s es) values out = returned c es values out
  stmt_meaning n c (Break s) values out = Done (Breaks values) out
  stmt_meaning n c (Continue s) values out = Done (Continues values) out
  stmt_meaning n c (Block first ls last) values out = lines_meaning n c ls values out
  stmt_meaning n c (If b) values out = branch_meaning n c b values out
  stmt_meaning n c (For k head first ls last) values out =
      then_do (some_simple_meaning c (head_init head) values out)
      (turns n (test_meaning c (head_test head)) (lines_meaning n c ls) (some_simple_meaning c (head_post head)))

  pub branch_meaning : ℕ → Scene → BranchTree → Variables → List ℕ → Outcome Flow
  branch_meaning n c (Branch k head first ls last other) values out =
      then_do (init_meaning c head.init values out) (λ values out.
      and_then (test_meaning c (Some head.condition) values out) (λ holds out. if holds then lines_meaning n c ls values out else else_meaning n c other values out))

  pub else_meaning : ℕ → Scene → ElseTree → Variables → List ℕ → Outcome Flow
  else_meaning n c NoElse values out = Done (Falls values) out
  else_meaning n c (ElseBlock k first ls last) values out = lines_meaning n c ls values out
  else_meaning n c (ElseIf k b) values out = branch_meaning n c b values out

  pub lines_meaning : ℕ → Scene → Lines → Variables → List ℕ → Outcome Flow
  lines_meaning n c NoLines values out = Done (Falls values) out
  lines_meaning n c (Line s semicolon rest) values out = then_do (stmt_meaning n c s values out) (lines_meaning n c rest)

-- functions

-- the results of a body
abbrev pub results_of : Flow → List ℕ → Outcome (List Value)
results_of (Falls values) out = Done [] out
results_of (Breaks values) out = Nonsense
results_of (Continues values) out = Nonsense
results_of (Returns vs) out = Done vs out

-- a function as it stands in a program: what its names come to, of each of its references the number of the function that it is, if it is one, and its
-- tree
pub record SourceOf : Type 0 where
  pub looks : CodeLooks
  pub callees : List (Option ℕ)
  pub tree : FuncTree

-- its receiver and its parameters
abbrev pub params_of : FuncTree → List (Option ℕ)
params_of func = receiver_slots func.receiver ++ signature_slots func.signature

abbrev pub locals_of : SourceOf → List (Option ℕ)
locals_of s = lines_slots s.looks s.tree.body

-- the variables as a function begins: the receiver and the parameters have the arguments
abbrev pub first_values : SourceOf → List Value → Option Variables
first_values s arguments = if nat_eq (length arguments) (length (params_of s.tree)) then Some (map Some arguments ++ map (λ d. None) (locals_of s)) else None

abbrev pub callee_at : List (Option ℕ) → ℕ → Option ℕ
callee_at callees reference = callee_in (slice_get callees reference)

abbrev pub scene_of : Calls → SourceOf → Scene
scene_of calls s = record { frame = frame_of s.looks (slots_of s.looks s.tree); declared = λ first. callee_at s.callees (s.looks.reference first); calls = calls }
