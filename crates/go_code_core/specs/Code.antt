-- The code of functions: each form is its parts' codes one behind another, with jumps that count from the next instruction.
use Rattle.std.specs.Prelude.{ℕ, suc, ◌+◌, true, false, List, [], ◌∷◌, ◌++◌, length, ℤ, pos, Option, Some, None, if◌then◌else◌}
use Rattle.go_tree_nodes.specs.token_core.declared.kind.Operator.{Operator}
use Rattle.go_tree_nodes.specs.token_core.declared.kind.Operator.TheVariants as operators
use Rattle.go_constant_core.specs.text_core.declared.span.Span.{Span}
use Rattle.go_tree_nodes.specs.declared.names.Ident.{Ident}
use Rattle.go_tree_nodes.specs.declared.decls.ValueKind.{ValueKind}
use Rattle.go_tree_nodes.specs.declared.decls.ValueKind.TheVariants as value_kinds
use Rattle.go_tree_nodes.specs.Trees.{Separated, One, Then, ExprTree, ItemTrees, Integer, Text, Named, Paren, Unary, Binary, Select, Call, Literal, StructLiteral, NoItems, Item, ValueSpecTree, Specs, Single, Group, SimpleTree, Alone, Step, Assign, Update, Define, ForTree, Forever, While, Clauses, StmtTree, Empty, Declare, Simple, Return, Break, Continue, Block, If, For, BranchTree, Branch, NoElse, ElseBlock, ElseIf, Lines, NoLines, Line, FuncTree}
use Rattle.go_tree_nodes.specs.Counts.{item_count}
use Rattle.go_object_core.specs.declared.instructions.letters.Word.{Word}
use Rattle.go_object_core.specs.declared.instructions.instruction.Distance.TheVariants as distances
use Rattle.go_object_core.specs.declared.instructions.instruction.Instruction.{Instruction}
use Rattle.go_object_core.specs.declared.instructions.instruction.Instruction.TheVariants as instructions
use Rattle.go_code_core.specs.declared.fragments.names.ConstantWord.{ConstantWord}
use Rattle.go_code_core.specs.declared.fragments.names.ConstantWord.TheVariants as constants
use Rattle.go_code_core.specs.declared.fragments.names.Gives.{Gives}
use Rattle.go_code_core.specs.declared.fragments.names.Gives.TheVariants as gives
use Rattle.go_code_core.specs.declared.fragments.names.Meaning.{Meaning}
use Rattle.go_code_core.specs.declared.fragments.names.Meaning.TheVariants as meanings
use Rattle.go_code_core.specs.declared.fragments.targets.Target.{Target}
use Rattle.go_code_core.specs.declared.fragments.targets.Target.TheVariants as targets
use Rattle.go_code_core.specs.fragments.Constants.{folded}
use Rattle.go_code_core.specs.fragments.Fragment.{expr_gives, means_method}
use Rattle.go_code_core.specs.fragments.Inside.{in_fragment}
use Rattle.go_code_core.specs.fragments.Names.{CodeLooks, Frame, frame_of, slot_of, callee_meaning, slot_assigned, declared_slot}
use Rattle.go_code_core.specs.fragments.Operators.{unary_instruction, binary_instruction, step_operator, update_operator, some_instruction}
use Rattle.go_code_core.specs.fragments.Slots.{slots_of}

-- expressions

-- a boolean is 0 or 1
abbrev pub word_value : ConstantWord → ℤ
word_value (constants.Int z) = z
word_value (constants.Bool false) = pos 0
word_value (constants.Bool true) = pos 1

abbrev pub push : ConstantWord → List Instruction
push v = instructions.Push (word_value v) ∷ []

-- a constant is pushed, whatever its form
abbrev pub constant_or : Option ConstantWord → List Instruction → List Instruction
constant_or (Some v) code = push v
constant_or None code = code

abbrev pub load : Option ℕ → List Instruction
load None = []
load (Some slot) = instructions.Load slot ∷ []

abbrev pub name_code : List (Option ℕ) → Meaning → List Instruction
name_code slots (meanings.Variable at word) = load (slot_of slots at)
name_code slots (meanings.Constant v) = push v
name_code slots _ = []

-- the operands from left to right, then the operator; but the right operand of `&&` and `||` only where it is wanted
abbrev pub binary_code : Operator → List Instruction → List Instruction → List Instruction
binary_code operators.LogicalAnd a b = a ++ instructions.JumpFalse (length b + 1) ∷ (b ++ instructions.Jump (distances.Forward 1) ∷ (instructions.Push (pos 0) ∷ []))
binary_code operators.LogicalOr a b = a ++ instructions.JumpFalse 2 ∷ (instructions.Push (pos 1) ∷ (instructions.Jump (distances.Forward (length b)) ∷ b))
binary_code op a b = a ++ (b ++ some_instruction (binary_instruction op))

abbrev pub letter : Gives → List Word
letter (gives.One w) = w ∷ []
letter gives.Nothing = []
letter gives.Other = []

-- what some arguments are over
abbrev pub letters : Frame → ItemTrees → List Word
letters f NoItems = []
letters f (Item key e comma rest) = letter (expr_gives f e) ++ letters f rest

-- what stands behind the arguments of `panic`, which there is one of, by what it is over
abbrev pub panic_end : List Word → List Instruction
panic_end [] = []
panic_end (w ∷ ws) = instructions.Panic w ∷ []

-- what stands behind the receiver and the arguments of a call
abbrev pub call_end : Frame → Meaning → ℕ → ItemTrees → List Instruction
call_end f (meanings.Function g) reference items = instructions.Call reference (item_count items) ∷ []
call_end f (meanings.Method g) reference items = instructions.Call reference (suc (item_count items)) ∷ []
call_end f (meanings.«Type» w) reference items = []
call_end f meanings.Println reference items = instructions.Println (letters f items) ∷ []
call_end f meanings.Panic reference items = panic_end (letters f items)
call_end f (meanings.Variable at w) reference items = []
call_end f (meanings.Constant v) reference items = []
call_end f meanings.Other reference items = []

abbrev mutual
  pub expr_code : Frame → ExprTree → List Instruction
  expr_code f (Integer n s) = constant_or (folded f.looks (Integer n s)) []
  expr_code f (Text t) = []
  expr_code f (Named x) = name_code f.slots (f.looks.meaning x.span.start)
  expr_code f (Paren first e last) = expr_code f e
  expr_code f (Unary op s e) = constant_or (folded f.looks (Unary op s e)) (expr_code f e ++ some_instruction (unary_instruction op))
  expr_code f (Binary a op s b) = constant_or (folded f.looks (Binary a op s b)) (binary_code op (expr_code f a) (expr_code f b))
  expr_code f (Select e dot x) = name_code f.slots (f.looks.meaning x.span.start)
  expr_code f (Call e first items last) = constant_or (folded f.looks (Call e first items last)) (receiver_code f e ++ (items_code f items ++ call_end f (callee_meaning f.looks e) (f.looks.reference first.start) items))
  expr_code f (Literal n first items last) = []
  expr_code f (StructLiteral t first items last) = []

  -- of the receiver of a method that is called
  pub receiver_code : Frame → ExprTree → List Instruction
  receiver_code f (Select e dot x) = if means_method (f.looks.meaning x.span.start) then expr_code f e else []
  receiver_code f (Paren first e last) = receiver_code f e
  receiver_code f (Integer n s) = []
  receiver_code f (Text t) = []
  receiver_code f (Named x) = []
  receiver_code f (Unary op s e) = []
  receiver_code f (Binary a op s b) = []
  receiver_code f (Call e first items last) = []
  receiver_code f (Literal n first items last) = []
  receiver_code f (StructLiteral t first items last) = []

  pub items_code : Frame → ItemTrees → List Instruction
  items_code f NoItems = []
  items_code f (Item key e comma rest) = expr_code f e ++ items_code f rest

-- simple statements

abbrev pub store : Target → List Instruction
store (targets.Slot slot) = instructions.Store slot ∷ []
store targets.Blank = instructions.Drop ∷ []
store targets.Other = []

-- what a statement drops that is an expression
abbrev pub dropped : Gives → List Instruction
dropped (gives.One w) = instructions.Drop ∷ []
dropped gives.Nothing = []
dropped gives.Other = []

-- the target with a value and an operator between them
abbrev pub updated : Target → List Instruction → Option Instruction → List Instruction
updated (targets.Slot slot) value op = instructions.Load slot ∷ (value ++ (some_instruction op ++ instructions.Store slot ∷ []))
updated targets.Blank value op = []
updated targets.Other value op = []

abbrev pub one_code : Frame → Separated ExprTree → List Instruction
one_code f (One e) = expr_code f e
one_code f (Then e comma more) = []

abbrev pub stored : Frame → Separated ExprTree → List Instruction
stored f (One e) = store (slot_assigned f e)
stored f (Then e comma more) = []

abbrev pub declared_code : Frame → Separated Ident → List Instruction
declared_code f (One x) = store (declared_slot f x)
declared_code f (Then x comma more) = []

abbrev pub simple_code : Frame → SimpleTree → List Instruction
simple_code f (Alone e) = expr_code f e ++ dropped (expr_gives f e)
simple_code f (Step e op s) = updated (slot_assigned f e) (instructions.Push (pos 1) ∷ []) (step_operator op)
simple_code f (Assign ts s es) = one_code f es ++ stored f ts
simple_code f (Update t op s e) = updated (slot_assigned f t) (expr_code f e) (update_operator op)
simple_code f (Define xs s es) = one_code f es ++ declared_code f xs

abbrev pub some_simple_code : Frame → Option SimpleTree → List Instruction
some_simple_code f None = []
some_simple_code f (Some s) = simple_code f s

-- without an initialiser a variable is 0
abbrev pub initial_code : Frame → Option (Span × Separated ExprTree) → List Instruction
initial_code f None = instructions.Push (pos 0) ∷ []
initial_code f (Some v) = one_code f v.1

-- a constant has no code
abbrev pub value_spec_code : Frame → ValueKind → ValueSpecTree → List Instruction
value_spec_code f value_kinds.Const v = []
value_spec_code f value_kinds.Var v = initial_code f v.values ++ declared_code f v.names

abbrev pub value_lines_code : Frame → ValueKind → List (ValueSpecTree × Option Span) → List Instruction
value_lines_code f kind [] = []
value_lines_code f kind (l ∷ ls) = value_spec_code f kind l.0 ++ value_lines_code f kind ls

abbrev pub value_specs_code : Frame → ValueKind → Specs ValueSpecTree → List Instruction
value_specs_code f kind (Single v) = value_spec_code f kind v
value_specs_code f kind (Group first ls last) = value_lines_code f kind ls

-- statements

-- how far it is from the end of a statement to where `break` and `continue` lead
pub record Exits : Type 0 where
  pub ends : ℕ
  pub goes_on : ℕ

-- the same from so many instructions further in front
abbrev pub before : ℕ → Exits → Exits
before n x = record { ends = n + x.ends; goes_on = n + x.goes_on }

abbrev pub jump : ℕ → List Instruction
jump n = instructions.Jump (distances.Forward n) ∷ []

abbrev pub init_code : Frame → Option (Option SimpleTree × Span) → List Instruction
init_code f None = []
init_code f (Some init) = some_simple_code f init.0

-- a test, and a jump over so many instructions where it fails
abbrev pub test_code : Frame → Option ExprTree → ℕ → List Instruction
test_code f None n = []
test_code f (Some e) n = expr_code f e ++ instructions.JumpFalse n ∷ []

abbrev pub head_init : ForTree → Option SimpleTree
head_init Forever = None
head_init (While e) = None
head_init (Clauses init a test b post) = init

abbrev pub head_test : ForTree → Option ExprTree
head_test Forever = None
head_test (While e) = Some e
head_test (Clauses init a test b post) = test

abbrev pub head_post : ForTree → Option SimpleTree
head_post Forever = None
head_post (While e) = None
head_post (Clauses init a test b post) = post

-- a jump back over all that stands in front of it, and itself
abbrev pub round : List Instruction → List Instruction
round code = code ++ instructions.Jump (distances.Back (suc (length code))) ∷ []

-- the turns of a loop: the test, the body, what stands behind it, and back to the test
abbrev pub loop_code : Frame → Option ExprTree → List Instruction → List Instruction → List Instruction
loop_code f test body post = round (test_code f test (suc (length (body ++ post))) ++ (body ++ post))

-- where `break` and `continue` lead in the body of a loop: behind the jump back, and to what stands behind the body
abbrev pub in_loop : List Instruction → Exits
in_loop post = record { ends = suc (length post); goes_on = 0 }

abbrev pub returned_code : Frame → Option (Separated ExprTree) → List Instruction
returned_code f None = instructions.Return false ∷ []
returned_code f (Some es) = one_code f es ++ instructions.Return true ∷ []

abbrev mutual
  pub stmt_code : Frame → Exits → StmtTree → List Instruction
  stmt_code f x Empty = []
  stmt_code f x (Declare v) = value_specs_code f v.kind v.specs
  stmt_code f x (Simple s) = simple_code f s
  stmt_code f x (Return s es) = returned_code f es
  stmt_code f x (Break s) = jump x.ends
  stmt_code f x (Continue s) = jump x.goes_on
  stmt_code f x (Block first ls last) = lines_code f x ls
  stmt_code f x (If b) = branch_code f x b
  stmt_code f x (For k head first ls last) =
      let post = some_simple_code f (head_post head) in
      some_simple_code f (head_init head) ++ loop_code f (head_test head) (lines_code f (in_loop post) ls) post

  -- what is done first, the test, and the part behind it, which ends with a jump over what stands behind `else`
  pub branch_code : Frame → Exits → BranchTree → List Instruction
  branch_code f x (Branch k head first ls last NoElse) =
      let inside = lines_code f x ls in
      init_code f head.init ++ (test_code f (Some head.condition) (length inside) ++ inside)
  branch_code f x (Branch k head first ls last (ElseBlock k' first' others last')) =
      let outside = lines_code f x others in
      let inside = lines_code f (before (suc (length outside)) x) ls ++ jump (length outside) in
      init_code f head.init ++ (test_code f (Some head.condition) (length inside) ++ (inside ++ outside))
  branch_code f x (Branch k head first ls last (ElseIf k' b)) =
      let outside = branch_code f x b in
      let inside = lines_code f (before (suc (length outside)) x) ls ++ jump (length outside) in
      init_code f head.init ++ (test_code f (Some head.condition) (length inside) ++ (inside ++ outside))

  pub lines_code : Frame → Exits → Lines → List Instruction
  lines_code f x NoLines = []
  lines_code f x (Line s semicolon rest) = let behind = lines_code f x rest in stmt_code f (before (length behind) x) s ++ behind

-- functions

-- outside loops both lead to the end
abbrev pub no_exits : Exits
no_exits = record { ends = 0; goes_on = 0 }

abbrev pub body_code : Frame → FuncTree → List Instruction
body_code f func = lines_code f no_exits func.body ++ instructions.Return false ∷ []

abbrev pub framed_code : Frame → FuncTree → List Instruction
framed_code f func = if in_fragment f func then body_code f func else instructions.Outside ∷ []

-- the function with its slots, and its code
abbrev pub frame_in : CodeLooks → FuncTree → Frame
frame_in looks func = frame_of looks (slots_of looks func)

abbrev pub code_of : CodeLooks → FuncTree → List Instruction
code_of looks func = framed_code (frame_in looks func) func
