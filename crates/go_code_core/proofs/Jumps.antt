-- Where jumps lead.
use Rattle.std.proofs.Common.{◌≤◌, ℕ, suc, ◌+◌, Bool, true, false, List, [], ◌∷◌, ◌++◌, length, subst, arith, length-append}
use Rattle.std.specs.Prelude.{Option, Some, None, if◌then◌else◌, pos}
use Rattle.go_constant_core.specs.text_core.declared.span.Span.{Span}
use Rattle.go_tree_nodes.specs.token_core.declared.kind.Operator.{Operator}
use Rattle.go_tree_nodes.specs.token_core.declared.kind.Operator.TheVariants as operators
use Rattle.go_tree_nodes.specs.declared.names.Ident.{Ident}
use Rattle.go_tree_nodes.specs.declared.decls.ValueKind.{ValueKind}
use Rattle.go_tree_nodes.specs.declared.decls.ValueKind.TheVariants as value_kinds
use Rattle.go_tree_nodes.specs.Trees.{Separated, One, Then, ExprTree, ItemTrees, Integer, Text, Named, Paren, Unary, Binary, Select, Call, Literal, StructLiteral, NoItems, Item, ValueSpecTree, Specs, Single, Group, SimpleTree, Alone, Step, Assign, Update, Define, StmtTree, Empty, Declare, Simple, Return, Break, Continue, Block, If, For, BranchTree, Branch, NoElse, ElseBlock, ElseIf, Lines, NoLines, Line, FuncTree}
use Rattle.go_object_core.specs.declared.instructions.letters.Word.{Word}
use Rattle.go_object_core.specs.declared.instructions.instruction.Distance.TheVariants as distances
use Rattle.go_object_core.specs.declared.instructions.instruction.Instruction.{Instruction}
use Rattle.go_object_core.specs.declared.instructions.instruction.Instruction.TheVariants as instructions
use Rattle.go_code_core.specs.declared.fragments.names.ConstantWord.{ConstantWord}
use Rattle.go_code_core.specs.declared.fragments.names.Gives.{Gives}
use Rattle.go_code_core.specs.declared.fragments.names.Gives.TheVariants as gives
use Rattle.go_code_core.specs.declared.fragments.names.Meaning.{Meaning}
use Rattle.go_code_core.specs.declared.fragments.names.Meaning.TheVariants as meanings
use Rattle.go_code_core.specs.declared.fragments.targets.Target.{Target}
use Rattle.go_code_core.specs.declared.fragments.targets.Target.TheVariants as targets
use Rattle.go_code_core.specs.Code.{Exits, before, binary_code, body_code, branch_code, call_end, constant_or, declared_code, dropped, expr_code, frame_in, head_init, head_post, head_test, in_loop, init_code, initial_code, items_code, jump, letters, lines_code, load, loop_code, name_code, no_exits, one_code, panic_end, receiver_code, returned_code, simple_code, some_simple_code, stmt_code, store, stored, test_code, updated, value_lines_code, value_spec_code, value_specs_code}
use Rattle.go_code_core.specs.fragments.Constants.{folded}
use Rattle.go_code_core.specs.fragments.Fragment.{expr_gives, means_method}
use Rattle.go_code_core.specs.fragments.Inside.{in_fragment}
use Rattle.go_code_core.specs.Laws.{JumpsStayInside, LeadsInside}
use Rattle.go_code_core.specs.fragments.Names.{Frame, slot_of, callee_meaning, slot_assigned, declared_slot}
use Rattle.go_code_core.specs.fragments.Operators.{some_instruction, step_operator, unary_instruction, update_operator}

-- with so many instructions in front and so many behind, each jump of some code leads to one of them or to the end
abbrev Inside : ℕ → ℕ → List Instruction → Type 0
Inside a b [] = Unit {0}
Inside a b (i ∷ code) = LeadsInside (suc a) (length code + b) i × Inside (suc a) b code

leads : (a b c d : ℕ) (i : Instruction) → a ≤ c → b ≤ d → LeadsInside a b i → LeadsInside c d i
leads a b c d (instructions.Jump (distances.Forward n)) p q h = let k : n ≤ b = h in omega (arith, q, k)
leads a b c d (instructions.Jump (distances.Back n)) p q h = let k : n ≤ a = h in omega (arith, p, k)
leads a b c d (instructions.JumpFalse n) p q h = let k : n ≤ b = h in omega (arith, q, k)
leads a b c d (instructions.Push k) p q h = tt
leads a b c d (instructions.Load s) p q h = tt
leads a b c d (instructions.Store s) p q h = tt
leads a b c d instructions.Drop p q h = tt
leads a b c d instructions.Neg p q h = tt
leads a b c d instructions.Not p q h = tt
leads a b c d instructions.Add p q h = tt
leads a b c d instructions.Sub p q h = tt
leads a b c d instructions.Mul p q h = tt
leads a b c d instructions.Div p q h = tt
leads a b c d instructions.Rem p q h = tt
leads a b c d instructions.Eq p q h = tt
leads a b c d instructions.Ne p q h = tt
leads a b c d instructions.Lt p q h = tt
leads a b c d instructions.Le p q h = tt
leads a b c d instructions.Gt p q h = tt
leads a b c d instructions.Ge p q h = tt
leads a b c d (instructions.Call r n) p q h = tt
leads a b c d (instructions.Return gives) p q h = tt
leads a b c d (instructions.Println ws) p q h = tt
leads a b c d (instructions.Panic w) p q h = tt
leads a b c d instructions.Outside p q h = tt

wider : (a b c d : ℕ) (code : List Instruction) → a ≤ c → b ≤ d → Inside a b code → Inside c d code
wider a b c d [] p q h = tt
wider a b c d (i ∷ code) p q h = (leads (suc a) (length code + b) (suc c) (length code + d) i (omega (arith, p)) (omega (arith, q)) h.0, wider (suc a) b (suc c) d code (omega (arith, p)) q h.1)

joined : (a b : ℕ) (x y : List Instruction) → Inside a (length y + b) x → Inside (a + length x) b y → Inside a b (x ++ y)
joined a b [] y h k = wider (a + 0) b a b y (omega arith) (omega arith) k
joined a b (i ∷ x) y h k =
    let many = length-append x y in (
      leads (suc a) (length x + (length y + b)) (suc a) (length (x ++ y) + b) i (omega arith) (omega (arith, many)) h.0,
      joined (suc a) b x y h.1 (wider (a + length (i ∷ x)) b (suc a + length x) b y (omega arith) (omega arith) k),
    )

-- code that needs nothing in front
pub behind : (b : ℕ) (x y : List Instruction) → Inside 0 (length y + b) x → Inside 0 b y → Inside 0 b (x ++ y)
behind b x y h k = joined 0 b x y h (wider 0 b (0 + length x) b y (omega arith) (omega arith) k)

-- code that needs nothing behind either
closed : (b : ℕ) (x y : List Instruction) → Inside 0 0 x → Inside 0 b y → Inside 0 b (x ++ y)
closed b x y h k = behind b x y (wider 0 0 0 (length y + b) x (omega arith) (omega arith) h) k

pub there : (a b : ℕ) (front rest : List Instruction) (i : Instruction) → Inside a b (front ++ i ∷ rest) → LeadsInside (suc (a + length front)) (length rest + b) i
there a b [] rest i h = leads (suc a) (length rest + b) (suc (a + 0)) (length rest + b) i (omega arith) (omega arith) h.0
there a b (j ∷ front) rest i h =
    leads (suc (suc a + length front)) (length rest + b) (suc (a + length (j ∷ front))) (length rest + b) i (omega arith) (omega arith) (there (suc a) b front rest i h.1)

-- operators

unary_closed : (op : Operator) → Inside 0 0 (some_instruction (unary_instruction op))
unary_closed operators.ShiftLeftAssign = tt
unary_closed operators.ShiftRightAssign = tt
unary_closed operators.AndNotAssign = tt
unary_closed operators.Ellipsis = tt
unary_closed operators.ShiftLeft = tt
unary_closed operators.ShiftRight = tt
unary_closed operators.AndNot = tt
unary_closed operators.PlusAssign = tt
unary_closed operators.MinusAssign = tt
unary_closed operators.StarAssign = tt
unary_closed operators.SlashAssign = tt
unary_closed operators.PercentAssign = tt
unary_closed operators.AndAssign = tt
unary_closed operators.OrAssign = tt
unary_closed operators.CaretAssign = tt
unary_closed operators.LogicalAnd = tt
unary_closed operators.LogicalOr = tt
unary_closed operators.Arrow = tt
unary_closed operators.Increment = tt
unary_closed operators.Decrement = tt
unary_closed operators.Equal = tt
unary_closed operators.NotEqual = tt
unary_closed operators.LessEqual = tt
unary_closed operators.GreaterEqual = tt
unary_closed operators.Define = tt
unary_closed operators.Plus = tt
unary_closed operators.Minus = (tt, tt)
unary_closed operators.Star = tt
unary_closed operators.Slash = tt
unary_closed operators.Percent = tt
unary_closed operators.And = tt
unary_closed operators.Or = tt
unary_closed operators.Caret = tt
unary_closed operators.Less = tt
unary_closed operators.Greater = tt
unary_closed operators.Assign = tt
unary_closed operators.Not = (tt, tt)
unary_closed operators.Tilde = tt
unary_closed operators.OpenParen = tt
unary_closed operators.OpenBracket = tt
unary_closed operators.OpenBrace = tt
unary_closed operators.Comma = tt
unary_closed operators.Dot = tt
unary_closed operators.CloseParen = tt
unary_closed operators.CloseBracket = tt
unary_closed operators.CloseBrace = tt
unary_closed operators.Semicolon = tt
unary_closed operators.Colon = tt

step_closed : (op : Operator) → Inside 0 0 (some_instruction (step_operator op))
step_closed operators.ShiftLeftAssign = tt
step_closed operators.ShiftRightAssign = tt
step_closed operators.AndNotAssign = tt
step_closed operators.Ellipsis = tt
step_closed operators.ShiftLeft = tt
step_closed operators.ShiftRight = tt
step_closed operators.AndNot = tt
step_closed operators.PlusAssign = tt
step_closed operators.MinusAssign = tt
step_closed operators.StarAssign = tt
step_closed operators.SlashAssign = tt
step_closed operators.PercentAssign = tt
step_closed operators.AndAssign = tt
step_closed operators.OrAssign = tt
step_closed operators.CaretAssign = tt
step_closed operators.LogicalAnd = tt
step_closed operators.LogicalOr = tt
step_closed operators.Arrow = tt
step_closed operators.Increment = (tt, tt)
step_closed operators.Decrement = (tt, tt)
step_closed operators.Equal = tt
step_closed operators.NotEqual = tt
step_closed operators.LessEqual = tt
step_closed operators.GreaterEqual = tt
step_closed operators.Define = tt
step_closed operators.Plus = tt
step_closed operators.Minus = tt
step_closed operators.Star = tt
step_closed operators.Slash = tt
step_closed operators.Percent = tt
step_closed operators.And = tt
step_closed operators.Or = tt
step_closed operators.Caret = tt
step_closed operators.Less = tt
step_closed operators.Greater = tt
step_closed operators.Assign = tt
step_closed operators.Not = tt
step_closed operators.Tilde = tt
step_closed operators.OpenParen = tt
step_closed operators.OpenBracket = tt
step_closed operators.OpenBrace = tt
step_closed operators.Comma = tt
step_closed operators.Dot = tt
step_closed operators.CloseParen = tt
step_closed operators.CloseBracket = tt
step_closed operators.CloseBrace = tt
step_closed operators.Semicolon = tt
step_closed operators.Colon = tt

update_closed : (op : Operator) → Inside 0 0 (some_instruction (update_operator op))
update_closed operators.ShiftLeftAssign = tt
update_closed operators.ShiftRightAssign = tt
update_closed operators.AndNotAssign = tt
update_closed operators.Ellipsis = tt
update_closed operators.ShiftLeft = tt
update_closed operators.ShiftRight = tt
update_closed operators.AndNot = tt
update_closed operators.PlusAssign = (tt, tt)
update_closed operators.MinusAssign = (tt, tt)
update_closed operators.StarAssign = (tt, tt)
update_closed operators.SlashAssign = (tt, tt)
update_closed operators.PercentAssign = (tt, tt)
update_closed operators.AndAssign = tt
update_closed operators.OrAssign = tt
update_closed operators.CaretAssign = tt
update_closed operators.LogicalAnd = tt
update_closed operators.LogicalOr = tt
update_closed operators.Arrow = tt
update_closed operators.Increment = tt
update_closed operators.Decrement = tt
update_closed operators.Equal = tt
update_closed operators.NotEqual = tt
update_closed operators.LessEqual = tt
update_closed operators.GreaterEqual = tt
update_closed operators.Define = tt
update_closed operators.Plus = tt
update_closed operators.Minus = tt
update_closed operators.Star = tt
update_closed operators.Slash = tt
update_closed operators.Percent = tt
update_closed operators.And = tt
update_closed operators.Or = tt
update_closed operators.Caret = tt
update_closed operators.Less = tt
update_closed operators.Greater = tt
update_closed operators.Assign = tt
update_closed operators.Not = tt
update_closed operators.Tilde = tt
update_closed operators.OpenParen = tt
update_closed operators.OpenBracket = tt
update_closed operators.OpenBrace = tt
update_closed operators.Comma = tt
update_closed operators.Dot = tt
update_closed operators.CloseParen = tt
update_closed operators.CloseBracket = tt
update_closed operators.CloseBrace = tt
update_closed operators.Semicolon = tt
update_closed operators.Colon = tt

-- expressions

one_of : (b : Bool) (x y : List Instruction) → Inside 0 0 x → Inside 0 0 y → Inside 0 0 (if b then x else y)
one_of true x y h k = h
one_of false x y h k = k

constant_closed : (v : Option ConstantWord) (code : List Instruction) → Inside 0 0 code → Inside 0 0 (constant_or v code)
constant_closed (Some v) code h = (tt, tt)
constant_closed None code h = h

load_closed : (o : Option ℕ) → Inside 0 0 (load o)
load_closed None = tt
load_closed (Some s) = (tt, tt)

name_closed : (slots : List (Option ℕ)) (m : Meaning) → Inside 0 0 (name_code slots m)
name_closed slots (meanings.Variable at w) = load_closed (slot_of slots at)
name_closed slots (meanings.Constant v) = (tt, tt)
name_closed slots (meanings.Function g) = tt
name_closed slots (meanings.Method g) = tt
name_closed slots (meanings.«Type» w) = tt
name_closed slots meanings.Println = tt
name_closed slots meanings.Panic = tt
name_closed slots meanings.Other = tt

panic_closed : (ws : List Word) → Inside 0 0 (panic_end ws)
panic_closed [] = tt
panic_closed (w ∷ ws) = (tt, tt)

end_closed : (f : Frame) (m : Meaning) (r : ℕ) (items : ItemTrees) → Inside 0 0 (call_end f m r items)
end_closed f (meanings.Function g) r items = (tt, tt)
end_closed f (meanings.Method g) r items = (tt, tt)
end_closed f (meanings.«Type» w) r items = tt
end_closed f meanings.Println r items = (tt, tt)
end_closed f meanings.Panic r items = panic_closed (letters f items)
end_closed f (meanings.Variable at w) r items = tt
end_closed f (meanings.Constant v) r items = tt
end_closed f meanings.Other r items = tt

and_closed : (a b : List Instruction) → Inside 0 0 a → Inside 0 0 b → Inside 0 0 (binary_code operators.LogicalAnd a b)
and_closed a b h k =
    let tail : List Instruction = instructions.Jump (distances.Forward 1) ∷ (instructions.Push (pos 0) ∷ []) in
    let many = length-append b tail in
    let rest : Inside 0 0 (b ++ tail) = closed 0 b tail k (omega arith, (tt, tt)) in
    closed 0 a (instructions.JumpFalse (length b + 1) ∷ (b ++ tail)) h (omega (arith, many), wider 0 0 1 0 (b ++ tail) (omega arith) (omega arith) rest)

or_closed : (a b : List Instruction) → Inside 0 0 a → Inside 0 0 b → Inside 0 0 (binary_code operators.LogicalOr a b)
or_closed a b h k =
    closed 0 a (instructions.JumpFalse 2 ∷ (instructions.Push (pos 1) ∷ (instructions.Jump (distances.Forward (length b)) ∷ b))) h
    (omega arith, (tt, (omega arith, wider 0 0 3 0 b (omega arith) (omega arith) k)))

plain_closed : (a b c : List Instruction) → Inside 0 0 a → Inside 0 0 b → Inside 0 0 c → Inside 0 0 (a ++ (b ++ c))
plain_closed a b c h k l = closed 0 a (b ++ c) h (closed 0 b c k l)

binary_closed : (op : Operator) (a b : List Instruction) → Inside 0 0 a → Inside 0 0 b → Inside 0 0 (binary_code op a b)
binary_closed operators.LogicalAnd a b h k = and_closed a b h k
binary_closed operators.LogicalOr a b h k = or_closed a b h k
binary_closed operators.ShiftLeftAssign a b h k = plain_closed a b [] h k tt
binary_closed operators.ShiftRightAssign a b h k = plain_closed a b [] h k tt
binary_closed operators.AndNotAssign a b h k = plain_closed a b [] h k tt
binary_closed operators.Ellipsis a b h k = plain_closed a b [] h k tt
binary_closed operators.ShiftLeft a b h k = plain_closed a b [] h k tt
binary_closed operators.ShiftRight a b h k = plain_closed a b [] h k tt
binary_closed operators.AndNot a b h k = plain_closed a b [] h k tt
binary_closed operators.PlusAssign a b h k = plain_closed a b [] h k tt
binary_closed operators.MinusAssign a b h k = plain_closed a b [] h k tt
binary_closed operators.StarAssign a b h k = plain_closed a b [] h k tt
binary_closed operators.SlashAssign a b h k = plain_closed a b [] h k tt
binary_closed operators.PercentAssign a b h k = plain_closed a b [] h k tt
binary_closed operators.AndAssign a b h k = plain_closed a b [] h k tt
binary_closed operators.OrAssign a b h k = plain_closed a b [] h k tt
binary_closed operators.CaretAssign a b h k = plain_closed a b [] h k tt
binary_closed operators.Arrow a b h k = plain_closed a b [] h k tt
binary_closed operators.Increment a b h k = plain_closed a b [] h k tt
binary_closed operators.Decrement a b h k = plain_closed a b [] h k tt
binary_closed operators.Equal a b h k = plain_closed a b _ h k (tt, tt)
binary_closed operators.NotEqual a b h k = plain_closed a b _ h k (tt, tt)
binary_closed operators.LessEqual a b h k = plain_closed a b _ h k (tt, tt)
binary_closed operators.GreaterEqual a b h k = plain_closed a b _ h k (tt, tt)
binary_closed operators.Define a b h k = plain_closed a b [] h k tt
binary_closed operators.Plus a b h k = plain_closed a b _ h k (tt, tt)
binary_closed operators.Minus a b h k = plain_closed a b _ h k (tt, tt)
binary_closed operators.Star a b h k = plain_closed a b _ h k (tt, tt)
binary_closed operators.Slash a b h k = plain_closed a b _ h k (tt, tt)
binary_closed operators.Percent a b h k = plain_closed a b _ h k (tt, tt)
binary_closed operators.And a b h k = plain_closed a b [] h k tt
binary_closed operators.Or a b h k = plain_closed a b [] h k tt
binary_closed operators.Caret a b h k = plain_closed a b [] h k tt
binary_closed operators.Less a b h k = plain_closed a b _ h k (tt, tt)
binary_closed operators.Greater a b h k = plain_closed a b _ h k (tt, tt)
binary_closed operators.Assign a b h k = plain_closed a b [] h k tt
binary_closed operators.Not a b h k = plain_closed a b [] h k tt
binary_closed operators.Tilde a b h k = plain_closed a b [] h k tt
binary_closed operators.OpenParen a b h k = plain_closed a b [] h k tt
binary_closed operators.OpenBracket a b h k = plain_closed a b [] h k tt
binary_closed operators.OpenBrace a b h k = plain_closed a b [] h k tt
binary_closed operators.Comma a b h k = plain_closed a b [] h k tt
binary_closed operators.Dot a b h k = plain_closed a b [] h k tt
binary_closed operators.CloseParen a b h k = plain_closed a b [] h k tt
binary_closed operators.CloseBracket a b h k = plain_closed a b [] h k tt
binary_closed operators.CloseBrace a b h k = plain_closed a b [] h k tt
binary_closed operators.Semicolon a b h k = plain_closed a b [] h k tt
binary_closed operators.Colon a b h k = plain_closed a b [] h k tt

mutual
  expr_closed : (f : Frame) (e : ExprTree) → Inside 0 0 (expr_code f e)
  expr_closed f (Integer n s) = constant_closed (folded f.looks (Integer n s)) [] tt
  expr_closed f (Text t) = tt
  expr_closed f (Named x) = name_closed f.slots (f.looks.meaning x.span.start)
  expr_closed f (Paren first e last) = expr_closed f e
  expr_closed f (Unary op s e) = constant_closed (folded f.looks (Unary op s e)) _ (closed 0 (expr_code f e) _ (expr_closed f e) (unary_closed op))
  expr_closed f (Binary a op s b) = constant_closed (folded f.looks (Binary a op s b)) _ (binary_closed op (expr_code f a) (expr_code f b) (expr_closed f a) (expr_closed f b))
  expr_closed f (Select e dot x) = name_closed f.slots (f.looks.meaning x.span.start)
  expr_closed f (Call e first items last) =
      constant_closed (folded f.looks (Call e first items last)) _ (plain_closed (receiver_code f e) (items_code f items) _ (receiver_closed f e) (items_closed f items) (end_closed f (callee_meaning f.looks e) (f.looks.reference first.start) items))
  expr_closed f (Literal n first items last) = tt
  expr_closed f (StructLiteral t first items last) = tt

  receiver_closed : (f : Frame) (e : ExprTree) → Inside 0 0 (receiver_code f e)
  receiver_closed f (Select e dot x) = one_of (means_method (f.looks.meaning x.span.start)) (expr_code f e) [] (expr_closed f e) tt
  receiver_closed f (Paren first e last) = receiver_closed f e
  receiver_closed f (Integer n s) = tt
  receiver_closed f (Text t) = tt
  receiver_closed f (Named x) = tt
  receiver_closed f (Unary op s e) = tt
  receiver_closed f (Binary a op s b) = tt
  receiver_closed f (Call e first items last) = tt
  receiver_closed f (Literal n first items last) = tt
  receiver_closed f (StructLiteral t first items last) = tt

  items_closed : (f : Frame) (items : ItemTrees) → Inside 0 0 (items_code f items)
  items_closed f NoItems = tt
  items_closed f (Item key e comma rest) = closed 0 (expr_code f e) _ (expr_closed f e) (items_closed f rest)

-- simple statements

store_closed : (t : Target) → Inside 0 0 (store t)
store_closed (targets.Slot s) = (tt, tt)
store_closed targets.Blank = (tt, tt)
store_closed targets.Other = tt

updated_closed : (t : Target) (value : List Instruction) (op : Option Instruction) → Inside 0 0 value → Inside 0 0 (some_instruction op) → Inside 0 0 (updated t value op)
updated_closed (targets.Slot s) value op h k = (tt, wider 0 0 1 0 _ (omega arith) (omega arith) (plain_closed value (some_instruction op) (instructions.Store s ∷ []) h k (tt, tt)))
updated_closed targets.Blank value op h k = tt
updated_closed targets.Other value op h k = tt

one_closed : (f : Frame) (es : Separated ExprTree) → Inside 0 0 (one_code f es)
one_closed f (One e) = expr_closed f e
one_closed f (Then e comma more) = tt

stored_closed : (f : Frame) (es : Separated ExprTree) → Inside 0 0 (stored f es)
stored_closed f (One e) = store_closed (slot_assigned f e)
stored_closed f (Then e comma more) = tt

declared_closed : (f : Frame) (xs : Separated Ident) → Inside 0 0 (declared_code f xs)
declared_closed f (One x) = store_closed (declared_slot f x)
declared_closed f (Then x comma more) = tt

dropped_closed : (g : Gives) → Inside 0 0 (dropped g)
dropped_closed (gives.One w) = (tt, tt)
dropped_closed gives.Nothing = tt
dropped_closed gives.Other = tt

simple_closed : (f : Frame) (s : SimpleTree) → Inside 0 0 (simple_code f s)
simple_closed f (Alone e) = closed 0 (expr_code f e) _ (expr_closed f e) (dropped_closed (expr_gives f e))
simple_closed f (Step e op s) = updated_closed (slot_assigned f e) _ (step_operator op) (tt, tt) (step_closed op)
simple_closed f (Assign ts s es) = closed 0 (one_code f es) _ (one_closed f es) (stored_closed f ts)
simple_closed f (Update t op s e) = updated_closed (slot_assigned f t) (expr_code f e) (update_operator op) (expr_closed f e) (update_closed op)
simple_closed f (Define xs s es) = closed 0 (one_code f es) _ (one_closed f es) (declared_closed f xs)

some_simple_closed : (f : Frame) (s : Option SimpleTree) → Inside 0 0 (some_simple_code f s)
some_simple_closed f None = tt
some_simple_closed f (Some s) = simple_closed f s

initial_closed : (f : Frame) (v : Option (Span × Separated ExprTree)) → Inside 0 0 (initial_code f v)
initial_closed f None = (tt, tt)
initial_closed f (Some v) = one_closed f v.1

spec_closed : (f : Frame) (kind : ValueKind) (v : ValueSpecTree) → Inside 0 0 (value_spec_code f kind v)
spec_closed f value_kinds.Const v = tt
spec_closed f value_kinds.Var v = closed 0 (initial_code f v.values) _ (initial_closed f v.values) (declared_closed f v.names)

spec_lines_closed : (f : Frame) (kind : ValueKind) (ls : List (ValueSpecTree × Option Span)) → Inside 0 0 (value_lines_code f kind ls)
spec_lines_closed f kind [] = tt
spec_lines_closed f kind (l ∷ ls) = closed 0 (value_spec_code f kind l.0) _ (spec_closed f kind l.0) (spec_lines_closed f kind ls)

specs_closed : (f : Frame) (kind : ValueKind) (s : Specs ValueSpecTree) → Inside 0 0 (value_specs_code f kind s)
specs_closed f kind (Single v) = spec_closed f kind v
specs_closed f kind (Group first ls last) = spec_lines_closed f kind ls

init_closed : (f : Frame) (i : Option (Option SimpleTree × Span)) → Inside 0 0 (init_code f i)
init_closed f None = tt
init_closed f (Some i) = some_simple_closed f i.0

-- statements

more : (b : ℕ) (code : List Instruction) → Inside 0 0 code → Inside 0 b code
more b code h = wider 0 0 0 b code (omega arith) (omega arith) h

returned_closed : (f : Frame) (es : Option (Separated ExprTree)) → Inside 0 0 (returned_code f es)
returned_closed f None = (tt, tt)
returned_closed f (Some es) = closed 0 (one_code f es) _ (one_closed f es) (tt, tt)

-- a test whose jump leads no further than the end
tested : (f : Frame) (t : Option ExprTree) (n b : ℕ) → n ≤ b → Inside 0 b (test_code f t n)
tested f None n b h = tt
tested f (Some e) n b h = closed b (expr_code f e) (instructions.JumpFalse n ∷ []) (expr_closed f e) (omega (arith, h), tt)

looped : (f : Frame) (t : Option ExprTree) (b p : List Instruction) → Inside 0 (suc (length p)) b → Inside 0 0 p → Inside 0 0 (loop_code f t b p)
looped f t b p h k =
    let test : List Instruction = test_code f t (suc (length (b ++ p))) in
    let code : List Instruction = test ++ (b ++ p) in
    let inner : Inside 0 1 (b ++ p) = behind 1 b p (wider 0 (suc (length p)) 0 (length p + 1) b (omega arith) (omega arith) h) (more 1 p k) in
    let whole : Inside 0 1 code = behind 1 test (b ++ p) (tested f t (suc (length (b ++ p))) (length (b ++ p) + 1) (omega arith)) inner in
    joined 0 0 code (instructions.Jump (distances.Back (suc (length code))) ∷ []) (wider 0 1 0 (1 + 0) code (omega arith) (omega arith) whole) (omega arith, tt)

chosen : (f : Frame) (i : Option (Option SimpleTree × Span)) (e : ExprTree) (n b : ℕ) (code : List Instruction) → n ≤ length code + b → Inside 0 b code → Inside 0 b (init_code f i ++ (test_code f (Some e) n ++ code))
chosen f i e n b code h k = closed b (init_code f i) _ (init_closed f i) (behind b (test_code f (Some e) n) code (tested f (Some e) n (length code + b) h) k)

with_else : (b : ℕ) (inside outside : List Instruction) → Inside 0 (suc (length outside) + b) inside → Inside 0 b outside → Inside 0 b ((inside ++ jump (length outside)) ++ outside)
with_else b inside outside h k =
    behind b (inside ++ jump (length outside)) outside
    (behind (length outside + b) inside (jump (length outside)) (wider 0 (suc (length outside) + b) 0 (1 + (length outside + b)) inside (omega arith) (omega arith) h) (omega arith, tt)) k

over_all : (inside outside : List Instruction) (b : ℕ) → length inside ≤ length (inside ++ outside) + b
over_all inside outside b = let many = length-append inside outside in omega (arith, many)

mutual
  stmt_inside : (f : Frame) (x : Exits) (b : ℕ) (s : StmtTree) → x.ends ≤ b → x.goes_on ≤ b → Inside 0 b (stmt_code f x s)
  stmt_inside f x b Empty p q = tt
  stmt_inside f x b (Declare v) p q = more b _ (specs_closed f v.kind v.specs)
  stmt_inside f x b (Simple s) p q = more b _ (simple_closed f s)
  stmt_inside f x b (Return s es) p q = more b _ (returned_closed f es)
  stmt_inside f x b (Break s) p q = (omega (arith, p), tt)
  stmt_inside f x b (Continue s) p q = (omega (arith, q), tt)
  stmt_inside f x b (Block first ls last) p q = lines_inside f x b ls p q
  stmt_inside f x b (If c) p q = branch_inside f x b c p q
  stmt_inside f x b (For k head first ls last) p q =
      let post : List Instruction = some_simple_code f (head_post head) in
      more b _ (closed 0 (some_simple_code f (head_init head)) _ (some_simple_closed f (head_init head))
      (looped f (head_test head) (lines_code f (in_loop post) ls) post (lines_inside f (in_loop post) (suc (length post)) ls (omega arith) (omega arith)) (some_simple_closed f (head_post head))))

  branch_inside : (f : Frame) (x : Exits) (b : ℕ) (c : BranchTree) → x.ends ≤ b → x.goes_on ≤ b → Inside 0 b (branch_code f x c)
  branch_inside f x b (Branch k head first ls last NoElse) p q =
      chosen f head.init head.condition (length (lines_code f x ls)) b (lines_code f x ls) (omega arith) (lines_inside f x b ls p q)
  branch_inside f x b (Branch k head first ls last (ElseBlock k' first' others last')) p q =
      let outside : List Instruction = lines_code f x others in
      let y : Exits = before (suc (length outside)) x in
      let inside : List Instruction = lines_code f y ls in
      chosen f head.init head.condition (length (inside ++ jump (length outside))) b ((inside ++ jump (length outside)) ++ outside) (over_all (inside ++ jump (length outside)) outside b)
      (with_else b inside outside (lines_inside f y (suc (length outside) + b) ls (omega (arith, p)) (omega (arith, q))) (lines_inside f x b others p q))
  branch_inside f x b (Branch k head first ls last (ElseIf k' c)) p q =
      let outside : List Instruction = branch_code f x c in
      let y : Exits = before (suc (length outside)) x in
      let inside : List Instruction = lines_code f y ls in
      chosen f head.init head.condition (length (inside ++ jump (length outside))) b ((inside ++ jump (length outside)) ++ outside) (over_all (inside ++ jump (length outside)) outside b)
      (with_else b inside outside (lines_inside f y (suc (length outside) + b) ls (omega (arith, p)) (omega (arith, q))) (branch_inside f x b c p q))

  lines_inside : (f : Frame) (x : Exits) (b : ℕ) (ls : Lines) → x.ends ≤ b → x.goes_on ≤ b → Inside 0 b (lines_code f x ls)
  lines_inside f x b NoLines p q = tt
  lines_inside f x b (Line s semicolon rest) p q =
      let r : List Instruction = lines_code f x rest in
      behind b (stmt_code f (before (length r) x) s) r (stmt_inside f (before (length r) x) (length r + b) s (omega (arith, p)) (omega (arith, q))) (lines_inside f x b rest p q)

-- functions

function_inside : (f : Frame) (func : FuncTree) (b : Bool) → Inside 0 0 (if b then body_code f func else instructions.Outside ∷ [])
function_inside f func true = behind 0 (lines_code f no_exits func.body) (instructions.Return false ∷ []) (lines_inside f no_exits (1 + 0) func.body (omega arith) (omega arith)) (tt, tt)
function_inside f func false = (tt, tt)

pub jumps_inside : JumpsStayInside
jumps_inside looks func front rest i e =
    let f : Frame = frame_in looks func in
    let all : Inside 0 0 (front ++ i ∷ rest) = subst (Inside 0 0) e (function_inside f func (in_fragment f func)) in
    leads (suc (0 + length front)) (length rest + 0) (suc (length front)) (length rest) i (omega arith) (omega arith) (there 0 0 front rest i all)
