-- What each instruction of some code has.
use Rattle.std.proofs.Common.{◌≡◌, ◌<◌, ℕ, suc, ◌+◌, Bool, true, false, List, [], ◌∷◌, ◌++◌, length, refl, sym, subst, ◌∙◌, arith}
use Rattle.std.proofs.lemmas.Option.{same_Some}
use Rattle.std.proofs.lemmas.Bool.{true≢false}
use Rattle.std.specs.Prelude.{Option, Some, None, nat_eq, if◌then◌else◌}
use Rattle.go_constant_core.specs.text_core.Text.{is_blank}
use Rattle.go_constant_core.specs.text_core.declared.span.Span.{Span}
use Rattle.go_tree_nodes.specs.token_core.declared.kind.Operator.{Operator}
use Rattle.go_tree_nodes.specs.token_core.declared.kind.Operator.TheVariants as operators
use Rattle.go_tree_nodes.specs.declared.names.Ident.{Ident}
use Rattle.go_tree_nodes.specs.declared.decls.ValueKind.{ValueKind}
use Rattle.go_tree_nodes.specs.declared.decls.ValueKind.TheVariants as value_kinds
use Rattle.go_tree_nodes.specs.Trees.{Separated, One, Then, ExprTree, ItemTrees, Integer, Text, Named, Paren, Unary, Binary, Select, Call, Literal, StructLiteral, NoItems, Item, ValueSpecTree, Specs, Single, Group, SimpleTree, Alone, Step, Assign, Update, Define, StmtTree, Empty, Declare, Simple, Return, Break, Continue, Block, If, For, BranchTree, Branch, NoElse, ElseBlock, ElseIf, Lines, NoLines, Line, FuncTree}
use Rattle.go_object_core.specs.declared.instructions.letters.Word.{Word}
use Rattle.go_object_core.specs.declared.instructions.instruction.Distance.TheVariants as distances
use Rattle.go_object_core.specs.declared.instructions.instruction.Instruction.{Instruction}
use Rattle.go_object_core.specs.declared.instructions.instruction.Instruction.TheVariants as instructions
use Rattle.go_code_core.specs.declared.fragments.names.ConstantWord.{ConstantWord}
use Rattle.go_code_core.specs.declared.fragments.names.Gives.{Gives}
use Rattle.go_code_core.specs.declared.fragments.names.Gives.TheVariants as gives
use Rattle.go_code_core.specs.declared.fragments.names.Meaning.{Meaning}
use Rattle.go_code_core.specs.declared.fragments.names.Meaning.TheVariants as meanings
use Rattle.go_code_core.specs.declared.fragments.targets.Target.{Target}
use Rattle.go_code_core.specs.declared.fragments.targets.Target.TheVariants as targets
use Rattle.go_code_core.specs.Code.{Exits, before, binary_code, body_code, branch_code, call_end, code_of, constant_or, declared_code, dropped, expr_code, frame_in, head_init, head_post, head_test, in_loop, init_code, initial_code, items_code, jump, letters, lines_code, load, loop_code, name_code, no_exits, one_code, panic_end, receiver_code, returned_code, simple_code, some_simple_code, stmt_code, store, stored, test_code, updated, value_lines_code, value_spec_code, value_specs_code}
use Rattle.go_code_core.specs.fragments.Constants.{folded}
use Rattle.go_code_core.specs.fragments.Fragment.{expr_gives, means_method}
use Rattle.go_code_core.specs.fragments.Inside.{in_fragment}
use Rattle.go_code_core.specs.Laws.{CodeIsWhole, IsOfFunction, OutsideIsAlone}
use Rattle.go_code_core.specs.fragments.Slots.{slots_of}
use Rattle.go_code_core.specs.fragments.Names.{Frame, slot_from, slot_of, callee_meaning, slot_target, meant_target, slot_assigned, declared_slot}
use Rattle.go_code_core.specs.fragments.Operators.{some_instruction, step_operator, unary_instruction, update_operator}

abbrev pub Each : (Instruction → Type 0) → List Instruction → Type 0
Each P [] = Unit {0}
Each P (i ∷ code) = P i × Each P code

pub each_append : (P : Instruction → Type 0) (a b : List Instruction) → Each P a → Each P b → Each P (a ++ b)
each_append P [] b h k = k
each_append P (i ∷ a) b h k = (h.0, each_append P a b h.1 k)

pub each_there : (P : Instruction → Type 0) (front rest : List Instruction) (i : Instruction) → Each P (front ++ i ∷ rest) → P i
each_there P [] rest i h = h.0
each_there P (j ∷ front) rest i h = each_there P front rest i h.1

-- the instructions of a function

abbrev pub Fine : Frame → List Instruction → Type 0
Fine f code = Each (IsOfFunction f.looks (length f.slots)) code

both : (f : Frame) (a b : List Instruction) → Fine f a → Fine f b → Fine f (a ++ b)
both f a b h k = each_append (IsOfFunction f.looks (length f.slots)) a b h k

one_of : (f : Frame) (b : Bool) (x y : List Instruction) → Fine f x → Fine f y → Fine f (if b then x else y)
one_of f true x y h k = h
one_of f false x y h k = k

-- slots

found : (b : Bool) (n s : ℕ) (rest : Option ℕ) (top : ℕ) → n < top → (rest ≡ Some s → s < top) → (if b then Some n else rest) ≡ Some s → s < top
found true n s rest top h k e = subst (λ m. m < top) (same_Some n s e) h
found false n s rest top h k e = k e

below_from : (n : ℕ) (slots : List (Option ℕ)) (at s : ℕ) → slot_from n slots at ≡ Some s → s < n + length slots
below_from n [] at s e = absurd (let no : None ≡ Some s = e in cc)
below_from n (None ∷ slots) at s e = let h = below_from (suc n) slots at s e in omega (arith, h)
below_from n (Some d ∷ slots) at s e =
    found (nat_eq d at) n s (slot_from (suc n) slots at) (n + length (Some d ∷ slots)) (omega arith) (λ k. let h = below_from (suc n) slots at s k in omega (arith, h)) e

below : (slots : List (Option ℕ)) (at s : ℕ) → slot_of slots at ≡ Some s → s < length slots
below slots at s e = let h = below_from 0 slots at s e in omega (arith, h)

abbrev IsWithin : ℕ → Target → Type 0
IsWithin n (targets.Slot s) = s < n
IsWithin n targets.Blank = Unit {0}
IsWithin n targets.Other = Unit {0}

within_slot : (n : ℕ) (o : Option ℕ) → ((s : ℕ) → o ≡ Some s → s < n) → IsWithin n (slot_target o)
within_slot n None h = tt
within_slot n (Some s) h = h s refl

within_one : (n : ℕ) (b : Bool) (t : Target) → IsWithin n t → IsWithin n (if b then targets.Blank else t)
within_one n true t h = tt
within_one n false t h = h

within_meant : (slots : List (Option ℕ)) (m : Meaning) → IsWithin (length slots) (meant_target slots m)
within_meant slots (meanings.Variable at w) = within_slot (length slots) (slot_of slots at) (below slots at)
within_meant slots (meanings.Constant v) = tt
within_meant slots (meanings.Function g) = tt
within_meant slots (meanings.Method g) = tt
within_meant slots (meanings.«Type» w) = tt
within_meant slots meanings.Println = tt
within_meant slots meanings.Panic = tt
within_meant slots meanings.Other = tt

within_target : (f : Frame) (e : ExprTree) → IsWithin (length f.slots) (slot_assigned f e)
within_target f (Named x) = within_one (length f.slots) (is_blank x.name) _ (within_meant f.slots (f.looks.meaning x.span.start))
within_target f (Paren first e last) = within_target f e
within_target f (Integer n s) = tt
within_target f (Text t) = tt
within_target f (Unary op s e) = tt
within_target f (Binary a op s b) = tt
within_target f (Select e dot x) = tt
within_target f (Call e first items last) = tt
within_target f (Literal n first items last) = tt
within_target f (StructLiteral t first items last) = tt

within_declared : (f : Frame) (x : Ident) → IsWithin (length f.slots) (declared_slot f x)
within_declared f x = within_one (length f.slots) (is_blank x.name) _ (within_slot (length f.slots) (slot_of f.slots x.span.start) (below f.slots x.span.start))

store_fine : (f : Frame) (t : Target) → IsWithin (length f.slots) t → Fine f (store t)
store_fine f (targets.Slot s) h = (h, tt)
store_fine f targets.Blank h = (tt, tt)
store_fine f targets.Other h = tt

-- operators

unary_fine : (f : Frame) (op : Operator) → Fine f (some_instruction (unary_instruction op))
unary_fine f operators.ShiftLeftAssign = tt
unary_fine f operators.ShiftRightAssign = tt
unary_fine f operators.AndNotAssign = tt
unary_fine f operators.Ellipsis = tt
unary_fine f operators.ShiftLeft = tt
unary_fine f operators.ShiftRight = tt
unary_fine f operators.AndNot = tt
unary_fine f operators.PlusAssign = tt
unary_fine f operators.MinusAssign = tt
unary_fine f operators.StarAssign = tt
unary_fine f operators.SlashAssign = tt
unary_fine f operators.PercentAssign = tt
unary_fine f operators.AndAssign = tt
unary_fine f operators.OrAssign = tt
unary_fine f operators.CaretAssign = tt
unary_fine f operators.LogicalAnd = tt
unary_fine f operators.LogicalOr = tt
unary_fine f operators.Arrow = tt
unary_fine f operators.Increment = tt
unary_fine f operators.Decrement = tt
unary_fine f operators.Equal = tt
unary_fine f operators.NotEqual = tt
unary_fine f operators.LessEqual = tt
unary_fine f operators.GreaterEqual = tt
unary_fine f operators.Define = tt
unary_fine f operators.Plus = tt
unary_fine f operators.Minus = (tt, tt)
unary_fine f operators.Star = tt
unary_fine f operators.Slash = tt
unary_fine f operators.Percent = tt
unary_fine f operators.And = tt
unary_fine f operators.Or = tt
unary_fine f operators.Caret = tt
unary_fine f operators.Less = tt
unary_fine f operators.Greater = tt
unary_fine f operators.Assign = tt
unary_fine f operators.Not = (tt, tt)
unary_fine f operators.Tilde = tt
unary_fine f operators.OpenParen = tt
unary_fine f operators.OpenBracket = tt
unary_fine f operators.OpenBrace = tt
unary_fine f operators.Comma = tt
unary_fine f operators.Dot = tt
unary_fine f operators.CloseParen = tt
unary_fine f operators.CloseBracket = tt
unary_fine f operators.CloseBrace = tt
unary_fine f operators.Semicolon = tt
unary_fine f operators.Colon = tt

step_fine : (f : Frame) (op : Operator) → Fine f (some_instruction (step_operator op))
step_fine f operators.ShiftLeftAssign = tt
step_fine f operators.ShiftRightAssign = tt
step_fine f operators.AndNotAssign = tt
step_fine f operators.Ellipsis = tt
step_fine f operators.ShiftLeft = tt
step_fine f operators.ShiftRight = tt
step_fine f operators.AndNot = tt
step_fine f operators.PlusAssign = tt
step_fine f operators.MinusAssign = tt
step_fine f operators.StarAssign = tt
step_fine f operators.SlashAssign = tt
step_fine f operators.PercentAssign = tt
step_fine f operators.AndAssign = tt
step_fine f operators.OrAssign = tt
step_fine f operators.CaretAssign = tt
step_fine f operators.LogicalAnd = tt
step_fine f operators.LogicalOr = tt
step_fine f operators.Arrow = tt
step_fine f operators.Increment = (tt, tt)
step_fine f operators.Decrement = (tt, tt)
step_fine f operators.Equal = tt
step_fine f operators.NotEqual = tt
step_fine f operators.LessEqual = tt
step_fine f operators.GreaterEqual = tt
step_fine f operators.Define = tt
step_fine f operators.Plus = tt
step_fine f operators.Minus = tt
step_fine f operators.Star = tt
step_fine f operators.Slash = tt
step_fine f operators.Percent = tt
step_fine f operators.And = tt
step_fine f operators.Or = tt
step_fine f operators.Caret = tt
step_fine f operators.Less = tt
step_fine f operators.Greater = tt
step_fine f operators.Assign = tt
step_fine f operators.Not = tt
step_fine f operators.Tilde = tt
step_fine f operators.OpenParen = tt
step_fine f operators.OpenBracket = tt
step_fine f operators.OpenBrace = tt
step_fine f operators.Comma = tt
step_fine f operators.Dot = tt
step_fine f operators.CloseParen = tt
step_fine f operators.CloseBracket = tt
step_fine f operators.CloseBrace = tt
step_fine f operators.Semicolon = tt
step_fine f operators.Colon = tt

update_fine : (f : Frame) (op : Operator) → Fine f (some_instruction (update_operator op))
update_fine f operators.ShiftLeftAssign = tt
update_fine f operators.ShiftRightAssign = tt
update_fine f operators.AndNotAssign = tt
update_fine f operators.Ellipsis = tt
update_fine f operators.ShiftLeft = tt
update_fine f operators.ShiftRight = tt
update_fine f operators.AndNot = tt
update_fine f operators.PlusAssign = (tt, tt)
update_fine f operators.MinusAssign = (tt, tt)
update_fine f operators.StarAssign = (tt, tt)
update_fine f operators.SlashAssign = (tt, tt)
update_fine f operators.PercentAssign = (tt, tt)
update_fine f operators.AndAssign = tt
update_fine f operators.OrAssign = tt
update_fine f operators.CaretAssign = tt
update_fine f operators.LogicalAnd = tt
update_fine f operators.LogicalOr = tt
update_fine f operators.Arrow = tt
update_fine f operators.Increment = tt
update_fine f operators.Decrement = tt
update_fine f operators.Equal = tt
update_fine f operators.NotEqual = tt
update_fine f operators.LessEqual = tt
update_fine f operators.GreaterEqual = tt
update_fine f operators.Define = tt
update_fine f operators.Plus = tt
update_fine f operators.Minus = tt
update_fine f operators.Star = tt
update_fine f operators.Slash = tt
update_fine f operators.Percent = tt
update_fine f operators.And = tt
update_fine f operators.Or = tt
update_fine f operators.Caret = tt
update_fine f operators.Less = tt
update_fine f operators.Greater = tt
update_fine f operators.Assign = tt
update_fine f operators.Not = tt
update_fine f operators.Tilde = tt
update_fine f operators.OpenParen = tt
update_fine f operators.OpenBracket = tt
update_fine f operators.OpenBrace = tt
update_fine f operators.Comma = tt
update_fine f operators.Dot = tt
update_fine f operators.CloseParen = tt
update_fine f operators.CloseBracket = tt
update_fine f operators.CloseBrace = tt
update_fine f operators.Semicolon = tt
update_fine f operators.Colon = tt

plain_fine : (f : Frame) (i : Instruction) (a b : List Instruction) → IsOfFunction f.looks (length f.slots) i → Fine f a → Fine f b → Fine f (a ++ (b ++ i ∷ []))
plain_fine f i a b p h k = both f a (b ++ i ∷ []) h (both f b (i ∷ []) k (p, tt))

none_fine : (f : Frame) (a b : List Instruction) → Fine f a → Fine f b → Fine f (a ++ (b ++ []))
none_fine f a b h k = both f a (b ++ []) h (both f b [] k tt)

binary_fine : (f : Frame) (op : Operator) (a b : List Instruction) → Fine f a → Fine f b → Fine f (binary_code op a b)
binary_fine f operators.LogicalAnd a b h k = both f a _ h (tt, both f b _ k (tt, (tt, tt)))
binary_fine f operators.LogicalOr a b h k = both f a _ h (tt, (tt, (tt, k)))
binary_fine f operators.ShiftLeftAssign a b h k = none_fine f a b h k
binary_fine f operators.ShiftRightAssign a b h k = none_fine f a b h k
binary_fine f operators.AndNotAssign a b h k = none_fine f a b h k
binary_fine f operators.Ellipsis a b h k = none_fine f a b h k
binary_fine f operators.ShiftLeft a b h k = none_fine f a b h k
binary_fine f operators.ShiftRight a b h k = none_fine f a b h k
binary_fine f operators.AndNot a b h k = none_fine f a b h k
binary_fine f operators.PlusAssign a b h k = none_fine f a b h k
binary_fine f operators.MinusAssign a b h k = none_fine f a b h k
binary_fine f operators.StarAssign a b h k = none_fine f a b h k
binary_fine f operators.SlashAssign a b h k = none_fine f a b h k
binary_fine f operators.PercentAssign a b h k = none_fine f a b h k
binary_fine f operators.AndAssign a b h k = none_fine f a b h k
binary_fine f operators.OrAssign a b h k = none_fine f a b h k
binary_fine f operators.CaretAssign a b h k = none_fine f a b h k
binary_fine f operators.Arrow a b h k = none_fine f a b h k
binary_fine f operators.Increment a b h k = none_fine f a b h k
binary_fine f operators.Decrement a b h k = none_fine f a b h k
binary_fine f operators.Equal a b h k = plain_fine f instructions.Eq a b tt h k
binary_fine f operators.NotEqual a b h k = plain_fine f instructions.Ne a b tt h k
binary_fine f operators.LessEqual a b h k = plain_fine f instructions.Le a b tt h k
binary_fine f operators.GreaterEqual a b h k = plain_fine f instructions.Ge a b tt h k
binary_fine f operators.Define a b h k = none_fine f a b h k
binary_fine f operators.Plus a b h k = plain_fine f instructions.Add a b tt h k
binary_fine f operators.Minus a b h k = plain_fine f instructions.Sub a b tt h k
binary_fine f operators.Star a b h k = plain_fine f instructions.Mul a b tt h k
binary_fine f operators.Slash a b h k = plain_fine f instructions.Div a b tt h k
binary_fine f operators.Percent a b h k = plain_fine f instructions.Rem a b tt h k
binary_fine f operators.And a b h k = none_fine f a b h k
binary_fine f operators.Or a b h k = none_fine f a b h k
binary_fine f operators.Caret a b h k = none_fine f a b h k
binary_fine f operators.Less a b h k = plain_fine f instructions.Lt a b tt h k
binary_fine f operators.Greater a b h k = plain_fine f instructions.Gt a b tt h k
binary_fine f operators.Assign a b h k = none_fine f a b h k
binary_fine f operators.Not a b h k = none_fine f a b h k
binary_fine f operators.Tilde a b h k = none_fine f a b h k
binary_fine f operators.OpenParen a b h k = none_fine f a b h k
binary_fine f operators.OpenBracket a b h k = none_fine f a b h k
binary_fine f operators.OpenBrace a b h k = none_fine f a b h k
binary_fine f operators.Comma a b h k = none_fine f a b h k
binary_fine f operators.Dot a b h k = none_fine f a b h k
binary_fine f operators.CloseParen a b h k = none_fine f a b h k
binary_fine f operators.CloseBracket a b h k = none_fine f a b h k
binary_fine f operators.CloseBrace a b h k = none_fine f a b h k
binary_fine f operators.Semicolon a b h k = none_fine f a b h k
binary_fine f operators.Colon a b h k = none_fine f a b h k

-- expressions

constant_fine : (f : Frame) (v : Option ConstantWord) (code : List Instruction) → Fine f code → Fine f (constant_or v code)
constant_fine f (Some v) code h = (tt, tt)
constant_fine f None code h = h

load_fine : (f : Frame) (o : Option ℕ) → ((s : ℕ) → o ≡ Some s → s < length f.slots) → Fine f (load o)
load_fine f None h = tt
load_fine f (Some s) h = (h s refl, tt)

name_fine : (f : Frame) (m : Meaning) → Fine f (name_code f.slots m)
name_fine f (meanings.Variable at w) = load_fine f (slot_of f.slots at) (below f.slots at)
name_fine f (meanings.Constant v) = (tt, tt)
name_fine f (meanings.Function g) = tt
name_fine f (meanings.Method g) = tt
name_fine f (meanings.«Type» w) = tt
name_fine f meanings.Println = tt
name_fine f meanings.Panic = tt
name_fine f meanings.Other = tt

panic_fine : (f : Frame) (ws : List Word) → Fine f (panic_end ws)
panic_fine f [] = tt
panic_fine f (w ∷ ws) = (tt, tt)

end_fine : (f : Frame) (m : Meaning) (offset : ℕ) (items : ItemTrees) → Fine f (call_end f m (f.looks.reference offset) items)
end_fine f (meanings.Function g) offset items = ((offset, refl), tt)
end_fine f (meanings.Method g) offset items = ((offset, refl), tt)
end_fine f (meanings.«Type» w) offset items = tt
end_fine f meanings.Println offset items = (tt, tt)
end_fine f meanings.Panic offset items = panic_fine f (letters f items)
end_fine f (meanings.Variable at w) offset items = tt
end_fine f (meanings.Constant v) offset items = tt
end_fine f meanings.Other offset items = tt

mutual
  expr_fine : (f : Frame) (e : ExprTree) → Fine f (expr_code f e)
  expr_fine f (Integer n s) = constant_fine f (folded f.looks (Integer n s)) [] tt
  expr_fine f (Text t) = tt
  expr_fine f (Named x) = name_fine f (f.looks.meaning x.span.start)
  expr_fine f (Paren first e last) = expr_fine f e
  expr_fine f (Unary op s e) = constant_fine f (folded f.looks (Unary op s e)) _ (both f (expr_code f e) _ (expr_fine f e) (unary_fine f op))
  expr_fine f (Binary a op s b) = constant_fine f (folded f.looks (Binary a op s b)) _ (binary_fine f op (expr_code f a) (expr_code f b) (expr_fine f a) (expr_fine f b))
  expr_fine f (Select e dot x) = name_fine f (f.looks.meaning x.span.start)
  expr_fine f (Call e first items last) =
      constant_fine f (folded f.looks (Call e first items last)) _ (both f (receiver_code f e) _ (receiver_fine f e) (both f (items_code f items) _ (items_fine f items) (end_fine f (callee_meaning f.looks e) first.start items)))
  expr_fine f (Literal n first items last) = tt
  expr_fine f (StructLiteral t first items last) = tt

  receiver_fine : (f : Frame) (e : ExprTree) → Fine f (receiver_code f e)
  receiver_fine f (Select e dot x) = one_of f (means_method (f.looks.meaning x.span.start)) (expr_code f e) [] (expr_fine f e) tt
  receiver_fine f (Paren first e last) = receiver_fine f e
  receiver_fine f (Integer n s) = tt
  receiver_fine f (Text t) = tt
  receiver_fine f (Named x) = tt
  receiver_fine f (Unary op s e) = tt
  receiver_fine f (Binary a op s b) = tt
  receiver_fine f (Call e first items last) = tt
  receiver_fine f (Literal n first items last) = tt
  receiver_fine f (StructLiteral t first items last) = tt

  items_fine : (f : Frame) (items : ItemTrees) → Fine f (items_code f items)
  items_fine f NoItems = tt
  items_fine f (Item key e comma rest) = both f (expr_code f e) _ (expr_fine f e) (items_fine f rest)

-- simple statements

updated_fine : (f : Frame) (t : Target) (value : List Instruction) (op : Option Instruction) → IsWithin (length f.slots) t → Fine f value → Fine f (some_instruction op) → Fine f (updated t value op)
updated_fine f (targets.Slot s) value op h k l = (h, both f value _ k (both f (some_instruction op) _ l (h, tt)))
updated_fine f targets.Blank value op h k l = tt
updated_fine f targets.Other value op h k l = tt

one_fine : (f : Frame) (es : Separated ExprTree) → Fine f (one_code f es)
one_fine f (One e) = expr_fine f e
one_fine f (Then e comma more) = tt

stored_fine : (f : Frame) (es : Separated ExprTree) → Fine f (stored f es)
stored_fine f (One e) = store_fine f (slot_assigned f e) (within_target f e)
stored_fine f (Then e comma more) = tt

declared_fine : (f : Frame) (xs : Separated Ident) → Fine f (declared_code f xs)
declared_fine f (One x) = store_fine f (declared_slot f x) (within_declared f x)
declared_fine f (Then x comma more) = tt

dropped_fine : (f : Frame) (g : Gives) → Fine f (dropped g)
dropped_fine f (gives.One w) = (tt, tt)
dropped_fine f gives.Nothing = tt
dropped_fine f gives.Other = tt

simple_fine : (f : Frame) (s : SimpleTree) → Fine f (simple_code f s)
simple_fine f (Alone e) = both f (expr_code f e) _ (expr_fine f e) (dropped_fine f (expr_gives f e))
simple_fine f (Step e op s) = updated_fine f (slot_assigned f e) _ (step_operator op) (within_target f e) (tt, tt) (step_fine f op)
simple_fine f (Assign ts s es) = both f (one_code f es) _ (one_fine f es) (stored_fine f ts)
simple_fine f (Update t op s e) = updated_fine f (slot_assigned f t) (expr_code f e) (update_operator op) (within_target f t) (expr_fine f e) (update_fine f op)
simple_fine f (Define xs s es) = both f (one_code f es) _ (one_fine f es) (declared_fine f xs)

some_simple_fine : (f : Frame) (s : Option SimpleTree) → Fine f (some_simple_code f s)
some_simple_fine f None = tt
some_simple_fine f (Some s) = simple_fine f s

initial_fine : (f : Frame) (v : Option (Span × Separated ExprTree)) → Fine f (initial_code f v)
initial_fine f None = (tt, tt)
initial_fine f (Some v) = one_fine f v.1

spec_fine : (f : Frame) (kind : ValueKind) (v : ValueSpecTree) → Fine f (value_spec_code f kind v)
spec_fine f value_kinds.Const v = tt
spec_fine f value_kinds.Var v = both f (initial_code f v.values) _ (initial_fine f v.values) (declared_fine f v.names)

spec_lines_fine : (f : Frame) (kind : ValueKind) (ls : List (ValueSpecTree × Option Span)) → Fine f (value_lines_code f kind ls)
spec_lines_fine f kind [] = tt
spec_lines_fine f kind (l ∷ ls) = both f (value_spec_code f kind l.0) _ (spec_fine f kind l.0) (spec_lines_fine f kind ls)

specs_fine : (f : Frame) (kind : ValueKind) (s : Specs ValueSpecTree) → Fine f (value_specs_code f kind s)
specs_fine f kind (Single v) = spec_fine f kind v
specs_fine f kind (Group first ls last) = spec_lines_fine f kind ls

-- statements

init_fine : (f : Frame) (i : Option (Option SimpleTree × Span)) → Fine f (init_code f i)
init_fine f None = tt
init_fine f (Some i) = some_simple_fine f i.0

test_fine : (f : Frame) (t : Option ExprTree) (n : ℕ) → Fine f (test_code f t n)
test_fine f None n = tt
test_fine f (Some e) n = both f (expr_code f e) _ (expr_fine f e) (tt, tt)

loop_fine : (f : Frame) (t : Option ExprTree) (b p : List Instruction) → Fine f b → Fine f p → Fine f (loop_code f t b p)
loop_fine f t b p h k =
    let n : ℕ = suc (length (b ++ p)) in
    let code : List Instruction = test_code f t n ++ (b ++ p) in
    both f code (instructions.Jump (distances.Back (suc (length code))) ∷ []) (both f (test_code f t n) (b ++ p) (test_fine f t n) (both f b p h k)) (tt, tt)

returned_fine : (f : Frame) (es : Option (Separated ExprTree)) → Fine f (returned_code f es)
returned_fine f None = (tt, tt)
returned_fine f (Some es) = both f (one_code f es) _ (one_fine f es) (tt, tt)

chosen_fine : (f : Frame) (i : Option (Option SimpleTree × Span)) (e : ExprTree) (n : ℕ) (code : List Instruction) → Fine f code → Fine f (init_code f i ++ (test_code f (Some e) n ++ code))
chosen_fine f i e n code h = both f (init_code f i) _ (init_fine f i) (both f (test_code f (Some e) n) code (test_fine f (Some e) n) h)

else_fine : (f : Frame) (then_part outside : List Instruction) (n : ℕ) → Fine f then_part → Fine f outside → Fine f ((then_part ++ jump n) ++ outside)
else_fine f then_part outside n h k = both f (then_part ++ jump n) outside (both f then_part _ h (tt, tt)) k

mutual
  stmt_fine : (f : Frame) (x : Exits) (s : StmtTree) → Fine f (stmt_code f x s)
  stmt_fine f x Empty = tt
  stmt_fine f x (Declare v) = specs_fine f v.kind v.specs
  stmt_fine f x (Simple s) = simple_fine f s
  stmt_fine f x (Return s es) = returned_fine f es
  stmt_fine f x (Break s) = (tt, tt)
  stmt_fine f x (Continue s) = (tt, tt)
  stmt_fine f x (Block first ls last) = lines_fine f x ls
  stmt_fine f x (If b) = branch_fine f x b
  stmt_fine f x (For k head first ls last) =
      both f (some_simple_code f (head_init head)) _ (some_simple_fine f (head_init head))
      (loop_fine f (head_test head) (lines_code f (in_loop (some_simple_code f (head_post head))) ls) (some_simple_code f (head_post head))
      (lines_fine f (in_loop (some_simple_code f (head_post head))) ls) (some_simple_fine f (head_post head)))

  branch_fine : (f : Frame) (x : Exits) (b : BranchTree) → Fine f (branch_code f x b)
  branch_fine f x (Branch k head first ls last NoElse) = chosen_fine f head.init head.condition (length (lines_code f x ls)) (lines_code f x ls) (lines_fine f x ls)
  branch_fine f x (Branch k head first ls last (ElseBlock k' first' others last')) =
      let outside : List Instruction = lines_code f x others in
      let y : Exits = before (suc (length outside)) x in
      let inside : List Instruction = lines_code f y ls in
      chosen_fine f head.init head.condition (length (inside ++ jump (length outside))) ((inside ++ jump (length outside)) ++ outside) (else_fine f inside outside (length outside) (lines_fine f y ls) (lines_fine f x others))
  branch_fine f x (Branch k head first ls last (ElseIf k' b)) =
      let outside : List Instruction = branch_code f x b in
      let y : Exits = before (suc (length outside)) x in
      let inside : List Instruction = lines_code f y ls in
      chosen_fine f head.init head.condition (length (inside ++ jump (length outside))) ((inside ++ jump (length outside)) ++ outside) (else_fine f inside outside (length outside) (lines_fine f y ls) (branch_fine f x b))

  lines_fine : (f : Frame) (x : Exits) (ls : Lines) → Fine f (lines_code f x ls)
  lines_fine f x NoLines = tt
  lines_fine f x (Line s semicolon rest) =
      both f (stmt_code f (before (length (lines_code f x rest)) x) s) (lines_code f x rest) (stmt_fine f (before (length (lines_code f x rest)) x) s) (lines_fine f x rest)

pub body_fine : (f : Frame) (func : FuncTree) → Fine f (body_code f func)
body_fine f func = both f (lines_code f no_exits func.body) _ (lines_fine f no_exits func.body) (tt, tt)

framed : (f : Frame) (func : FuncTree) (b : Bool) → b ≡ true → (if b then body_code f func else instructions.Outside ∷ []) ≡ body_code f func
framed f func true h = refl
framed f func false h = absurd (true≢false (sym h))

alone : (f : Frame) (func : FuncTree) (b : Bool) → b ≡ false → (if b then body_code f func else instructions.Outside ∷ []) ≡ instructions.Outside ∷ []
alone f func true h = absurd (true≢false h)
alone f func false h = refl

pub whole_code : CodeIsWhole
whole_code looks func h =
    let f : Frame = frame_in looks func in
    let is : code_of looks func ≡ body_code f func = framed f func (in_fragment f func) h in
    record {
      each = λ front rest i e. each_there (IsOfFunction looks (length (slots_of looks func))) front rest i (subst (Each (IsOfFunction looks (length (slots_of looks func)))) (sym is ∙ e) (body_fine f func));
      last = (lines_code f no_exits func.body, is);
    }

pub outside_alone : OutsideIsAlone
outside_alone looks func h = let f : Frame = frame_in looks func in alone f func (in_fragment f func) h
