-- The code of expressions, from its end.
use Rattle.std.proofs.Common.{◌≡◌, ℕ, ◌-◌, List, [], ◌∷◌, ◌++◌, length, sym, ap, ◌∙◌, arith, append_assoc, length-append, Result}
use Rattle.std.specs.Prelude.{Option, Some, None, pos}
use Rattle.std.specs.Result.{OnOk}
use Rattle.std.specs.Global.{Box}
use Rattle.std.proofs.lemmas.Result.{on_ok_weaker}
use Rattle.go_tree_nodes.specs.token_core.declared.kind.Operator.TheVariants as operators
use Rattle.go_tree_nodes.specs.declared.exprs.Expr.{Expr}
use Rattle.go_tree_nodes.specs.declared.exprs.Expr.TheVariants as expr
use Rattle.go_tree_nodes.specs.declared.exprs.CallExpr.{CallExpr, out-CallExpr}
use Rattle.go_tree_nodes.specs.Shapes.{shape, shape_call, items_of}
use Rattle.go_tree_nodes.specs.Trees.{ExprTree, Integer, Text, Named, Paren, Unary, Binary, Select, Call, Literal, StructLiteral}
use Rattle.go_tree_nodes.proofs.ShapeLemmas.{call_parts, call_form, call_tree}
use Rattle.go_object_core.specs.declared.instructions.instruction.Distance.TheVariants as distances
use Rattle.go_object_core.specs.declared.instructions.instruction.Instruction.{Instruction}
use Rattle.go_object_core.specs.declared.instructions.instruction.Instruction.TheVariants as instructions
use Rattle.go_code_core.specs.declared.fragments.names.ConstantWord.{ConstantWord}
use Rattle.go_code_core.specs.declared.fragments.names.Meaning.{Meaning}
use Rattle.go_code_core.specs.declared.fragments.names.Meaning.TheVariants as meanings
use Rattle.go_code_core.specs.Code.{binary_code, call_end, constant_or, expr_code, items_code, name_code, push, receiver_code}
use Rattle.go_code_core.specs.fragments.Constants.{folded, folded_name}
use Rattle.go_code_core.specs.fragments.Names.{Frame, callee_meaning}
use Rattle.go_code_core.specs.fragments.Operators.{some_instruction, unary_instruction}
use Rattle.go_code_core.specs.mirrors.Written.{applied}

-- a piece in front of another
joined : {X : Type 0} (a b old now new : List X) → now ≡ b ++ old → new ≡ a ++ now → new ≡ (a ++ b) ++ old
joined a b old now new h e = e ∙ (ap (λ l. a ++ l) h ∙ sym (append_assoc a b old))

-- constants

of_name : (slots : List (Option ℕ)) (m : Meaning) (w : ConstantWord) → Some w ≡ folded_name m → push w ≡ name_code slots m
of_name slots (meanings.Constant v) w h = ap (λ o. constant_or o []) h
of_name slots (meanings.Variable at x) w h = absurd (let no : Some w ≡ None = h in cc)
of_name slots (meanings.Function g) w h = absurd (let no : Some w ≡ None = h in cc)
of_name slots (meanings.Method g) w h = absurd (let no : Some w ≡ None = h in cc)
of_name slots (meanings.«Type» x) w h = absurd (let no : Some w ≡ None = h in cc)
of_name slots meanings.Println w h = absurd (let no : Some w ≡ None = h in cc)
of_name slots meanings.Panic w h = absurd (let no : Some w ≡ None = h in cc)
of_name slots meanings.Other w h = absurd (let no : Some w ≡ None = h in cc)

pushed : (f : Frame) (e : ExprTree) (w : ConstantWord) → Some w ≡ folded f.looks e → push w ≡ expr_code f e
pushed f (Integer n s) w h = ap (λ o. constant_or o []) h
pushed f (Text t) w h = absurd (let no : Some w ≡ None = h in cc)
pushed f (Named x) w h = of_name f.slots (f.looks.meaning x.span.start) w h
pushed f (Paren first e last) w h = pushed f e w h
pushed f (Unary op s e) w h = ap (λ o. constant_or o (expr_code f e ++ some_instruction (unary_instruction op))) h
pushed f (Binary a op s b) w h = ap (λ o. constant_or o (binary_code op (expr_code f a) (expr_code f b))) h
pushed f (Select e dot x) w h = of_name f.slots (f.looks.meaning x.span.start) w h
pushed f (Call e first items last) w h = ap (λ o. constant_or o (applied f (Call e first items last))) h
pushed f (Literal n first items last) w h = absurd (let no : Some w ≡ None = h in cc)
pushed f (StructLiteral t first items last) w h = absurd (let no : Some w ≡ None = h in cc)

-- where an expression is a constant
pub is_pushed : {T E : Type 0} (r : Result T E) (f : Frame) (e : ExprTree) (w : ConstantWord) (old new : List Instruction) → Some w ≡ folded f.looks e → OnOk r (new ≡ push w ++ old) → OnOk r (new ≡ expr_code f e ++ old)
is_pushed r f e w old new h p = on_ok_weaker r (λ k. k ∙ ap (λ l. l ++ old) (pushed f e w h)) p

-- where it is none
plainly : (v : Option ConstantWord) (code : List Instruction) → None ≡ v → constant_or v code ≡ code
plainly v code h = ap (λ o. constant_or o code) (sym h)

pub call_made : {T E : Type 0} (r : Result T E) (f : Frame) (e : Expr) (c : Box CallExpr) (old new : List Instruction) → e ≡ expr.Call c → None ≡ folded f.looks (shape e)
    → OnOk r (new ≡ applied f (shape_call c.value) ++ old) → OnOk r (new ≡ expr_code f (shape e) ++ old)
call_made r f e c old new is none p =
    let form = call_form e c is in
    on_ok_weaker r (λ k. k ∙ ap (λ l. l ++ old)
    (ap (applied f) (call_parts c.value) ∙ (sym (plainly (folded f.looks (call_tree c.value)) (applied f (call_tree c.value)) (none ∙ ap (folded f.looks) form)) ∙ sym (ap (expr_code f) form)))) p

pub applied_made : {T E : Type 0} (r : Result T E) (f : Frame) (c : CallExpr) (m : Meaning) (n : ℕ) (old now after new : List Instruction)
    → m ≡ callee_meaning f.looks (shape (out-CallExpr c).callee) → n ≡ f.looks.reference (out-CallExpr c).«open».start
    → now ≡ call_end f m n (items_of (out-CallExpr c).args.items) ++ old → after ≡ items_code f (items_of (out-CallExpr c).args.items) ++ now
    → OnOk r (new ≡ receiver_code f (shape (out-CallExpr c).callee) ++ after) → OnOk r (new ≡ applied f (shape_call c) ++ old)
applied_made r f c m n old now after new is at h k p =
    let callee = shape (out-CallExpr c).callee in
    let items = items_of (out-CallExpr c).args.items in
    let end = call_end f (callee_meaning f.looks callee) (f.looks.reference (out-CallExpr c).«open».start) items in
    let h' : now ≡ end ++ old = h ∙ (ap (λ x. call_end f x n items ++ old) is ∙ ap (λ x. call_end f (callee_meaning f.looks callee) x items ++ old) at) in
    on_ok_weaker r (λ e. joined (receiver_code f callee) (items_code f items ++ end) old after new (joined (items_code f items) end old now after h' k) e ∙ ap (λ t. applied f t ++ old) (sym (call_parts c))) p

-- operators

pub or_made : {T E : Type 0} (r : Result T E) (a b old c1 c2 c3 c4 new : List Instruction) (end n : ℕ) → end ≡ length old → c1 ≡ b ++ old → n ≡ length c1 - end
    → c2 ≡ instructions.Jump (distances.Forward n) ∷ c1 → c3 ≡ instructions.Push (pos 1) ∷ c2 → c4 ≡ instructions.JumpFalse 2 ∷ c3 → OnOk r (new ≡ a ++ c4)
    → OnOk r (new ≡ binary_code operators.LogicalOr a b ++ old)
or_made r a b old c1 c2 c3 c4 new end n m e1 d e2 e3 e4 p =
    let len1 = ap length e1 ∙ length-append b old in
    let far : n ≡ length b = omega (arith, d, m, len1) in
    let full2 : c2 ≡ (instructions.Jump (distances.Forward (length b)) ∷ b) ++ old = e2 ∙ (ap (λ l. instructions.Jump (distances.Forward n) ∷ l) e1 ∙ ap (λ x. instructions.Jump (distances.Forward x) ∷ (b ++ old)) far) in
    let full4 : c4 ≡ (instructions.JumpFalse 2 ∷ (instructions.Push (pos 1) ∷ (instructions.Jump (distances.Forward (length b)) ∷ b))) ++ old =
    e4 ∙ ap (λ l. instructions.JumpFalse 2 ∷ l) (e3 ∙ ap (λ l. instructions.Push (pos 1) ∷ l) full2) in
    on_ok_weaker r (joined a (instructions.JumpFalse 2 ∷ (instructions.Push (pos 1) ∷ (instructions.Jump (distances.Forward (length b)) ∷ b))) old c4 new full4) p
