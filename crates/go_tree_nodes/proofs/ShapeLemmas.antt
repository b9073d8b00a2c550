-- Rows of items and lines, as lists of them.
use Rattle.std.proofs.Common.{◌≡◌, Vec, refl, ap, ◌∙◌}
use Rattle.std.specs.Global.{Box, Global}
use mathlib.Core.Former.{Count}
use Rattle.go_token_core.specs.text_core.declared.span.Span.{Span}
use Rattle.go_tree_nodes.specs.declared.types.TypeName.{TypeName}
use Rattle.go_tree_nodes.specs.declared.types.TypeExpr.{TypeExpr}
use Rattle.go_tree_nodes.specs.declared.exprs.Expr.{Expr}
use Rattle.go_tree_nodes.specs.declared.exprs.Expr.TheVariants as expr
use Rattle.go_tree_nodes.specs.declared.exprs.Expr.TheBlock.{hidden-the_row-Item-0}
use Rattle.go_tree_nodes.specs.declared.exprs.CallExpr.{CallExpr, roll-CallExpr, out-CallExpr, rolls-CallExpr', is-CallExpr', Row_of-Item, end_of-Item, more_of-Item, items-the_row-Item, items_hidden-the_row-Item-0}
use Rattle.go_tree_nodes.specs.declared.exprs.LiteralExpr.{LiteralExpr, roll-LiteralExpr, out-LiteralExpr, rolls-LiteralExpr', is-LiteralExpr'}
use Rattle.go_tree_nodes.specs.declared.exprs.StructLiteralExpr.{StructLiteralExpr, roll-StructLiteralExpr, out-StructLiteralExpr, rolls-StructLiteralExpr', is-StructLiteralExpr'}
use Rattle.go_tree_nodes.specs.declared.stmts.Loop.{Loop, roll-Loop, out-Loop, rolls-Loop', is-Loop'}
use Rattle.go_tree_nodes.specs.declared.exprs.«Item» as declared_item
use Rattle.go_tree_nodes.specs.declared.stmts.IfHead.{IfHead}
use Rattle.go_tree_nodes.specs.declared.stmts.ForHead.{ForHead}
use Rattle.go_tree_nodes.specs.declared.stmts.Stmt.{Stmt, Row_of-Line, end_of-Line, more_of-Line, items-the_row-Line, items_hidden-the_row-Line-0}
use Rattle.go_tree_nodes.specs.declared.stmts.Stmt.TheVariants as stmt
use Rattle.go_tree_nodes.specs.declared.stmts.«Branch» as declared_branch
use Rattle.go_tree_nodes.specs.declared.stmts.Otherwise.{Otherwise}
use Rattle.go_tree_nodes.specs.declared.stmts.Otherwise.TheBlock.{hidden-the_row-Line-0}
use Rattle.go_tree_nodes.specs.declared.stmts.Otherwise.TheVariants as otherwise
use Rattle.go_tree_nodes.specs.declared.stmts.«Line» as declared_line
use Rattle.go_tree_nodes.specs.Trees.{ExprTree, Call, Literal, StructLiteral, Item, Block, For, Branch, ElseBlock, Line}
use Rattle.go_tree_nodes.specs.TypeShapes.{shape_type}
use Rattle.go_tree_nodes.specs.Shapes.{shape, shape_call, shape_literal, shape_struct_literal, shape_items, items_of, shape_key, shape_loop, shape_if, shape_for, shape_stmt, shape_branch, shape_else, shape_row, lines_of}

-- the items of a row are those of its list
pub row_items : (n : _) (row : Row_of-Item n) → shape_items row ≡ items_of (items-the_row-Item n row)
row_items n end_of-Item = refl
row_items n (more_of-Item key e comma rest) = ap (Item (shape_key key) (shape e) comma) (row_items _ rest)

-- the tree of a call is that of the list of its arguments
pub call_parts : (c : CallExpr) → shape_call c ≡ Call (shape (out-CallExpr c).callee) (out-CallExpr c).«open» (items_of (out-CallExpr c).args.items) (out-CallExpr c).close
call_parts c =
    let o = out-CallExpr c in
    ap shape_call (is-CallExpr' c)
    ∙ ap (λ l. Call (shape o.callee) o.«open» l o.close) (row_items _ (hidden-the_row-Item-0 o.args) ∙ ap items_of (items_hidden-the_row-Item-0 o.args))

pub shape_called : (callee : Expr) (first : Span) (is : Vec declared_item.Item Global) (last : Span) → shape_call (roll-CallExpr (record { callee = callee; «open» = first; args = is; close = last })) ≡ Call (shape callee) first (items_of is.items) last
shape_called callee first is last =
    ap shape_call (rolls-CallExpr' (record { callee = callee; «open» = first; args = is; close = last }))
    ∙ ap (λ l. Call (shape callee) first l last) (row_items _ (hidden-the_row-Item-0 is) ∙ ap items_of (items_hidden-the_row-Item-0 is))

-- the tree of a literal is that of the list of its elements
pub literal_parts : (c : LiteralExpr) → shape_literal c ≡ Literal (out-LiteralExpr c).type_name (out-LiteralExpr c).«open» (items_of (out-LiteralExpr c).elements.items) (out-LiteralExpr c).close
literal_parts c =
    let o = out-LiteralExpr c in
    ap shape_literal (is-LiteralExpr' c)
    ∙ ap (λ l. Literal o.type_name o.«open» l o.close) (row_items _ (hidden-the_row-Item-0 o.elements) ∙ ap items_of (items_hidden-the_row-Item-0 o.elements))

pub shape_literal_made : (n : TypeName) (first : Span) (is : Vec declared_item.Item Global) (last : Span) → shape_literal (roll-LiteralExpr (record { type_name = n; «open» = first; elements = is; close = last })) ≡ Literal n first (items_of is.items) last
shape_literal_made n first is last =
    ap shape_literal (rolls-LiteralExpr' (record { type_name = n; «open» = first; elements = is; close = last }))
    ∙ ap (λ l. Literal n first l last) (row_items _ (hidden-the_row-Item-0 is) ∙ ap items_of (items_hidden-the_row-Item-0 is))

pub struct_literal_parts : (c : StructLiteralExpr) → shape_struct_literal c ≡ StructLiteral (shape_type (out-StructLiteralExpr c).type_expr) (out-StructLiteralExpr c).«open» (items_of (out-StructLiteralExpr c).elements.items) (out-StructLiteralExpr c).close
struct_literal_parts c =
    let o = out-StructLiteralExpr c in
    ap shape_struct_literal (is-StructLiteralExpr' c)
    ∙ ap (λ l. StructLiteral (shape_type o.type_expr) o.«open» l o.close) (row_items _ (hidden-the_row-Item-0 o.elements) ∙ ap items_of (items_hidden-the_row-Item-0 o.elements))

pub shape_struct_literal_made : (t : TypeExpr) (first : Span) (is : Vec declared_item.Item Global) (last : Span) → shape_struct_literal (roll-StructLiteralExpr (record { type_expr = t; «open» = first; elements = is; close = last })) ≡ StructLiteral (shape_type t) first (items_of is.items) last
shape_struct_literal_made t first is last =
    ap shape_struct_literal (rolls-StructLiteralExpr' (record { type_expr = t; «open» = first; elements = is; close = last }))
    ∙ ap (λ l. StructLiteral (shape_type t) first l last) (row_items _ (hidden-the_row-Item-0 is) ∙ ap items_of (items_hidden-the_row-Item-0 is))

-- the lines of a row are those of its list
pub row_lines : (n : _) (row : Row_of-Line n) → shape_row row ≡ lines_of (items-the_row-Line n row)
row_lines n end_of-Line = refl
row_lines n (more_of-Line s semicolon rest) = ap (Line (shape_stmt s) semicolon) (row_lines _ rest)

-- the row of a block
abbrev stmt_row : Stmt → (n : Count) × Row_of-Line n
stmt_row (stmt.Block' first _ row last) = (_, row)
stmt_row _ = (_, end_of-Line)

-- the tree of a block is that of the list of its lines
pub shape_block : (first : Span) (ls : Vec declared_line.Line Global) (last : Span) → shape_stmt (stmt.Block first ls last) ≡ Block first (lines_of ls.items) last
shape_block first ls last =
    let row = stmt_row (stmt.Block first ls last) in
    ap (λ l. Block first l last) (row_lines row.0 row.1 ∙ ap lines_of (items_hidden-the_row-Line-0 ls))

-- the tree of a loop is that of the list of its lines
pub loop_parts : (b : Loop) → shape_loop b ≡ For (out-Loop b).keyword (shape_for (out-Loop b).head) (out-Loop b).«open» (lines_of (out-Loop b).body.items) (out-Loop b).close
loop_parts b =
    let o = out-Loop b in
    ap shape_loop (is-Loop' b)
    ∙ ap (λ l. For o.keyword (shape_for o.head) o.«open» l o.close) (row_lines _ (hidden-the_row-Line-0 o.body) ∙ ap lines_of (items_hidden-the_row-Line-0 o.body))

pub shape_looped : (k : Span) (head : ForHead) (first : Span) (ls : Vec declared_line.Line Global) (last : Span) → shape_loop (roll-Loop (record { keyword = k; head = head; «open» = first; body = ls; close = last })) ≡ For k (shape_for head) first (lines_of ls.items) last
shape_looped k head first ls last =
    ap shape_loop (rolls-Loop' (record { keyword = k; head = head; «open» = first; body = ls; close = last }))
    ∙ ap (λ l. For k (shape_for head) first l last) (row_lines _ (hidden-the_row-Line-0 ls) ∙ ap lines_of (items_hidden-the_row-Line-0 ls))

-- the row of a block behind `else`
abbrev else_row : Otherwise → (n : Count) × Row_of-Line n
else_row (otherwise.Block' k first _ row last) = (_, row)
else_row _ = (_, end_of-Line)

pub shape_else_block : (k first : Span) (ls : Vec declared_line.Line Global) (last : Span) → shape_else (otherwise.Block k first ls last) ≡ ElseBlock k first (lines_of ls.items) last
shape_else_block k first ls last =
    let row = else_row (otherwise.Block k first ls last) in
    ap (λ l. ElseBlock k first l last) (row_lines row.0 row.1 ∙ ap lines_of (items_hidden-the_row-Line-0 ls))

-- the tree of an `if` is that of the list of its lines
pub shape_branched : (k : Span) (head : IfHead) (first : Span) (ls : Vec declared_line.Line Global) (last : Span) (other : Otherwise) → shape_branch (declared_branch.roll-Branch (record { keyword = k; head = head; «open» = first; «then» = ls; close = last; otherwise = other })) ≡ Branch k (shape_if head) first (lines_of ls.items) last (shape_else other)
shape_branched k head first ls last other =
    ap shape_branch (declared_branch.rolls-Branch' (record { keyword = k; head = head; «open» = first; «then» = ls; close = last; otherwise = other }))
    ∙ ap (λ l. Branch k (shape_if head) first l last (shape_else other)) (row_lines _ (hidden-the_row-Line-0 ls) ∙ ap lines_of (items_hidden-the_row-Line-0 ls))

-- the tree of an `if` that the program takes apart, by its fields
pub branch_parts : (b : declared_branch.Branch) → shape_branch b ≡ Branch (declared_branch.out-Branch b).keyword (shape_if (declared_branch.out-Branch b).head) (declared_branch.out-Branch b).«open» (lines_of (declared_branch.out-Branch b).«then».items) (declared_branch.out-Branch b).close (shape_else (declared_branch.out-Branch b).otherwise)
branch_parts b =
    let o = declared_branch.out-Branch b in
    ap shape_branch (declared_branch.is-Branch' b)
    ∙ ap (λ l. Branch o.keyword (shape_if o.head) o.«open» l o.close (shape_else o.otherwise)) (row_lines _ (hidden-the_row-Line-0 o.«then») ∙ ap lines_of (items_hidden-the_row-Line-0 o.«then»))

-- the trees of forms that the program takes apart

abbrev pub call_tree : CallExpr → ExprTree
call_tree c = Call (shape (out-CallExpr c).callee) (out-CallExpr c).«open» (items_of (out-CallExpr c).args.items) (out-CallExpr c).close

abbrev pub literal_tree : LiteralExpr → ExprTree
literal_tree l = Literal (out-LiteralExpr l).type_name (out-LiteralExpr l).«open» (items_of (out-LiteralExpr l).elements.items) (out-LiteralExpr l).close

abbrev pub struct_tree : StructLiteralExpr → ExprTree
struct_tree l = StructLiteral (shape_type (out-StructLiteralExpr l).type_expr) (out-StructLiteralExpr l).«open» (items_of (out-StructLiteralExpr l).elements.items) (out-StructLiteralExpr l).close

pub call_form : (e : Expr) (c : Box CallExpr) → e ≡ expr.Call c → shape e ≡ call_tree c.value
call_form e c is = ap shape is ∙ call_parts c.value

pub literal_form : (e : Expr) (l : Box LiteralExpr) → e ≡ expr.Literal l → shape e ≡ literal_tree l.value
literal_form e l is = ap shape is ∙ literal_parts l.value

pub struct_form : (e : Expr) (l : Box StructLiteralExpr) → e ≡ expr.StructLiteral l → shape e ≡ struct_tree l.value
struct_form e l is = ap shape is ∙ struct_literal_parts l.value

pub block_form : (s : Stmt) (first : Span) (ls : Vec declared_line.Line Global) (last : Span) → s ≡ stmt.Block first ls last → shape_stmt s ≡ Block first (lines_of ls.items) last
block_form s first ls last is = ap shape_stmt is ∙ shape_block first ls last

pub else_form : (o : Otherwise) (k first : Span) (ls : Vec declared_line.Line Global) (last : Span) → o ≡ otherwise.Block k first ls last → shape_else o ≡ ElseBlock k first (lines_of ls.items) last
else_form o k first ls last is = ap shape_else is ∙ shape_else_block k first ls last
