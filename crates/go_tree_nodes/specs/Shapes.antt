-- The trees that values of the program hold.
use Rattle.std.specs.Prelude.{List, [], ◌∷◌, Option, Some, None, map}
use Rattle.std.specs.Global.{Box}
use Rattle.go_token_core.specs.text_core.declared.span.Span.{Span}
use Rattle.go_tree_nodes.specs.declared.types.TypeExpr.{TypeExpr}
use Rattle.go_tree_nodes.specs.declared.exprs.Expr.{Expr}
use Rattle.go_tree_nodes.specs.declared.exprs.CallExpr.{CallExpr, CallExpr', Row_of-Item, end_of-Item, more_of-Item}
use Rattle.go_tree_nodes.specs.declared.exprs.LiteralExpr.{LiteralExpr, LiteralExpr'}
use Rattle.go_tree_nodes.specs.declared.exprs.StructLiteralExpr.{StructLiteralExpr, StructLiteralExpr'}
use Rattle.go_tree_nodes.specs.declared.exprs.Expr.TheVariants as expr
use Rattle.go_tree_nodes.specs.declared.exprs.«Item» as declared_item
use Rattle.go_tree_nodes.specs.declared.exprs.Key.{Key}
use Rattle.go_tree_nodes.specs.declared.exprs.Exprs.{Exprs}
use Rattle.go_tree_nodes.specs.declared.exprs.NextExpr.{NextExpr}
use Rattle.go_tree_nodes.specs.declared.decls.«Values».{«Values»}
use Rattle.go_tree_nodes.specs.declared.decls.ValueSpec.{ValueSpec}
use Rattle.go_tree_nodes.specs.declared.decls.ValueLine.{ValueLine}
use Rattle.go_tree_nodes.specs.declared.decls.ValueSpecs.{ValueSpecs}
use Rattle.go_tree_nodes.specs.declared.decls.ValueSpecs.TheVariants as value_specs
use Rattle.go_tree_nodes.specs.declared.decls.ValueDecl.{ValueDecl}
use Rattle.go_tree_nodes.specs.declared.decls.TypeSpec.{TypeSpec}
use Rattle.go_tree_nodes.specs.declared.decls.TypeLine.{TypeLine}
use Rattle.go_tree_nodes.specs.declared.decls.TypeSpecs.{TypeSpecs}
use Rattle.go_tree_nodes.specs.declared.decls.TypeSpecs.TheVariants as type_specs
use Rattle.go_tree_nodes.specs.declared.decls.TypeDecl.{TypeDecl}
use Rattle.go_tree_nodes.specs.declared.stmts.«Simple» as declared_simple
use Rattle.go_tree_nodes.specs.declared.stmts.«Simple».TheVariants as simple
use Rattle.go_tree_nodes.specs.declared.stmts.IfHead.{IfHead}
use Rattle.go_tree_nodes.specs.declared.stmts.InitPart.{InitPart}
use Rattle.go_tree_nodes.specs.declared.stmts.ForHead.{ForHead}
use Rattle.go_tree_nodes.specs.declared.stmts.ForHead.TheVariants as for_head
use Rattle.go_tree_nodes.specs.declared.stmts.Stmt.{Stmt, Row_of-Line, end_of-Line, more_of-Line}
use Rattle.go_tree_nodes.specs.declared.stmts.Stmt.TheVariants as stmt
use Rattle.go_tree_nodes.specs.declared.stmts.«Branch» as declared_branch
use Rattle.go_tree_nodes.specs.declared.stmts.Loop.{Loop, Loop'}
use Rattle.go_tree_nodes.specs.declared.stmts.Otherwise.{Otherwise}
use Rattle.go_tree_nodes.specs.declared.stmts.Otherwise.TheVariants as otherwise
use Rattle.go_tree_nodes.specs.declared.stmts.«Line» as declared_line
use Rattle.go_tree_nodes.specs.declared.files.FuncDecl.{FuncDecl}
use Rattle.go_tree_nodes.specs.declared.files.Decl.{Decl}
use Rattle.go_tree_nodes.specs.declared.files.Decl.TheVariants as decl
use Rattle.go_tree_nodes.specs.declared.files.TopDecl.{TopDecl}
use Rattle.go_tree_nodes.specs.declared.files.ImportSpec.{ImportSpec}
use Rattle.go_tree_nodes.specs.declared.files.ImportLine.{ImportLine}
use Rattle.go_tree_nodes.specs.declared.files.ImportSpecs.{ImportSpecs}
use Rattle.go_tree_nodes.specs.declared.files.ImportSpecs.TheVariants as import_specs
use Rattle.go_tree_nodes.specs.declared.files.ImportDecl.{ImportDecl}
use Rattle.go_tree_nodes.specs.declared.files.File.{File}
use Rattle.go_tree_nodes.specs.Trees.{Separated, One, Then, TypeTree, ExprTree, ItemTrees, Integer, Text, Named, Paren, Unary, Binary, Select, Call, Literal, StructLiteral, NoItems, Item, ValueSpecTree, Specs, Single, Group, ValueTree, TypeSpecTree, TypeDeclTree, SimpleTree, Alone, Step, Assign, Update, Define, IfTree, ForTree, Forever, While, Clauses, StmtTree, BranchTree, ElseTree, Lines, Empty, Declare, Simple, Return, Break, Continue, Block, If, For, Branch, NoElse, ElseBlock, ElseIf, NoLines, Line, FuncTree, DeclTree, Value, Types, Func, TopTree, ImportSpecTree, ImportTree, FileTree}
use Rattle.go_tree_nodes.specs.TypeShapes.{shape_idents, shape_type, shape_signature}

-- expressions

-- a key is in a box
abbrev pub shape_key : Option (Box Key) → Option Key
shape_key None = None
shape_key (Some k) = Some k.value

abbrev mutual
  pub shape : Expr → ExprTree
  shape (expr.Integer n span) = Integer n span
  shape (expr.Text t) = Text t
  shape (expr.Name x) = Named x
  shape (expr.Paren' first _ e last) = Paren first (shape e) last
  shape (expr.Unary' op span _ e) = Unary op span (shape e)
  shape (expr.Binary' _ a op span b) = Binary (shape a) op span (shape b)
  shape (expr.Select' _ e dot x) = Select (shape e) dot x
  shape (expr.Call' _ c) = shape_call c
  shape (expr.Literal' _ l) = shape_literal l
  shape (expr.StructLiteral' _ l) = shape_struct_literal l

  pub shape_call : CallExpr → ExprTree
  shape_call (CallExpr' e first _ row last) = Call (shape e) first (shape_items row) last

  pub shape_literal : LiteralExpr → ExprTree
  shape_literal (LiteralExpr' n first _ row last) = Literal n first (shape_items row) last

  pub shape_struct_literal : StructLiteralExpr → ExprTree
  shape_struct_literal (StructLiteralExpr' t first _ row last) = StructLiteral (shape_type t) first (shape_items row) last

  pub shape_items : {n : _} → Row_of-Item n → ItemTrees
  shape_items end_of-Item = NoItems
  shape_items (more_of-Item key e comma rest) = Item (shape_key key) (shape e) comma (shape_items rest)

abbrev pub items_of : List declared_item.Item → ItemTrees
items_of [] = NoItems
items_of (i ∷ is) = Item (shape_key i.key) (shape i.value) i.comma (items_of is)

abbrev pub exprs_from : Expr → List NextExpr → Separated ExprTree
exprs_from e [] = One (shape e)
exprs_from e (n ∷ ns) = Then (shape e) n.comma (exprs_from n.expr ns)

abbrev pub shape_exprs : Exprs → Separated ExprTree
shape_exprs es = exprs_from es.first es.more.items

abbrev pub shape_some_expr : Option Expr → Option ExprTree
shape_some_expr None = None
shape_some_expr (Some e) = Some (shape e)

abbrev pub shape_some_exprs : Option (Box Exprs) → Option (Separated ExprTree)
shape_some_exprs None = None
shape_some_exprs (Some es) = Some (shape_exprs es.value)

-- declarations of constants, variables and types

abbrev pub shape_some_type : Option TypeExpr → Option TypeTree
shape_some_type None = None
shape_some_type (Some t) = Some (shape_type t)

abbrev pub shape_values : Option «Values» → Option (Span × Separated ExprTree)
shape_values None = None
shape_values (Some v) = Some (v.assign, shape_exprs v.exprs)

abbrev pub shape_value_spec : ValueSpec → ValueSpecTree
shape_value_spec v = record { names = shape_idents v.names; type_expr = shape_some_type v.type_expr; values = shape_values v.values }

abbrev pub shape_value_line : ValueLine → ValueSpecTree × Option Span
shape_value_line l = (shape_value_spec l.spec, l.semicolon)

abbrev pub shape_value_specs : ValueSpecs → Specs ValueSpecTree
shape_value_specs (value_specs.One v) = Single (shape_value_spec v)
shape_value_specs (value_specs.Group first ls last) = Group first (map shape_value_line ls.items) last

abbrev pub shape_value : ValueDecl → ValueTree
shape_value v = record { kind = v.kind; keyword = v.keyword; specs = shape_value_specs v.specs }

abbrev pub shape_type_spec : TypeSpec → TypeSpecTree
shape_type_spec t = record { name = t.name; alias = t.alias; type_expr = shape_type t.type_expr }

abbrev pub shape_type_line : TypeLine → TypeSpecTree × Option Span
shape_type_line l = (shape_type_spec l.spec, l.semicolon)

abbrev pub shape_type_specs : TypeSpecs → Specs TypeSpecTree
shape_type_specs (type_specs.One t) = Single (shape_type_spec t)
shape_type_specs (type_specs.Group first ls last) = Group first (map shape_type_line ls.items) last

abbrev pub shape_type_decl : TypeDecl → TypeDeclTree
shape_type_decl t = record { keyword = t.keyword; specs = shape_type_specs t.specs }

-- statements

abbrev pub shape_simple : declared_simple.Simple → SimpleTree
shape_simple (simple.Expr e) = Alone (shape e)
shape_simple (simple.Step e op span) = Step (shape e.value) op span
shape_simple (simple.Assign a) = Assign (shape_exprs a.value.targets) a.value.assign (shape_exprs a.value.values)
shape_simple (simple.Update u) = Update (shape u.value.target) u.value.operator u.value.span (shape u.value.value)
shape_simple (simple.Define d) = Define (shape_idents d.value.names) d.value.define (shape_exprs d.value.values)

abbrev pub shape_some_simple : Option declared_simple.Simple → Option SimpleTree
shape_some_simple None = None
shape_some_simple (Some s) = Some (shape_simple s)

abbrev pub shape_init : Option InitPart → Option (Option SimpleTree × Span)
shape_init None = None
shape_init (Some i) = Some (shape_some_simple i.simple, i.semicolon)

abbrev pub shape_if : IfHead → IfTree
shape_if h = record { init = shape_init h.init; condition = shape h.condition }

abbrev pub shape_for : ForHead → ForTree
shape_for for_head.Forever = Forever
shape_for (for_head.While e) = While (shape e)
shape_for (for_head.Clauses init a test b post) = Clauses (shape_some_simple init) a (shape_some_expr test) b (shape_some_simple post)

abbrev mutual
  pub shape_stmt : Stmt → StmtTree
  shape_stmt stmt.Empty = Empty
  shape_stmt (stmt.Declare v) = Declare (shape_value v.value)
  shape_stmt (stmt.Simple s) = Simple (shape_simple s)
  shape_stmt (stmt.Return s es) = Return s (shape_some_exprs es)
  shape_stmt (stmt.Break s) = Break s
  shape_stmt (stmt.Continue s) = Continue s
  shape_stmt (stmt.Block' first _ row last) = Block first (shape_row row) last
  shape_stmt (stmt.If' _ b) = If (shape_branch b)
  shape_stmt (stmt.For' _ l) = shape_loop l

  pub shape_loop : Loop → StmtTree
  shape_loop (Loop' k head first _ row last) = For k (shape_for head) first (shape_row row) last

  pub shape_branch : declared_branch.Branch → BranchTree
  shape_branch (declared_branch.Branch' k head first _ row last other) = Branch k (shape_if head) first (shape_row row) last (shape_else other)

  pub shape_else : Otherwise → ElseTree
  shape_else otherwise.Nothing = NoElse
  shape_else (otherwise.Block' k first _ row last) = ElseBlock k first (shape_row row) last
  shape_else (otherwise.If' k _ b) = ElseIf k (shape_branch b)

  pub shape_row : {n : _} → Row_of-Line n → Lines
  shape_row end_of-Line = NoLines
  shape_row (more_of-Line s semicolon rest) = Line (shape_stmt s) semicolon (shape_row rest)

-- the lines of a list before more lines
abbrev pub lines_front : List declared_line.Line → Lines → Lines
lines_front [] more = more
lines_front (l ∷ ls) more = Line (shape_stmt l.stmt) l.semicolon (lines_front ls more)

abbrev pub lines_of : List declared_line.Line → Lines
lines_of ls = lines_front ls NoLines

-- functions, imports and files

abbrev pub func_of : FuncDecl → FuncTree
func_of f = record { func = f.func; receiver = f.receiver; name = f.name; signature = shape_signature f.signature; open_brace = f.open_brace; body = lines_of f.body.items; close_brace = f.close_brace }

abbrev pub decl_of : Decl → DeclTree
decl_of (decl.Value v) = Value (shape_value v)
decl_of (decl.«Type» t) = Types (shape_type_decl t)
decl_of (decl.Func f) = Func (func_of f)

abbrev pub top_of : TopDecl → TopTree
top_of d = record { decl = decl_of d.decl; semicolon = d.semicolon }

abbrev pub shape_import_spec : ImportSpec → ImportSpecTree
shape_import_spec i = record { name = i.name; path = i.path }

abbrev pub shape_import_line : ImportLine → ImportSpecTree × Option Span
shape_import_line l = (shape_import_spec l.spec, l.semicolon)

abbrev pub shape_import_specs : ImportSpecs → Specs ImportSpecTree
shape_import_specs (import_specs.One i) = Single (shape_import_spec i)
shape_import_specs (import_specs.Group first ls last) = Group first (map shape_import_line ls.items) last

abbrev pub import_of : ImportDecl → ImportTree
import_of i = record { keyword = i.keyword; specs = shape_import_specs i.specs; semicolon = i.semicolon }

abbrev pub file_of : File → FileTree
file_of f = record { clause = f.clause; name = f.name; semicolon = f.semicolon; imports = map import_of f.imports.items; decls = map top_of f.decls.items }
