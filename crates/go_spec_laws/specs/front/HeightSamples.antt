-- Parts of trees whose heights are counted by hand. Where a part stands in a text does not count for its height: each stands at 0.
use Rattle.std.specs.Prelude.{List, [], ◌∷◌, Some, None, codes}
use Rattle.go_tree_nodes.specs.token_core.declared.kind.Operator.{Operator}
use Rattle.go_tree_nodes.specs.declared.decls.ValueKind.{ValueKind}
use Rattle.go_tree_nodes.specs.declared.decls.ValueKind.TheVariants as value_kinds
use Rattle.go_tree_nodes.specs.declared.files.Receiver.{Receiver}
use Rattle.go_tree_nodes.specs.declared.types.TypeName.{TypeName}
use Rattle.go_tree_nodes.specs.declared.types.TypeName.TheVariants as type_names
use Rattle.go_tree_nodes.specs.Samples.{at, called, int_at, name_at, type_at, type_spec_of, alias_of}
use Rattle.go_tree_nodes.specs.Trees as tree
use Rattle.go_tree_nodes.specs.Trees.{One, TypeTree, Pointer, Struct, Interface, FieldTrees, NoFields, NamedFields, EmbeddedField, NoMethods, Method, SignatureTree, Signed, ResultTree, NoResult, OneResult, ParamTrees, NoParams, Param, ExprTree, Integer, Paren, Binary, Select, Call, Literal, StructLiteral, ItemTrees, NoItems, Item, Single, Group, SimpleTree, Alone, Define, While, Forever, Clauses, StmtTree, Block, If, For, Return, BranchTree, Branch, ElseTree, NoElse, ElseBlock, ElseIf, Lines, NoLines, Line, DeclTree, Types, Func, FileTree}

-- ---- expressions

-- x
abbrev pub x_name : ExprTree
x_name = name_at (codes "x") 0

-- y
abbrev pub y_name : ExprTree
y_name = name_at (codes "y") 0

-- f
abbrev pub f_name : ExprTree
f_name = name_at (codes "f") 0

-- T, as the name of a type
abbrev pub t_type_name : TypeName
t_type_name = type_names.Plain (called (codes "T") 0)

-- 1
abbrev pub number_one : ExprTree
number_one = Integer 1 (at 0)

-- (e)
abbrev pub in_parens : ExprTree → ExprTree
in_parens e = Paren (at 0) e (at 0)

-- a op b
abbrev pub joined_by : Operator → ExprTree → ExprTree → ExprTree
joined_by op a b = Binary a op (at 0) b

-- e.x
abbrev pub selected_of : ExprTree → ExprTree
selected_of e = Select e (at 0) (called (codes "x") 0)

-- arguments or elements without keys
abbrev pub items_of : List ExprTree → ItemTrees
items_of [] = NoItems
items_of (e ∷ es) = Item None e None (items_of es)

-- g( .. )
abbrev pub call_of : ExprTree → List ExprTree → ExprTree
call_of g es = Call g (at 0) (items_of es) (at 0)

-- g(e)
abbrev pub call_with : ExprTree → ExprTree → ExprTree
call_with g e = call_of g (e ∷ [])

-- T{ .. }
abbrev pub literal_of : List ExprTree → ExprTree
literal_of es = Literal t_type_name (at 0) (items_of es) (at 0)

-- struct { .. }{ .. }, of these fields and elements
abbrev pub struct_literal_of : FieldTrees → List ExprTree → ExprTree
struct_literal_of fields es = StructLiteral (Struct (at 0) (at 0) fields (at 0)) (at 0) (items_of es) (at 0)

-- ---- types

-- *t
abbrev pub pointer_to : TypeTree → TypeTree
pointer_to t = Pointer (at 0) t

-- struct { .. }
abbrev pub struct_of : FieldTrees → TypeTree
struct_of fields = Struct (at 0) (at 0) fields (at 0)

-- x t, as the one field
abbrev pub one_field : TypeTree → FieldTrees
one_field t = NamedFields (One (called (codes "x") 0)) t None None NoFields

-- *T, as the one field, embedded
abbrev pub embedded_pointer : FieldTrees
embedded_pointer = EmbeddedField (Some (at 0)) t_type_name None None NoFields

-- (x t)
abbrev pub one_param : TypeTree → ParamTrees
one_param t = Param (Some (One (called (codes "x") 0))) t None NoParams

-- () and no result
abbrev pub plain_signature : SignatureTree
plain_signature = Signed (at 0) NoParams (at 0) NoResult

-- (x *int) T
abbrev pub pointer_signature : SignatureTree
pointer_signature = Signed (at 0) (one_param (pointer_to (int_at 0))) (at 0) (OneResult (type_at (codes "T") 0))

-- interface { m(x *int) T }
abbrev pub one_method : TypeTree
one_method = Interface (at 0) (at 0) (Method (called (codes "m") 0) pointer_signature None NoMethods) (at 0)

-- ---- statements

-- statements one behind another
abbrev pub lines_of : List StmtTree → Lines
lines_of [] = NoLines
lines_of (c ∷ cs) = Line c (Some (at 0)) (lines_of cs)

-- { .. }
abbrev pub block_of : List StmtTree → StmtTree
block_of cs = Block (at 0) (lines_of cs) (at 0)

-- return e
abbrev pub return_of : ExprTree → StmtTree
return_of e = Return (at 0) (Some (One e))

-- if e { .. }, and what stands behind it
abbrev pub branch_of : ExprTree → List StmtTree → ElseTree → BranchTree
branch_of e cs otherwise = Branch (at 0) (record { init = None; condition = e }) (at 0) (lines_of cs) (at 0) otherwise

-- if s; e { .. }
abbrev pub branch_after : SimpleTree → ExprTree → List StmtTree → BranchTree
branch_after s e cs = Branch (at 0) (record { init = Some (Some s, at 0); condition = e }) (at 0) (lines_of cs) (at 0) NoElse

-- x := e
abbrev pub defined_as : ExprTree → SimpleTree
defined_as e = Define (One (called (codes "x") 0)) (at 0) (One e)

-- for e { .. }
abbrev pub while_of : ExprTree → List StmtTree → StmtTree
while_of e cs = For (at 0) (While e) (at 0) (lines_of cs) (at 0)

-- for { .. }
abbrev pub forever_of : List StmtTree → StmtTree
forever_of cs = For (at 0) Forever (at 0) (lines_of cs) (at 0)

-- for x := e; ; { }
abbrev pub counted_of : ExprTree → StmtTree
counted_of e = For (at 0) (Clauses (Some (defined_as e)) (at 0) None (at 0) None) (at 0) NoLines (at 0)

-- ---- declarations

-- x = e, behind the keyword of its kind
abbrev pub value_of : ValueKind → ExprTree → tree.ValueTree
value_of kind e = record { kind = kind; keyword = at 0; specs = Single (record { names = One (called (codes "x") 0); type_expr = None; values = Some (at 0, One e) }) }

-- const x = e
abbrev pub const_of : ExprTree → DeclTree
const_of e = tree.Value (value_of value_kinds.Const e)

-- var x = e
abbrev pub var_of : ExprTree → DeclTree
var_of e = tree.Value (value_of value_kinds.Var e)

-- type ( T t; T u )
abbrev pub two_types : TypeTree → TypeTree → DeclTree
two_types t u = Types (record { keyword = at 0; specs = Group (at 0) ((type_spec_of (called (codes "T") 0) t, Some (at 0)) ∷ ((type_spec_of (called (codes "T") 0) u, None) ∷ [])) (at 0) })

-- type A = T
abbrev pub alias_decl : DeclTree
alias_decl = Types (record { keyword = at 0; specs = Single (alias_of (called (codes "A") 0) 0 (type_at (codes "T") 0)) })

-- func f() { .. }
abbrev pub func_of : List StmtTree → DeclTree
func_of cs = Func (record { func = at 0; receiver = None; name = called (codes "f") 0; signature = plain_signature; open_brace = at 0; body = lines_of cs; close_brace = at 0 })

-- (x *T), before the name of a method
abbrev pub pointer_receiver : Receiver
pointer_receiver = record { open_paren = at 0; name = Some (called (codes "x") 0); star = Some (at 0); base = t_type_name; comma = None; close_paren = at 0 }

-- func (x *T) m() { }
abbrev pub method_of_pointer : DeclTree
method_of_pointer = Func (record { func = at 0; receiver = Some pointer_receiver; name = called (codes "m") 0; signature = plain_signature; open_brace = at 0; body = NoLines; close_brace = at 0 })

-- func f(x *int) T { }
abbrev pub func_of_pointer : DeclTree
func_of_pointer = Func (record { func = at 0; receiver = None; name = called (codes "f") 0; signature = pointer_signature; open_brace = at 0; body = NoLines; close_brace = at 0 })

-- declarations one behind another
abbrev pub tops_of : List DeclTree → List tree.TopTree
tops_of [] = []
tops_of (d ∷ ds) = record { decl = d; semicolon = at 0 } ∷ tops_of ds

-- a file of these declarations
abbrev pub file_of_decls : List DeclTree → FileTree
file_of_decls ds = record { clause = at 0; name = called (codes "p") 0; semicolon = at 0; imports = []; decls = tops_of ds }
