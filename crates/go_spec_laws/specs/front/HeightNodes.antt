-- The nodes of a tree, and those that stand right below each.
--
-- The Go specification, "Types", "Expressions", "Statements", "Blocks", "Declarations and scope".
use Rattle.std.specs.Prelude.{List, [], ◌∷◌, ◌++◌, map, Option, Some, None}
use Rattle.go_denote_core.specs.text_core.declared.span.Span.{Span}
use Rattle.go_tree_nodes.specs.declared.files.Receiver.{Receiver}
use Rattle.go_tree_nodes.specs.declared.types.TypeName.{TypeName}
use Rattle.go_tree_nodes.specs.Trees.{Separated, One, Then, TypeTree, FieldTrees, MethodTrees, SignatureTree, ResultTree, ParamTrees, NamedType, Pointer, ParenType, Struct, Interface, NoFields, NamedFields, EmbeddedField, NoMethods, Method, Signed, NoResult, OneResult, Results, NoParams, Param, ExprTree, ItemTrees, Integer, Text, Named, Paren, Unary, Binary, Select, Call, Literal, StructLiteral, NoItems, Item, ValueSpecTree, ValueTree, TypeDeclTree, SimpleTree, Alone, Step, Assign, Update, Define, ForTree, Forever, While, Clauses, StmtTree, BranchTree, ElseTree, Lines, Empty, Declare, Simple, Return, Break, Continue, Block, If, For, Branch, NoElse, ElseBlock, ElseIf, NoLines, Line, FuncTree, DeclTree, Value, Types, Func, FileTree, of_specs}

-- a node of a tree
pub data Node : Type 0 where
  -- a type: a name with or without its package, a pointer, a pair of parentheses, a struct or an interface type
  TypeNode : TypeTree → Node
  -- an expression
  ExprNode : ExprTree → Node
  -- a declaration of constants or variables, of types, or of a function
  ValueNode : ValueTree → Node
  TypesNode : TypeDeclTree → Node
  FuncNode : FuncTree → Node
  -- a simple statement, also in a header
  SimpleNode : SimpleTree → Node
  -- a statement that has no parts: an empty one, `break`, `continue`
  LoneNode : Node
  -- `return`, with what it returns
  ReturnNode : Option (Separated ExprTree) → Node
  -- a block: a statement, that of an `if`, an `else` or a `for`, or a function's body
  BlockNode : Lines → Node
  -- an `if`
  IfNode : BranchTree → Node
  -- a `for`, with its header and the statements of its block
  ForNode : ForTree → Lines → Node

-- ---- types

-- the name of a type, where no more than a name may stand
abbrev pub name_node : TypeName → Node
name_node n = TypeNode (NamedType n)

-- the types of parameters
abbrev pub params_nodes : ParamTrees → List Node
params_nodes NoParams = []
params_nodes (Param xs t comma rest) = TypeNode t ∷ params_nodes rest

-- the types of results
abbrev pub result_nodes : ResultTree → List Node
result_nodes NoResult = []
result_nodes (OneResult t) = TypeNode t ∷ []
result_nodes (Results first params last) = params_nodes params

-- the types of parameters, and then those of results
abbrev pub signature_nodes : SignatureTree → List Node
signature_nodes (Signed first params last result) = params_nodes params ++ result_nodes result

-- the types in the methods of an interface type
abbrev pub methods_nodes : MethodTrees → List Node
methods_nodes NoMethods = []
methods_nodes (Method x signature s rest) = signature_nodes signature ++ methods_nodes rest

-- the types of the fields of a struct type; the star of an embedded field is no node
abbrev pub fields_nodes : FieldTrees → List Node
fields_nodes NoFields = []
fields_nodes (NamedFields xs t tag s rest) = TypeNode t ∷ fields_nodes rest
fields_nodes (EmbeddedField star n tag s rest) = name_node n ∷ fields_nodes rest

-- right below a type
abbrev pub type_below : TypeTree → List Node
type_below (NamedType n) = []
type_below (Pointer star t) = TypeNode t ∷ []
type_below (ParenType first t last) = TypeNode t ∷ []
type_below (Struct k first fields last) = fields_nodes fields
type_below (Interface k first methods last) = methods_nodes methods

-- ---- expressions

-- arguments or elements; their keys are no nodes
abbrev pub items_nodes : ItemTrees → List Node
items_nodes NoItems = []
items_nodes (Item key t comma rest) = ExprNode t ∷ items_nodes rest

-- expressions with commas between them
abbrev pub exprs_nodes : Separated ExprTree → List Node
exprs_nodes (One t) = ExprNode t ∷ []
exprs_nodes (Then t comma more) = ExprNode t ∷ exprs_nodes more

-- right below an expression; the type of a composite literal is below it
abbrev pub expr_below : ExprTree → List Node
expr_below (Integer n span) = []
expr_below (Text t) = []
expr_below (Named x) = []
expr_below (Paren first t last) = ExprNode t ∷ []
expr_below (Unary op span t) = ExprNode t ∷ []
expr_below (Binary a op span b) = ExprNode a ∷ (ExprNode b ∷ [])
expr_below (Select t dot x) = ExprNode t ∷ []
expr_below (Call t first items last) = ExprNode t ∷ items_nodes items
expr_below (Literal n first items last) = name_node n ∷ items_nodes items
expr_below (StructLiteral t first items last) = TypeNode t ∷ items_nodes items

-- ---- declarations

-- the type of a specification, where it has one
abbrev pub some_type_nodes : Option TypeTree → List Node
some_type_nodes None = []
some_type_nodes (Some t) = TypeNode t ∷ []

-- the values of a specification, where it has some
abbrev pub values_nodes : Option (Span × Separated ExprTree) → List Node
values_nodes None = []
values_nodes (Some v) = exprs_nodes v.1

-- the type and the values of a specification
abbrev pub value_spec_nodes : ValueSpecTree → List Node
value_spec_nodes v = some_type_nodes v.type_expr ++ values_nodes v.values

-- right below a declaration of constants or variables: specifications are no nodes
abbrev pub value_below : ValueTree → List Node
value_below v = of_specs value_spec_nodes v.specs

-- right below a declaration of types
abbrev pub types_below : TypeDeclTree → List Node
types_below t = of_specs (λ s. TypeNode s.type_expr ∷ []) t.specs

-- the type of a receiver, whose star is no node
abbrev pub receiver_nodes : Option Receiver → List Node
receiver_nodes None = []
receiver_nodes (Some r) = name_node r.base ∷ []

-- right below a declaration of a function
abbrev pub func_below : FuncTree → List Node
func_below f = receiver_nodes f.receiver ++ (signature_nodes f.signature ++ BlockNode f.body ∷ [])

-- ---- statements

-- right below a simple statement; the names left of `:=` are no nodes
abbrev pub simple_below : SimpleTree → List Node
simple_below (Alone t) = ExprNode t ∷ []
simple_below (Step t op span) = ExprNode t ∷ []
simple_below (Assign ts span es) = exprs_nodes ts ++ exprs_nodes es
simple_below (Update t op span e) = ExprNode t ∷ (ExprNode e ∷ [])
simple_below (Define xs span es) = exprs_nodes es

-- what is returned, where something is
abbrev pub return_below : Option (Separated ExprTree) → List Node
return_below None = []
return_below (Some es) = exprs_nodes es

-- a simple statement of a header, where one stands
abbrev pub some_simple_nodes : Option SimpleTree → List Node
some_simple_nodes None = []
some_simple_nodes (Some s) = SimpleNode s ∷ []

-- a condition, where one stands
abbrev pub some_expr_nodes : Option ExprTree → List Node
some_expr_nodes None = []
some_expr_nodes (Some t) = ExprNode t ∷ []

-- the statement before the condition of an `if`, where one stands
abbrev pub init_nodes : Option (Option SimpleTree × Span) → List Node
init_nodes None = []
init_nodes (Some i) = some_simple_nodes i.0

-- what stands behind `else`: a block, or an `if` inside the `if`
abbrev pub else_nodes : ElseTree → List Node
else_nodes NoElse = []
else_nodes (ElseBlock k first ls last) = BlockNode ls ∷ []
else_nodes (ElseIf k b) = IfNode b ∷ []

-- right below an `if`
abbrev pub if_below : BranchTree → List Node
if_below (Branch k head first ls last otherwise) = init_nodes head.init ++ ExprNode head.condition ∷ (BlockNode ls ∷ else_nodes otherwise)

-- what stands in the header of a `for`
abbrev pub for_nodes : ForTree → List Node
for_nodes Forever = []
for_nodes (While t) = ExprNode t ∷ []
for_nodes (Clauses init a test b post) = some_simple_nodes init ++ (some_expr_nodes test ++ some_simple_nodes post)

-- the node that a statement is: a declaration and a block that stand as statements are one node, and not two
abbrev pub stmt_node : StmtTree → Node
stmt_node Empty = LoneNode
stmt_node (Declare v) = ValueNode v
stmt_node (Simple s) = SimpleNode s
stmt_node (Return s es) = ReturnNode es
stmt_node (Break s) = LoneNode
stmt_node (Continue s) = LoneNode
stmt_node (Block first ls last) = BlockNode ls
stmt_node (If b) = IfNode b
stmt_node (For k head first ls last) = ForNode head ls

-- the statements of a block
abbrev pub lines_nodes : Lines → List Node
lines_nodes NoLines = []
lines_nodes (Line c s rest) = stmt_node c ∷ lines_nodes rest

-- ---- files

-- the node that a declaration of the package block is
abbrev pub decl_node : DeclTree → Node
decl_node (Value v) = ValueNode v
decl_node (Types t) = TypesNode t
decl_node (Func f) = FuncNode f

-- the declarations of the package block; the package clause and the imports are no nodes
abbrev pub file_nodes : FileTree → List Node
file_nodes f = map (λ d. decl_node d.decl) f.decls

-- the nodes that stand right below a node
abbrev pub nodes_below : Node → List Node
nodes_below (TypeNode t) = type_below t
nodes_below (ExprNode t) = expr_below t
nodes_below (ValueNode v) = value_below v
nodes_below (TypesNode t) = types_below t
nodes_below (FuncNode f) = func_below f
nodes_below (SimpleNode s) = simple_below s
nodes_below LoneNode = []
nodes_below (ReturnNode es) = return_below es
nodes_below (BlockNode ls) = lines_nodes ls
nodes_below (IfNode b) = if_below b
nodes_below (ForNode head ls) = for_nodes head ++ BlockNode ls ∷ []
