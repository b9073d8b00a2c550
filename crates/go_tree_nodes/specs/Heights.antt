-- How high a tree is: the declarations, types, expressions, statements and blocks on its longest path.
use Rattle.std.specs.Prelude.{ℕ, ◌+◌, max, List, [], ◌∷◌, Option, Some, None}
use Rattle.go_token_core.specs.text_core.declared.span.Span.{Span}
use Rattle.go_tree_nodes.specs.Trees.{Separated, One, Then, TypeTree, FieldTrees, MethodTrees, SignatureTree, ResultTree, ParamTrees, NamedType, Pointer, ParenType, Struct, Interface, NoFields, NamedFields, EmbeddedField, NoMethods, Method, Signed, NoResult, OneResult, Results, NoParams, Param, ExprTree, ItemTrees, Integer, Text, Named, Paren, Unary, Binary, Select, Call, Literal, StructLiteral, NoItems, Item, ValueSpecTree, Specs, Single, Group, ValueTree, TypeSpecTree, TypeDeclTree, SimpleTree, Alone, Step, Assign, Update, Define, IfTree, ForTree, Forever, While, Clauses, StmtTree, BranchTree, ElseTree, Lines, Empty, Declare, Simple, Return, Break, Continue, Block, If, For, Branch, NoElse, ElseBlock, ElseIf, NoLines, Line, DeclTree, Value, Types, Func, TopTree, FileTree}

-- a type's name is one node, with or without a package; stars of receivers and embedded fields are none
abbrev mutual
  pub type_height : TypeTree → ℕ
  type_height (NamedType n) = 1
  type_height (Pointer star t) = type_height t + 1
  type_height (ParenType first t last) = type_height t + 1
  type_height (Struct k first fields last) = fields_height fields + 1
  type_height (Interface k first methods last) = methods_height methods + 1

  pub fields_height : FieldTrees → ℕ
  fields_height NoFields = 0
  fields_height (NamedFields xs t tag s rest) = max (type_height t) (fields_height rest)
  fields_height (EmbeddedField star n tag s rest) = max 1 (fields_height rest)

  pub methods_height : MethodTrees → ℕ
  methods_height NoMethods = 0
  methods_height (Method x signature s rest) = max (signature_height signature) (methods_height rest)

  pub signature_height : SignatureTree → ℕ
  signature_height (Signed first params last result) = max (params_height params) (result_height result)

  pub result_height : ResultTree → ℕ
  result_height NoResult = 0
  result_height (OneResult t) = type_height t
  result_height (Results first params last) = params_height params

  pub params_height : ParamTrees → ℕ
  params_height NoParams = 0
  params_height (Param xs t comma rest) = max (type_height t) (params_height rest)

-- the type of a literal is a node
abbrev mutual
  pub height : ExprTree → ℕ
  height (Integer n span) = 1
  height (Text t) = 1
  height (Named x) = 1
  height (Paren first t last) = height t + 1
  height (Unary op span t) = height t + 1
  height (Binary a op span b) = max (height a) (height b) + 1
  height (Select t dot x) = height t + 1
  height (Call t first items last) = max (height t) (items_height items) + 1
  height (Literal n first items last) = max 1 (items_height items) + 1
  height (StructLiteral t first items last) = max (type_height t) (items_height items) + 1

  pub items_height : ItemTrees → ℕ
  items_height NoItems = 0
  items_height (Item key t comma rest) = max (height t) (items_height rest)

abbrev pub exprs_height : Separated ExprTree → ℕ
exprs_height (One t) = height t
exprs_height (Then t comma more) = max (height t) (exprs_height more)

abbrev pub some_type_height : Option TypeTree → ℕ
some_type_height None = 0
some_type_height (Some t) = type_height t

abbrev pub values_height : Option (Span × Separated ExprTree) → ℕ
values_height None = 0
values_height (Some v) = exprs_height v.1

abbrev pub value_spec_height : ValueSpecTree → ℕ
value_spec_height v = max (some_type_height v.type_expr) (values_height v.values)

abbrev pub group_height : {A : Type 0} → (A → ℕ) → List (A × Option Span) → ℕ
group_height f [] = 0
group_height f (x ∷ xs) = max (f x.0) (group_height f xs)

abbrev pub specs_height : {A : Type 0} → (A → ℕ) → Specs A → ℕ
specs_height f (Single x) = f x
specs_height f (Group first xs last) = group_height f xs

-- a declaration is one node, also where it stands as a statement
abbrev pub value_height : ValueTree → ℕ
value_height v = specs_height value_spec_height v.specs + 1

abbrev pub type_spec_height : TypeSpecTree → ℕ
type_spec_height t = type_height t.type_expr

abbrev pub types_height : TypeDeclTree → ℕ
types_height t = specs_height type_spec_height t.specs + 1

-- a simple statement in a header is a node
abbrev pub simple_height : SimpleTree → ℕ
simple_height (Alone t) = height t + 1
simple_height (Step t op span) = height t + 1
simple_height (Assign ts span es) = max (exprs_height ts) (exprs_height es) + 1
simple_height (Update t op span e) = max (height t) (height e) + 1
simple_height (Define xs span es) = exprs_height es + 1

abbrev pub some_simple_height : Option SimpleTree → ℕ
some_simple_height None = 0
some_simple_height (Some s) = simple_height s

abbrev pub some_expr_height : Option ExprTree → ℕ
some_expr_height None = 0
some_expr_height (Some t) = height t

abbrev pub init_height : Option (Option SimpleTree × Span) → ℕ
init_height None = 0
init_height (Some i) = some_simple_height i.0

abbrev pub if_height : IfTree → ℕ
if_height h = max (init_height h.init) (height h.condition)

abbrev pub for_height : ForTree → ℕ
for_height Forever = 0
for_height (While t) = height t
for_height (Clauses init a test b post) = max (some_simple_height init) (max (some_expr_height test) (some_simple_height post))

abbrev pub some_exprs_height : Option (Separated ExprTree) → ℕ
some_exprs_height None = 0
some_exprs_height (Some es) = exprs_height es

-- a block that stands as a statement is one node; the blocks of an `if` and a `for` are a node each
abbrev mutual
  pub stmt_height : StmtTree → ℕ
  stmt_height Empty = 1
  stmt_height (Declare v) = value_height v
  stmt_height (Simple s) = simple_height s
  stmt_height (Return s es) = some_exprs_height es + 1
  stmt_height (Break s) = 1
  stmt_height (Continue s) = 1
  stmt_height (Block first ls last) = lines_height ls + 1
  stmt_height (If b) = branch_height b
  stmt_height (For k head first ls last) = max (for_height head) (lines_height ls + 1) + 1

  -- `else if` is an `if` inside the `if`
  pub branch_height : BranchTree → ℕ
  branch_height (Branch k head first ls last otherwise) = max (if_height head) (max (lines_height ls + 1) (else_height otherwise)) + 1

  pub else_height : ElseTree → ℕ
  else_height NoElse = 0
  else_height (ElseBlock k first ls last) = lines_height ls + 1
  else_height (ElseIf k b) = branch_height b

  pub lines_height : Lines → ℕ
  lines_height NoLines = 0
  lines_height (Line c s rest) = max (stmt_height c) (lines_height rest)

-- a receiver's type is a node, under the function
abbrev pub receiver_height : {A : Type 0} → Option A → ℕ
receiver_height None = 0
receiver_height (Some r) = 1

-- a function is a node, and its body another
abbrev pub decl_height : DeclTree → ℕ
decl_height (Value v) = value_height v
decl_height (Types t) = types_height t
decl_height (Func f) = max (receiver_height f.receiver) (max (signature_height f.signature) (lines_height f.body + 1)) + 1

abbrev pub tops_height : List TopTree → ℕ
tops_height [] = 0
tops_height (d ∷ ds) = max (decl_height d.decl) (tops_height ds)

-- imports are no nodes
abbrev pub file_height : FileTree → ℕ
file_height f = tops_height f.decls
