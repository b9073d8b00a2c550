-- Which trees respect the rules of the grammar.
use Rattle.std.specs.Prelude.{◌≡◌, ℕ, ◌+◌, ◌≤◌, ◌<◌, Bool, true, false, List, [], ◌∷◌, Option, Some, None}
use Rattle.go_token_core.specs.text_core.declared.span.Span.{Span}
use Rattle.go_token_core.specs.declared.kind.Operator.{Operator}
use Rattle.go_token_core.specs.declared.kind.Operator.TheVariants as operator
use Rattle.go_tree_nodes.specs.declared.names.Ident.{Ident}
use Rattle.go_tree_nodes.specs.declared.exprs.Key.{Key}
use Rattle.go_tree_nodes.specs.declared.decls.ValueKind.{ValueKind}
use Rattle.go_tree_nodes.specs.declared.decls.ValueKind.TheVariants as kinds
use Rattle.go_tree_nodes.specs.Trees.{Separated, One, Then, TypeTree, FieldTrees, MethodTrees, SignatureTree, ResultTree, ParamTrees, NamedType, Pointer, ParenType, Struct, Interface, NoFields, NamedFields, EmbeddedField, NoMethods, Method, Signed, NoResult, OneResult, Results, NoParams, Param, ExprTree, ItemTrees, Integer, Text, Named, Paren, Unary, Binary, Select, Call, Literal, StructLiteral, NoItems, Item, ValueSpecTree, Specs, Single, Group, ValueTree, TypeSpecTree, TypeDeclTree, SimpleTree, Alone, Step, Assign, Update, Define, IfTree, ForTree, Forever, While, Clauses, StmtTree, BranchTree, ElseTree, Lines, Empty, Declare, Simple, Return, Break, Continue, Block, If, For, Branch, NoElse, ElseBlock, ElseIf, NoLines, Line, DeclTree, Value, Types, Func, TopTree, ImportTree, FileTree}

-- operators

-- how strongly a binary operator binds; 0 for what is none
abbrev pub rank_of : Operator → ℕ
rank_of operator.Star = 5
rank_of operator.Slash = 5
rank_of operator.Percent = 5
rank_of operator.ShiftLeft = 5
rank_of operator.ShiftRight = 5
rank_of operator.And = 5
rank_of operator.AndNot = 5
rank_of operator.Plus = 4
rank_of operator.Minus = 4
rank_of operator.Or = 4
rank_of operator.Caret = 4
rank_of operator.Equal = 3
rank_of operator.NotEqual = 3
rank_of operator.Less = 3
rank_of operator.LessEqual = 3
rank_of operator.Greater = 3
rank_of operator.GreaterEqual = 3
rank_of operator.LogicalAnd = 2
rank_of operator.LogicalOr = 1
rank_of _ = 0

-- a unary operator binds stronger than each binary one, and a selector or a call stronger than that
abbrev pub unary_rank : ℕ
unary_rank = 6

abbrev pub primary_rank : ℕ
primary_rank = 7

abbrev pub is_unary : Operator → Bool
is_unary operator.Plus = true
is_unary operator.Minus = true
is_unary operator.Not = true
is_unary operator.Caret = true
is_unary operator.Star = true
is_unary operator.And = true
is_unary _ = false

-- `++` and `--`
abbrev pub is_step : Operator → Bool
is_step operator.Increment = true
is_step operator.Decrement = true
is_step _ = false

-- an operator of rank 5 or 4 with `=`
abbrev pub is_update : Operator → Bool
is_update operator.StarAssign = true
is_update operator.SlashAssign = true
is_update operator.PercentAssign = true
is_update operator.ShiftLeftAssign = true
is_update operator.ShiftRightAssign = true
is_update operator.AndAssign = true
is_update operator.AndNotAssign = true
is_update operator.PlusAssign = true
is_update operator.MinusAssign = true
is_update operator.OrAssign = true
is_update operator.CaretAssign = true
is_update _ = false

-- lists

abbrev pub IsNothing : {A : Type 0} → List A → Type 0
IsNothing [] = Unit {0}
IsNothing (x ∷ xs) = ⊥

-- a mark between two may not be left out; behind the last it may
abbrev pub IsKept : Option Span → Type 0 → Type 0
IsKept (Some s) last = Unit {0}
IsKept None last = last

-- types

abbrev pub IsLastField : FieldTrees → Type 0
IsLastField NoFields = Unit {0}
IsLastField _ = ⊥

abbrev pub IsLastMethod : MethodTrees → Type 0
IsLastMethod NoMethods = Unit {0}
IsLastMethod _ = ⊥

abbrev pub IsLastParam : ParamTrees → Type 0
IsLastParam NoParams = Unit {0}
IsLastParam _ = ⊥

-- whether the entry of a list of parameters is one of a group of names
abbrev pub is_group : Option (Separated Ident) → Bool
is_group None = false
is_group (Some xs) = true

-- whether the first entry is one
abbrev pub is_grouped : ParamTrees → Bool
is_grouped NoParams = false
is_grouped (Param xs t comma rest) = is_group xs

-- a result without parentheses begins with none
abbrev pub IsBare : TypeTree → Type 0
IsBare (ParenType first t last) = ⊥
IsBare _ = Unit {0}

abbrev mutual
  pub Wf_type : TypeTree → Type 0
  Wf_type (NamedType n) = Unit {0}
  Wf_type (Pointer star t) = Wf_type t
  Wf_type (ParenType first t last) = Wf_type t
  Wf_type (Struct k first fields last) = Wf_fields fields
  Wf_type (Interface k first methods last) = Wf_methods methods

  pub Wf_fields : FieldTrees → Type 0
  Wf_fields NoFields = Unit {0}
  Wf_fields (NamedFields xs t tag s rest) = Wf_type t × IsKept s (IsLastField rest) × Wf_fields rest
  Wf_fields (EmbeddedField star n tag s rest) = IsKept s (IsLastField rest) × Wf_fields rest

  pub Wf_methods : MethodTrees → Type 0
  Wf_methods NoMethods = Unit {0}
  Wf_methods (Method x signature s rest) = Wf_signature signature × IsKept s (IsLastMethod rest) × Wf_methods rest

  pub Wf_signature : SignatureTree → Type 0
  Wf_signature (Signed first params last result) = Wf_params (is_grouped params) params × Wf_result result

  pub Wf_result : ResultTree → Type 0
  Wf_result NoResult = Unit {0}
  Wf_result (OneResult t) = Wf_type t × IsBare t
  Wf_result (Results first params last) = Wf_params (is_grouped params) params

  -- all entries are types, or all are groups of names with a type
  pub Wf_params : Bool → ParamTrees → Type 0
  Wf_params groups NoParams = Unit {0}
  Wf_params groups (Param xs t comma rest) = (is_group xs ≡ groups) × Wf_type t × IsKept comma (IsLastParam rest) × Wf_params groups rest

-- expressions

-- no operator outside parentheses binds weaker than this
abbrev pub Binds : ℕ → ExprTree → Type 0
Binds least (Binary a op span b) = least ≤ rank_of op
Binds least (Unary op span t) = least ≤ unary_rank
Binds least _ = Unit {0}

abbrev pub IsLastItem : ItemTrees → Type 0
IsLastItem NoItems = Unit {0}
IsLastItem _ = ⊥

abbrev pub MayHaveKey : Bool → Option Key → Type 0
MayHaveKey false (Some k) = ⊥
MayHaveKey _ _ = Unit {0}

abbrev pub IsFalse : Bool → Type 0
IsFalse true = ⊥
IsFalse false = Unit {0}

abbrev pub IsStructType : TypeTree → Type 0
IsStructType (Struct k first _ last) = Unit {0}
IsStructType _ = ⊥

-- binary operators are grouped by rank, those of one rank to the left; in a header, between `if` or `for` and its
-- block, a literal of a named type stands inside parentheses or braces
abbrev mutual
  pub Wf : Bool → ExprTree → Type 0
  Wf header (Integer n span) = Unit {0}
  Wf header (Text t) = Unit {0}
  Wf header (Named x) = Unit {0}
  Wf header (Paren first t last) = Wf false t
  Wf header (Unary op span t) = (is_unary op ≡ true) × Wf header t × Binds unary_rank t
  Wf header (Binary a op span b) = (0 < rank_of op) × Wf header a × Binds (rank_of op) a × Wf header b × Binds (rank_of op + 1) b
  Wf header (Select t dot x) = Wf header t × Binds primary_rank t
  Wf header (Call t first items last) = Wf header t × Binds primary_rank t × Wf_items false items
  Wf header (Literal n first items last) = IsFalse header × Wf_items true items
  Wf header (StructLiteral t first items last) = IsStructType t × Wf_type t × Wf_items true items

  pub Wf_items : Bool → ItemTrees → Type 0
  Wf_items keyed NoItems = Unit {0}
  Wf_items keyed (Item key t comma rest) = MayHaveKey keyed key × Wf false t × IsKept comma (IsLastItem rest) × Wf_items keyed rest

abbrev pub Wf_exprs : Bool → Separated ExprTree → Type 0
Wf_exprs header (One t) = Wf header t
Wf_exprs header (Then t comma more) = Wf header t × Wf_exprs header more

abbrev pub Wf_some_type : Option TypeTree → Type 0
Wf_some_type None = Unit {0}
Wf_some_type (Some t) = Wf_type t

-- declarations

abbrev pub Wf_values : Option (Span × Separated ExprTree) → Type 0
Wf_values None = Unit {0}
Wf_values (Some v) = Wf_exprs false v.1

-- a constant has values; a variable has a type or values
abbrev pub HasEnough : {A B : Type 0} → ValueKind → Option A → Option B → Type 0
HasEnough kinds.Const t None = ⊥
HasEnough kinds.Var None None = ⊥
HasEnough _ _ _ = Unit {0}

abbrev pub Wf_value_spec : ValueKind → ValueSpecTree → Type 0
Wf_value_spec kind v = HasEnough kind v.type_expr v.values × Wf_some_type v.type_expr × Wf_values v.values

abbrev pub Wf_group : {A : Type 0} → (A → Type 0) → List (A × Option Span) → Type 0
Wf_group P [] = Unit {0}
Wf_group P (x ∷ xs) = P x.0 × IsKept x.1 (IsNothing xs) × Wf_group P xs

abbrev pub Wf_specs : {A : Type 0} → (A → Type 0) → Specs A → Type 0
Wf_specs P (Single x) = P x
Wf_specs P (Group first xs last) = Wf_group P xs

abbrev pub Wf_value : ValueTree → Type 0
Wf_value v = Wf_specs (Wf_value_spec v.kind) v.specs

-- an alias is one of a type's name, without parentheses
abbrev pub IsAliasOfName : Option Span → TypeTree → Type 0
IsAliasOfName None t = Unit {0}
IsAliasOfName (Some s) (NamedType n) = Unit {0}
IsAliasOfName (Some s) _ = ⊥

abbrev pub Wf_type_spec : TypeSpecTree → Type 0
Wf_type_spec t = Wf_type t.type_expr × IsAliasOfName t.alias t.type_expr

abbrev pub Wf_types : TypeDeclTree → Type 0
Wf_types t = Wf_specs Wf_type_spec t.specs

-- statements

abbrev pub Wf_simple : Bool → SimpleTree → Type 0
Wf_simple header (Alone t) = Wf header t
Wf_simple header (Step t op span) = (is_step op ≡ true) × Wf header t
Wf_simple header (Assign ts span es) = Wf_exprs header ts × Wf_exprs header es
Wf_simple header (Update t op span e) = (is_update op ≡ true) × Wf header t × Wf header e
Wf_simple header (Define xs span es) = Wf_exprs header es

abbrev pub Wf_some_simple : Option SimpleTree → Type 0
Wf_some_simple None = Unit {0}
Wf_some_simple (Some s) = Wf_simple true s

abbrev pub Wf_some_expr : Option ExprTree → Type 0
Wf_some_expr None = Unit {0}
Wf_some_expr (Some t) = Wf true t

abbrev pub Wf_init : Option (Option SimpleTree × Span) → Type 0
Wf_init None = Unit {0}
Wf_init (Some i) = Wf_some_simple i.0

abbrev pub Wf_if : IfTree → Type 0
Wf_if h = Wf_init h.init × Wf true h.condition

-- the statement behind a turn is no short declaration
abbrev pub IsPost : Option SimpleTree → Type 0
IsPost (Some (Define xs span es)) = ⊥
IsPost _ = Unit {0}

abbrev pub Wf_for : ForTree → Type 0
Wf_for Forever = Unit {0}
Wf_for (While t) = Wf true t
Wf_for (Clauses init a test b post) = Wf_some_simple init × Wf_some_expr test × Wf_some_simple post × IsPost post

abbrev pub Wf_some_exprs : Option (Separated ExprTree) → Type 0
Wf_some_exprs None = Unit {0}
Wf_some_exprs (Some es) = Wf_exprs false es

abbrev pub IsLastLine : Lines → Type 0
IsLastLine NoLines = Unit {0}
IsLastLine _ = ⊥

-- an empty statement keeps its semicolon
abbrev pub MayEnd : StmtTree → Lines → Type 0
MayEnd Empty rest = ⊥
MayEnd _ rest = IsLastLine rest

abbrev mutual
  pub Wf_stmt : StmtTree → Type 0
  Wf_stmt Empty = Unit {0}
  Wf_stmt (Declare v) = Wf_value v
  Wf_stmt (Simple s) = Wf_simple false s
  Wf_stmt (Return s es) = Wf_some_exprs es
  Wf_stmt (Break s) = Unit {0}
  Wf_stmt (Continue s) = Unit {0}
  Wf_stmt (Block first ls last) = Wf_lines ls
  Wf_stmt (If b) = Wf_branch b
  Wf_stmt (For k head first ls last) = Wf_for head × Wf_lines ls

  pub Wf_branch : BranchTree → Type 0
  Wf_branch (Branch k head first ls last otherwise) = Wf_if head × Wf_lines ls × Wf_else otherwise

  pub Wf_else : ElseTree → Type 0
  Wf_else NoElse = Unit {0}
  Wf_else (ElseBlock k first ls last) = Wf_lines ls
  Wf_else (ElseIf k b) = Wf_branch b

  pub Wf_lines : Lines → Type 0
  Wf_lines NoLines = Unit {0}
  Wf_lines (Line c s rest) = Wf_stmt c × IsKept s (MayEnd c rest) × Wf_lines rest

-- files

abbrev pub Wf_decl : DeclTree → Type 0
Wf_decl (Value v) = Wf_value v
Wf_decl (Types t) = Wf_types t
Wf_decl (Func f) = Wf_signature f.signature × Wf_lines f.body

abbrev pub Wf_tops : List TopTree → Type 0
Wf_tops [] = Unit {0}
Wf_tops (d ∷ ds) = Wf_decl d.decl × Wf_tops ds

abbrev pub Wf_imports : List ImportTree → Type 0
Wf_imports [] = Unit {0}
Wf_imports (i ∷ is) = Wf_specs (λ s. Unit {0}) i.specs × Wf_imports is

abbrev pub Wf_file : FileTree → Type 0
Wf_file f = Wf_imports f.imports × Wf_tops f.decls
