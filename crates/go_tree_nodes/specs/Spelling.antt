-- What a tree writes.
use Rattle.std.specs.Prelude.{ℕ, List, [], ◌∷◌, ◌++◌, Option, Some, None}
use Rattle.go_token_core.specs.text_core.declared.span.Span.{Span}
use Rattle.go_token_core.specs.declared.kind.Keyword.{Keyword}
use Rattle.go_token_core.specs.declared.kind.Keyword.TheVariants as keyword
use Rattle.go_token_core.specs.declared.kind.Operator.{Operator}
use Rattle.go_token_core.specs.declared.kind.Operator.TheVariants as operator
use Rattle.go_tree_nodes.specs.declared.names.Ident.{Ident}
use Rattle.go_tree_nodes.specs.declared.names.TextLiteral.{TextLiteral}
use Rattle.go_tree_nodes.specs.declared.types.TypeName.{TypeName}
use Rattle.go_tree_nodes.specs.declared.types.TypeName.TheVariants as type_name
use Rattle.go_tree_nodes.specs.declared.exprs.Key.{Key}
use Rattle.go_tree_nodes.specs.declared.decls.ValueKind.{ValueKind}
use Rattle.go_tree_nodes.specs.declared.decls.ValueKind.TheVariants as kinds
use Rattle.go_tree_nodes.specs.declared.files.ImportName.{ImportName}
use Rattle.go_tree_nodes.specs.declared.files.ImportName.TheVariants as import_name
use Rattle.go_tree_nodes.specs.declared.files.Receiver.{Receiver}
use Rattle.go_tree_nodes.specs.Terminals.{Terminal, terminal, Spelled, Number, Quoted, Word, Mark, InOrder}
use Rattle.go_tree_nodes.specs.Trees.{Separated, One, Then, TypeTree, FieldTrees, MethodTrees, SignatureTree, ResultTree, ParamTrees, NamedType, Pointer, ParenType, Struct, Interface, NoFields, NamedFields, EmbeddedField, NoMethods, Method, Signed, NoResult, OneResult, Results, NoParams, Param, ExprTree, ItemTrees, Integer, Text, Named, Paren, Unary, Binary, Select, Call, Literal, StructLiteral, NoItems, Item, ValueSpecTree, Specs, Single, Group, ValueTree, TypeSpecTree, TypeDeclTree, SimpleTree, Alone, Step, Assign, Update, Define, IfTree, ForTree, Forever, While, Clauses, StmtTree, BranchTree, ElseTree, Lines, Empty, Declare, Simple, Return, Break, Continue, Block, If, For, Branch, NoElse, ElseBlock, ElseIf, NoLines, Line, FuncTree, DeclTree, Value, Types, Func, TopTree, ImportSpecTree, ImportTree, FileTree}

abbrev pub mark : Operator → Span → Terminal
mark o s = terminal (Mark o) s

abbrev pub word : Keyword → Span → Terminal
word k s = terminal (Word k) s

abbrev pub spell_ident : Ident → Terminal
spell_ident x = terminal (Spelled x.name) x.span

abbrev pub spell_text : TextLiteral → Terminal
spell_text t = terminal (Quoted t.spelled) t.span

abbrev pub spell_idents : Separated Ident → List Terminal
spell_idents (One x) = spell_ident x ∷ []
spell_idents (Then x comma more) = spell_ident x ∷ (mark operator.Comma comma ∷ spell_idents more)

-- a mark that may be left out
abbrev pub spell_some : Operator → Option Span → List Terminal
spell_some o None = []
spell_some o (Some s) = mark o s ∷ []

-- types

abbrev pub spell_type_name : TypeName → List Terminal
spell_type_name (type_name.Plain x) = spell_ident x ∷ []
spell_type_name (type_name.Qualified p dot x) = spell_ident p ∷ (mark operator.Dot dot ∷ (spell_ident x ∷ []))

abbrev pub spell_tag : Option TextLiteral → List Terminal
spell_tag None = []
spell_tag (Some t) = spell_text t ∷ []

abbrev pub spell_names : Option (Separated Ident) → List Terminal
spell_names None = []
spell_names (Some xs) = spell_idents xs

abbrev mutual
  pub spell_type : TypeTree → List Terminal
  spell_type (NamedType n) = spell_type_name n
  spell_type (Pointer star t) = mark operator.Star star ∷ spell_type t
  spell_type (ParenType first t last) = mark operator.OpenParen first ∷ (spell_type t ++ mark operator.CloseParen last ∷ [])
  spell_type (Struct k first fields last) = word keyword.Struct k ∷ (mark operator.OpenBrace first ∷ (spell_fields fields ++ mark operator.CloseBrace last ∷ []))
  spell_type (Interface k first methods last) = word keyword.Interface k ∷ (mark operator.OpenBrace first ∷ (spell_methods methods ++ mark operator.CloseBrace last ∷ []))

  pub spell_fields : FieldTrees → List Terminal
  spell_fields NoFields = []
  spell_fields (NamedFields xs t tag s rest) = spell_idents xs ++ (spell_type t ++ (spell_tag tag ++ (spell_some operator.Semicolon s ++ spell_fields rest)))
  spell_fields (EmbeddedField star n tag s rest) = spell_some operator.Star star ++ (spell_type_name n ++ (spell_tag tag ++ (spell_some operator.Semicolon s ++ spell_fields rest)))

  pub spell_methods : MethodTrees → List Terminal
  spell_methods NoMethods = []
  spell_methods (Method x signature s rest) = spell_ident x ∷ (spell_signature signature ++ (spell_some operator.Semicolon s ++ spell_methods rest))

  pub spell_signature : SignatureTree → List Terminal
  spell_signature (Signed first params last result) = mark operator.OpenParen first ∷ (spell_params params ++ (mark operator.CloseParen last ∷ spell_result result))

  pub spell_result : ResultTree → List Terminal
  spell_result NoResult = []
  spell_result (OneResult t) = spell_type t
  spell_result (Results first params last) = mark operator.OpenParen first ∷ (spell_params params ++ mark operator.CloseParen last ∷ [])

  pub spell_params : ParamTrees → List Terminal
  spell_params NoParams = []
  spell_params (Param xs t comma rest) = spell_names xs ++ (spell_type t ++ (spell_some operator.Comma comma ++ spell_params rest))

-- expressions

abbrev pub spell_key : Option Key → List Terminal
spell_key None = []
spell_key (Some k) = spell_ident k.name ∷ (mark operator.Colon k.colon ∷ [])

abbrev mutual
  pub spell : ExprTree → List Terminal
  spell (Integer n span) = terminal (Number n) span ∷ []
  spell (Text t) = spell_text t ∷ []
  spell (Named x) = spell_ident x ∷ []
  spell (Paren first t last) = mark operator.OpenParen first ∷ (spell t ++ mark operator.CloseParen last ∷ [])
  spell (Unary op span t) = mark op span ∷ spell t
  spell (Binary a op span b) = spell a ++ (mark op span ∷ spell b)
  spell (Select t dot x) = spell t ++ (mark operator.Dot dot ∷ (spell_ident x ∷ []))
  spell (Call t first items last) = spell t ++ (mark operator.OpenParen first ∷ (spell_items items ++ mark operator.CloseParen last ∷ []))
  spell (Literal n first items last) = spell_type_name n ++ (mark operator.OpenBrace first ∷ (spell_items items ++ mark operator.CloseBrace last ∷ []))
  spell (StructLiteral t first items last) = spell_type t ++ (mark operator.OpenBrace first ∷ (spell_items items ++ mark operator.CloseBrace last ∷ []))

  pub spell_items : ItemTrees → List Terminal
  spell_items NoItems = []
  spell_items (Item key t comma rest) = spell_key key ++ (spell t ++ (spell_some operator.Comma comma ++ spell_items rest))

abbrev pub spell_exprs : Separated ExprTree → List Terminal
spell_exprs (One t) = spell t
spell_exprs (Then t comma more) = spell t ++ (mark operator.Comma comma ∷ spell_exprs more)

-- declarations

abbrev pub spell_some_type : Option TypeTree → List Terminal
spell_some_type None = []
spell_some_type (Some t) = spell_type t

abbrev pub spell_values : Option (Span × Separated ExprTree) → List Terminal
spell_values None = []
spell_values (Some v) = mark operator.Assign v.0 ∷ spell_exprs v.1

abbrev pub spell_value_spec : ValueSpecTree → List Terminal
spell_value_spec v = spell_idents v.names ++ (spell_some_type v.type_expr ++ spell_values v.values)

abbrev pub spell_specs_of : {A : Type 0} → (A → List Terminal) → List (A × Option Span) → List Terminal
spell_specs_of f [] = []
spell_specs_of f (x ∷ xs) = f x.0 ++ (spell_some operator.Semicolon x.1 ++ spell_specs_of f xs)

abbrev pub spell_specs : {A : Type 0} → (A → List Terminal) → Specs A → List Terminal
spell_specs f (Single x) = f x
spell_specs f (Group first xs last) = mark operator.OpenParen first ∷ (spell_specs_of f xs ++ mark operator.CloseParen last ∷ [])

abbrev pub keyword_of : ValueKind → Keyword
keyword_of kinds.Const = keyword.Const
keyword_of kinds.Var = keyword.Var

abbrev pub spell_value : ValueTree → List Terminal
spell_value v = word (keyword_of v.kind) v.keyword ∷ spell_specs spell_value_spec v.specs

abbrev pub spell_type_spec : TypeSpecTree → List Terminal
spell_type_spec t = spell_ident t.name ∷ (spell_some operator.Assign t.alias ++ spell_type t.type_expr)

abbrev pub spell_types : TypeDeclTree → List Terminal
spell_types t = word keyword.«Type» t.keyword ∷ spell_specs spell_type_spec t.specs

-- statements

abbrev pub spell_simple : SimpleTree → List Terminal
spell_simple (Alone t) = spell t
spell_simple (Step t op span) = spell t ++ mark op span ∷ []
spell_simple (Assign ts span es) = spell_exprs ts ++ (mark operator.Assign span ∷ spell_exprs es)
spell_simple (Update t op span e) = spell t ++ (mark op span ∷ spell e)
spell_simple (Define xs span es) = spell_idents xs ++ (mark operator.Define span ∷ spell_exprs es)

abbrev pub spell_some_simple : Option SimpleTree → List Terminal
spell_some_simple None = []
spell_some_simple (Some s) = spell_simple s

abbrev pub spell_some_expr : Option ExprTree → List Terminal
spell_some_expr None = []
spell_some_expr (Some t) = spell t

abbrev pub spell_init : Option (Option SimpleTree × Span) → List Terminal
spell_init None = []
spell_init (Some i) = spell_some_simple i.0 ++ mark operator.Semicolon i.1 ∷ []

abbrev pub spell_if : IfTree → List Terminal
spell_if h = spell_init h.init ++ spell h.condition

abbrev pub spell_for : ForTree → List Terminal
spell_for Forever = []
spell_for (While t) = spell t
spell_for (Clauses init a test b post) = spell_some_simple init ++ (mark operator.Semicolon a ∷ (spell_some_expr test ++ (mark operator.Semicolon b ∷ spell_some_simple post)))

abbrev pub spell_some_exprs : Option (Separated ExprTree) → List Terminal
spell_some_exprs None = []
spell_some_exprs (Some es) = spell_exprs es

abbrev mutual
  pub spell_stmt : StmtTree → List Terminal
  spell_stmt Empty = []
  spell_stmt (Declare v) = spell_value v
  spell_stmt (Simple s) = spell_simple s
  spell_stmt (Return s es) = word keyword.Return s ∷ spell_some_exprs es
  spell_stmt (Break s) = word keyword.Break s ∷ []
  spell_stmt (Continue s) = word keyword.Continue s ∷ []
  spell_stmt (Block first ls last) = mark operator.OpenBrace first ∷ (spell_lines ls ++ mark operator.CloseBrace last ∷ [])
  spell_stmt (If b) = spell_branch b
  spell_stmt (For k head first ls last) = word keyword.For k ∷ (spell_for head ++ (mark operator.OpenBrace first ∷ (spell_lines ls ++ mark operator.CloseBrace last ∷ [])))

  pub spell_branch : BranchTree → List Terminal
  spell_branch (Branch k head first ls last otherwise) = word keyword.If k ∷ (spell_if head ++ (mark operator.OpenBrace first ∷ (spell_lines ls ++ (mark operator.CloseBrace last ∷ spell_else otherwise))))

  pub spell_else : ElseTree → List Terminal
  spell_else NoElse = []
  spell_else (ElseBlock k first ls last) = word keyword.Else k ∷ (mark operator.OpenBrace first ∷ (spell_lines ls ++ mark operator.CloseBrace last ∷ []))
  spell_else (ElseIf k b) = word keyword.Else k ∷ spell_branch b

  pub spell_lines : Lines → List Terminal
  spell_lines NoLines = []
  spell_lines (Line c s rest) = spell_stmt c ++ (spell_some operator.Semicolon s ++ spell_lines rest)

-- functions and files

abbrev pub spell_receiver_name : Option Ident → List Terminal
spell_receiver_name None = []
spell_receiver_name (Some x) = spell_ident x ∷ []

abbrev pub spell_receiver : Option Receiver → List Terminal
spell_receiver None = []
spell_receiver (Some r) = mark operator.OpenParen r.open_paren ∷ (spell_receiver_name r.name ++ (spell_some operator.Star r.star ++ (spell_type_name r.base ++ (spell_some operator.Comma r.comma ++ mark operator.CloseParen r.close_paren ∷ []))))

abbrev pub spell_func : FuncTree → List Terminal
spell_func f = word keyword.Func f.func ∷ (spell_receiver f.receiver ++ (spell_ident f.name ∷ (spell_signature f.signature ++ (mark operator.OpenBrace f.open_brace ∷ (spell_lines f.body ++ mark operator.CloseBrace f.close_brace ∷ [])))))

abbrev pub spell_decl : DeclTree → List Terminal
spell_decl (Value v) = spell_value v
spell_decl (Types t) = spell_types t
spell_decl (Func f) = spell_func f

abbrev pub spell_tops : List TopTree → List Terminal
spell_tops [] = []
spell_tops (d ∷ ds) = spell_decl d.decl ++ (mark operator.Semicolon d.semicolon ∷ spell_tops ds)

abbrev pub spell_import_name : ImportName → List Terminal
spell_import_name import_name.Own = []
spell_import_name (import_name.Named x) = spell_ident x ∷ []
spell_import_name (import_name.Dot s) = mark operator.Dot s ∷ []

abbrev pub spell_import : ImportSpecTree → List Terminal
spell_import i = spell_import_name i.name ++ spell_text i.path ∷ []

abbrev pub spell_imports : List ImportTree → List Terminal
spell_imports [] = []
spell_imports (i ∷ is) = (word keyword.Import i.keyword ∷ spell_specs spell_import i.specs) ++ (mark operator.Semicolon i.semicolon ∷ spell_imports is)

abbrev pub spell_file : FileTree → List Terminal
spell_file f = word keyword.Package f.clause ∷ (spell_ident f.name ∷ (mark operator.Semicolon f.semicolon ∷ (spell_imports f.imports ++ spell_tops f.decls)))

-- the terminals that the tree of a file writes follow one another, as those of a text do
abbrev pub IsPlaced : FileTree → Type 0
IsPlaced f = (high : ℕ) × InOrder 0 (spell_file f) high
