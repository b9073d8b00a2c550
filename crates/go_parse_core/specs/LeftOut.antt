-- Trees that write all their semicolons, and texts that leave out some before a closing mark.
use Rattle.std.specs.Prelude.{◌≡◌, ◌⊎◌, ℕ, Bool, true, false, List, [], ◌∷◌, ◌++◌, Option, Some, None, Ok}
use Rattle.go_tree_nodes.specs.text_core.declared.span.Span.{Span}
use Rattle.go_tree_nodes.specs.token_core.declared.kind.Keyword.TheVariants as keyword
use Rattle.go_tree_nodes.specs.token_core.declared.kind.Operator.{Operator}
use Rattle.go_tree_nodes.specs.token_core.declared.kind.Operator.TheVariants as operator
use Rattle.go_tree_nodes.specs.token_core.declared.token.Token.{Token}
use Rattle.go_scan_core.specs.Tokens.{IsAnswer}
use Rattle.go_tree_nodes.specs.Terminals.{TerminalKind, Terminal, Number, Mark, terminal, terminals}
use Rattle.go_tree_nodes.specs.Trees.{Separated, One, Then, TypeTree, FieldTrees, MethodTrees, SignatureTree, ResultTree, ParamTrees, NamedType, Pointer, ParenType, Struct, Interface, NoFields, NamedFields, EmbeddedField, NoMethods, Method, Signed, NoResult, OneResult, Results, NoParams, Param, ExprTree, ItemTrees, Integer, Text, Named, Paren, Unary, Binary, Select, Call, Literal, StructLiteral, NoItems, Item, ValueSpecTree, Specs, Single, Group, ValueTree, TypeSpecTree, TypeDeclTree, SimpleTree, Alone, Step, Assign, Update, Define, IfTree, ForTree, Forever, While, Clauses, StmtTree, BranchTree, ElseTree, Lines, Empty, Declare, Simple, Return, Break, Continue, Block, If, For, Branch, NoElse, ElseBlock, ElseIf, NoLines, Line, FuncTree, DeclTree, Value, Types, Func, TopTree, ImportSpecTree, ImportTree, FileTree}
use Rattle.go_tree_nodes.specs.Spelling.{mark, word, spell_ident, spell_text, spell_idents, spell_some, spell_type_name, spell_tag, spell_names, spell_key, keyword_of, spell_receiver, spell_import}
use Rattle.go_tree_nodes.specs.Counts.{is_empty}
use Rattle.go_tree_nodes.specs.Rules.{Wf_file}
use Rattle.go_tree_nodes.specs.Heights.{file_height}
use Rattle.go_parse_core.specs.Correct.{HasTree}

-- what a tree writes: a terminal that stands there, or a semicolon that may be left out
pub data Symbol : Type 0 where
  Sure : Terminal → Symbol
  Loose : Terminal → Symbol

abbrev pub sure : List Terminal → List Symbol
sure [] = []
sure (t ∷ ts) = Sure t ∷ sure ts

-- a closing parenthesis or brace
abbrev pub IsClosingMark : Operator → Type 0
IsClosingMark operator.CloseParen = Unit {0}
IsClosingMark operator.CloseBrace = Unit {0}
IsClosingMark _ = ⊥

abbrev pub IsClosing : TerminalKind → Type 0
IsClosing (Mark o) = IsClosingMark o
IsClosing _ = ⊥

-- a closing mark comes first
abbrev pub Closes : List Symbol → Type 0
Closes (Sure t ∷ more) = IsClosing t.kind
Closes _ = ⊥

-- the terminals are these symbols, with some semicolons left out directly before a closing mark
abbrev pub LeftOut : List Symbol → List Terminal → Type 0
LeftOut [] ts = ts ≡ []
LeftOut (Sure t ∷ more) ts = (rest : List Terminal) × (ts ≡ t ∷ rest) × LeftOut more rest
LeftOut (Loose t ∷ more) ts = ((rest : List Terminal) × (ts ≡ t ∷ rest) × LeftOut more rest) ⊎ (Closes more × LeftOut more ts)

-- what a tree writes, with each semicolon that may be left out. Those of headers and of the package block are such symbols
-- too; no closing mark follows them

abbrev pub symbol_semicolon : Option Span → List Symbol
symbol_semicolon None = []
symbol_semicolon (Some s) = Loose (mark operator.Semicolon s) ∷ []

-- types

abbrev mutual
  pub symbols_type : TypeTree → List Symbol
  symbols_type (NamedType n) = sure (spell_type_name n)
  symbols_type (Pointer star t) = Sure (mark operator.Star star) ∷ symbols_type t
  symbols_type (ParenType first t last) = Sure (mark operator.OpenParen first) ∷ (symbols_type t ++ Sure (mark operator.CloseParen last) ∷ [])
  symbols_type (Struct k first fs last) = Sure (word keyword.Struct k) ∷ (Sure (mark operator.OpenBrace first) ∷ (symbols_fields fs ++ Sure (mark operator.CloseBrace last) ∷ []))
  symbols_type (Interface k first ms last) = Sure (word keyword.Interface k) ∷ (Sure (mark operator.OpenBrace first) ∷ (symbols_methods ms ++ Sure (mark operator.CloseBrace last) ∷ []))

  pub symbols_fields : FieldTrees → List Symbol
  symbols_fields NoFields = []
  symbols_fields (NamedFields xs t tag s rest) = sure (spell_idents xs) ++ (symbols_type t ++ (sure (spell_tag tag) ++ (symbol_semicolon s ++ symbols_fields rest)))
  symbols_fields (EmbeddedField star n tag s rest) = sure (spell_some operator.Star star) ++ (sure (spell_type_name n) ++ (sure (spell_tag tag) ++ (symbol_semicolon s ++ symbols_fields rest)))

  pub symbols_methods : MethodTrees → List Symbol
  symbols_methods NoMethods = []
  symbols_methods (Method x signature s rest) = Sure (spell_ident x) ∷ (symbols_signature signature ++ (symbol_semicolon s ++ symbols_methods rest))

  pub symbols_signature : SignatureTree → List Symbol
  symbols_signature (Signed first params last result) = Sure (mark operator.OpenParen first) ∷ (symbols_params params ++ (Sure (mark operator.CloseParen last) ∷ symbols_result result))

  pub symbols_result : ResultTree → List Symbol
  symbols_result NoResult = []
  symbols_result (OneResult t) = symbols_type t
  symbols_result (Results first params last) = Sure (mark operator.OpenParen first) ∷ (symbols_params params ++ Sure (mark operator.CloseParen last) ∷ [])

  pub symbols_params : ParamTrees → List Symbol
  symbols_params NoParams = []
  symbols_params (Param xs t comma rest) = sure (spell_names xs) ++ (symbols_type t ++ (sure (spell_some operator.Comma comma) ++ symbols_params rest))

-- what a tree writes that may not be there
abbrev pub symbols_some : {A : Type 0} → (A → List Symbol) → Option A → List Symbol
symbols_some f None = []
symbols_some f (Some x) = f x

-- expressions

abbrev mutual
  pub symbols_expr : ExprTree → List Symbol
  symbols_expr (Integer n span) = Sure (terminal (Number n) span) ∷ []
  symbols_expr (Text t) = Sure (spell_text t) ∷ []
  symbols_expr (Named x) = Sure (spell_ident x) ∷ []
  symbols_expr (Paren first t last) = Sure (mark operator.OpenParen first) ∷ (symbols_expr t ++ Sure (mark operator.CloseParen last) ∷ [])
  symbols_expr (Unary op span t) = Sure (mark op span) ∷ symbols_expr t
  symbols_expr (Binary a op span b) = symbols_expr a ++ (Sure (mark op span) ∷ symbols_expr b)
  symbols_expr (Select t dot x) = symbols_expr t ++ (Sure (mark operator.Dot dot) ∷ (Sure (spell_ident x) ∷ []))
  symbols_expr (Call t first is last) = symbols_expr t ++ (Sure (mark operator.OpenParen first) ∷ (symbols_items is ++ Sure (mark operator.CloseParen last) ∷ []))
  symbols_expr (Literal n first is last) = sure (spell_type_name n) ++ (Sure (mark operator.OpenBrace first) ∷ (symbols_items is ++ Sure (mark operator.CloseBrace last) ∷ []))
  symbols_expr (StructLiteral t first is last) = symbols_type t ++ (Sure (mark operator.OpenBrace first) ∷ (symbols_items is ++ Sure (mark operator.CloseBrace last) ∷ []))

  pub symbols_items : ItemTrees → List Symbol
  symbols_items NoItems = []
  symbols_items (Item key t comma rest) = sure (spell_key key) ++ (symbols_expr t ++ (sure (spell_some operator.Comma comma) ++ symbols_items rest))

abbrev pub symbols_exprs : Separated ExprTree → List Symbol
symbols_exprs (One t) = symbols_expr t
symbols_exprs (Then t comma more) = symbols_expr t ++ (Sure (mark operator.Comma comma) ∷ symbols_exprs more)

-- declarations

abbrev pub symbols_values : Span × Separated ExprTree → List Symbol
symbols_values v = Sure (mark operator.Assign v.0) ∷ symbols_exprs v.1

abbrev pub symbols_value_spec : ValueSpecTree → List Symbol
symbols_value_spec v = sure (spell_idents v.names) ++ (symbols_some symbols_type v.type_expr ++ symbols_some symbols_values v.values)

abbrev pub symbols_group : {A : Type 0} → (A → List Symbol) → List (A × Option Span) → List Symbol
symbols_group f [] = []
symbols_group f (x ∷ xs) = f x.0 ++ (symbol_semicolon x.1 ++ symbols_group f xs)

abbrev pub symbols_specs : {A : Type 0} → (A → List Symbol) → Specs A → List Symbol
symbols_specs f (Single x) = f x
symbols_specs f (Group first xs last) = Sure (mark operator.OpenParen first) ∷ (symbols_group f xs ++ Sure (mark operator.CloseParen last) ∷ [])

abbrev pub symbols_value : ValueTree → List Symbol
symbols_value v = Sure (word (keyword_of v.kind) v.keyword) ∷ symbols_specs symbols_value_spec v.specs

abbrev pub symbols_type_spec : TypeSpecTree → List Symbol
symbols_type_spec t = Sure (spell_ident t.name) ∷ (sure (spell_some operator.Assign t.alias) ++ symbols_type t.type_expr)

abbrev pub symbols_types : TypeDeclTree → List Symbol
symbols_types t = Sure (word keyword.«Type» t.keyword) ∷ symbols_specs symbols_type_spec t.specs

-- statements

abbrev pub symbols_simple : SimpleTree → List Symbol
symbols_simple (Alone t) = symbols_expr t
symbols_simple (Step t op span) = symbols_expr t ++ Sure (mark op span) ∷ []
symbols_simple (Assign ts span es) = symbols_exprs ts ++ (Sure (mark operator.Assign span) ∷ symbols_exprs es)
symbols_simple (Update t op span e) = symbols_expr t ++ (Sure (mark op span) ∷ symbols_expr e)
symbols_simple (Define xs span es) = sure (spell_idents xs) ++ (Sure (mark operator.Define span) ∷ symbols_exprs es)

abbrev pub symbols_init : Option (Option SimpleTree × Span) → List Symbol
symbols_init None = []
symbols_init (Some i) = symbols_some symbols_simple i.0 ++ Loose (mark operator.Semicolon i.1) ∷ []

abbrev pub symbols_if : IfTree → List Symbol
symbols_if h = symbols_init h.init ++ symbols_expr h.condition

abbrev pub symbols_for : ForTree → List Symbol
symbols_for Forever = []
symbols_for (While t) = symbols_expr t
symbols_for (Clauses init a test b post) = symbols_some symbols_simple init ++ (Loose (mark operator.Semicolon a) ∷ (symbols_some symbols_expr test ++ (Loose (mark operator.Semicolon b) ∷ symbols_some symbols_simple post)))

-- the semicolon behind a statement. An empty statement writes nothing but its semicolon, and keeps it: with that left
-- out, `{}` would be a block of no statement, and one of an empty statement
abbrev pub symbols_end : Bool → Option Span → List Symbol
symbols_end true s = sure (spell_some operator.Semicolon s)
symbols_end false s = symbol_semicolon s

abbrev mutual
  pub symbols_stmt : StmtTree → List Symbol
  symbols_stmt Empty = []
  symbols_stmt (Declare v) = symbols_value v
  symbols_stmt (Simple s) = symbols_simple s
  symbols_stmt (Return s es) = Sure (word keyword.Return s) ∷ symbols_some symbols_exprs es
  symbols_stmt (Break s) = Sure (word keyword.Break s) ∷ []
  symbols_stmt (Continue s) = Sure (word keyword.Continue s) ∷ []
  symbols_stmt (Block first ls last) = Sure (mark operator.OpenBrace first) ∷ (symbols_lines ls ++ Sure (mark operator.CloseBrace last) ∷ [])
  symbols_stmt (If b) = symbols_branch b
  symbols_stmt (For k head first ls last) = Sure (word keyword.For k) ∷ (symbols_for head ++ (Sure (mark operator.OpenBrace first) ∷ (symbols_lines ls ++ Sure (mark operator.CloseBrace last) ∷ [])))

  pub symbols_branch : BranchTree → List Symbol
  symbols_branch (Branch k head first ls last otherwise) = Sure (word keyword.If k) ∷ (symbols_if head ++ (Sure (mark operator.OpenBrace first) ∷ (symbols_lines ls ++ (Sure (mark operator.CloseBrace last) ∷ symbols_else otherwise))))

  pub symbols_else : ElseTree → List Symbol
  symbols_else NoElse = []
  symbols_else (ElseBlock k first ls last) = Sure (word keyword.Else k) ∷ (Sure (mark operator.OpenBrace first) ∷ (symbols_lines ls ++ Sure (mark operator.CloseBrace last) ∷ []))
  symbols_else (ElseIf k b) = Sure (word keyword.Else k) ∷ symbols_branch b

  pub symbols_lines : Lines → List Symbol
  symbols_lines NoLines = []
  symbols_lines (Line c s rest) = symbols_stmt c ++ (symbols_end (is_empty c) s ++ symbols_lines rest)

-- functions and files

abbrev pub symbols_func : FuncTree → List Symbol
symbols_func f =
    Sure (word keyword.Func f.func) ∷ (sure (spell_receiver f.receiver) ++ (Sure (spell_ident f.name) ∷ (symbols_signature f.signature ++ (Sure (mark operator.OpenBrace f.open_brace) ∷ (symbols_lines f.body ++ Sure (mark operator.CloseBrace f.close_brace) ∷ [])))))

abbrev pub symbols_decl : DeclTree → List Symbol
symbols_decl (Value v) = symbols_value v
symbols_decl (Types t) = symbols_types t
symbols_decl (Func f) = symbols_func f

abbrev pub symbols_tops : List TopTree → List Symbol
symbols_tops [] = []
symbols_tops (d ∷ ds) = symbols_decl d.decl ++ (Loose (mark operator.Semicolon d.semicolon) ∷ symbols_tops ds)

abbrev pub symbols_import : ImportSpecTree → List Symbol
symbols_import i = sure (spell_import i)

abbrev pub symbols_imports : List ImportTree → List Symbol
symbols_imports [] = []
symbols_imports (i ∷ is) = (Sure (word keyword.Import i.keyword) ∷ symbols_specs symbols_import i.specs) ++ (Loose (mark operator.Semicolon i.semicolon) ∷ symbols_imports is)

abbrev pub symbols_file : FileTree → List Symbol
symbols_file f = Sure (word keyword.Package f.clause) ∷ (Sure (spell_ident f.name) ∷ (Loose (mark operator.Semicolon f.semicolon) ∷ (symbols_imports f.imports ++ symbols_tops f.decls)))

-- the second tree is the first, with a semicolon wherever the first has none

abbrev pub Fills_semicolon : Option Span → Option Span → Type 0
Fills_semicolon None (Some r) = Unit {0}
Fills_semicolon (Some s) (Some r) = s ≡ r
Fills_semicolon _ None = ⊥

-- types

abbrev mutual
  pub Fills_type : TypeTree → TypeTree → Type 0
  Fills_type (NamedType n) (NamedType o) = n ≡ o
  Fills_type (Pointer a t) (Pointer b u) = (a ≡ b) × Fills_type t u
  Fills_type (ParenType a t z) (ParenType b u y) = (a ≡ b) × Fills_type t u × (z ≡ y)
  Fills_type (Struct k a fs z) (Struct l b gs y) = (k ≡ l) × (a ≡ b) × Fills_fields fs gs × (z ≡ y)
  Fills_type (Interface k a ms z) (Interface l b ns y) = (k ≡ l) × (a ≡ b) × Fills_methods ms ns × (z ≡ y)
  Fills_type _ _ = ⊥

  pub Fills_fields : FieldTrees → FieldTrees → Type 0
  Fills_fields NoFields NoFields = Unit {0}
  Fills_fields (NamedFields xs t tag s rest) (NamedFields ys u label r more) = (xs ≡ ys) × Fills_type t u × (tag ≡ label) × Fills_semicolon s r × Fills_fields rest more
  Fills_fields (EmbeddedField a n tag s rest) (EmbeddedField b o label r more) = (a ≡ b) × (n ≡ o) × (tag ≡ label) × Fills_semicolon s r × Fills_fields rest more
  Fills_fields _ _ = ⊥

  pub Fills_methods : MethodTrees → MethodTrees → Type 0
  Fills_methods NoMethods NoMethods = Unit {0}
  Fills_methods (Method x g s rest) (Method y h r more) = (x ≡ y) × Fills_signature g h × Fills_semicolon s r × Fills_methods rest more
  Fills_methods _ _ = ⊥

  pub Fills_signature : SignatureTree → SignatureTree → Type 0
  Fills_signature (Signed a ps z g) (Signed b qs y h) = (a ≡ b) × Fills_params ps qs × (z ≡ y) × Fills_result g h

  pub Fills_result : ResultTree → ResultTree → Type 0
  Fills_result NoResult NoResult = Unit {0}
  Fills_result (OneResult t) (OneResult u) = Fills_type t u
  Fills_result (Results a ps z) (Results b qs y) = (a ≡ b) × Fills_params ps qs × (z ≡ y)
  Fills_result _ _ = ⊥

  pub Fills_params : ParamTrees → ParamTrees → Type 0
  Fills_params NoParams NoParams = Unit {0}
  Fills_params (Param xs t comma rest) (Param ys u behind more) = (xs ≡ ys) × Fills_type t u × (comma ≡ behind) × Fills_params rest more
  Fills_params _ _ = ⊥

-- both are there, or none
abbrev pub Fills_some : {A : Type 0} → (A → A → Type 0) → Option A → Option A → Type 0
Fills_some F None None = Unit {0}
Fills_some F (Some x) (Some y) = F x y
Fills_some F _ _ = ⊥

-- expressions

abbrev mutual
  pub Fills_expr : ExprTree → ExprTree → Type 0
  Fills_expr (Integer n a) (Integer m b) = (n ≡ m) × (a ≡ b)
  Fills_expr (Text t) (Text u) = t ≡ u
  Fills_expr (Named x) (Named y) = x ≡ y
  Fills_expr (Paren a t z) (Paren b u y) = (a ≡ b) × Fills_expr t u × (z ≡ y)
  Fills_expr (Unary op a t) (Unary oq b u) = (op ≡ oq) × (a ≡ b) × Fills_expr t u
  Fills_expr (Binary t op a v) (Binary u oq b w) = Fills_expr t u × (op ≡ oq) × (a ≡ b) × Fills_expr v w
  Fills_expr (Select t a x) (Select u b y) = Fills_expr t u × (a ≡ b) × (x ≡ y)
  Fills_expr (Call t a is z) (Call u b js y) = Fills_expr t u × (a ≡ b) × Fills_items is js × (z ≡ y)
  Fills_expr (Literal n a is z) (Literal o b js y) = (n ≡ o) × (a ≡ b) × Fills_items is js × (z ≡ y)
  Fills_expr (StructLiteral t a is z) (StructLiteral u b js y) = Fills_type t u × (a ≡ b) × Fills_items is js × (z ≡ y)
  Fills_expr _ _ = ⊥

  pub Fills_items : ItemTrees → ItemTrees → Type 0
  Fills_items NoItems NoItems = Unit {0}
  Fills_items (Item k t comma rest) (Item l u behind more) = (k ≡ l) × Fills_expr t u × (comma ≡ behind) × Fills_items rest more
  Fills_items _ _ = ⊥

abbrev pub Fills_exprs : Separated ExprTree → Separated ExprTree → Type 0
Fills_exprs (One t) (One u) = Fills_expr t u
Fills_exprs (Then t comma ts) (Then u behind us) = Fills_expr t u × (comma ≡ behind) × Fills_exprs ts us
Fills_exprs _ _ = ⊥

-- declarations

abbrev pub Fills_values : Span × Separated ExprTree → Span × Separated ExprTree → Type 0
Fills_values v w = (v.0 ≡ w.0) × Fills_exprs v.1 w.1

abbrev pub Fills_value_spec : ValueSpecTree → ValueSpecTree → Type 0
Fills_value_spec v w = (v.names ≡ w.names) × Fills_some Fills_type v.type_expr w.type_expr × Fills_some Fills_values v.values w.values

abbrev pub Fills_group : {A : Type 0} → (A → A → Type 0) → List (A × Option Span) → List (A × Option Span) → Type 0
Fills_group F [] [] = Unit {0}
Fills_group F (x ∷ xs) (y ∷ ys) = F x.0 y.0 × Fills_semicolon x.1 y.1 × Fills_group F xs ys
Fills_group F _ _ = ⊥

abbrev pub Fills_specs : {A : Type 0} → (A → A → Type 0) → Specs A → Specs A → Type 0
Fills_specs F (Single x) (Single y) = F x y
Fills_specs F (Group a xs z) (Group b ys y) = (a ≡ b) × Fills_group F xs ys × (z ≡ y)
Fills_specs F _ _ = ⊥

abbrev pub Fills_value : ValueTree → ValueTree → Type 0
Fills_value v w = (v.kind ≡ w.kind) × (v.keyword ≡ w.keyword) × Fills_specs Fills_value_spec v.specs w.specs

abbrev pub Fills_type_spec : TypeSpecTree → TypeSpecTree → Type 0
Fills_type_spec t u = (t.name ≡ u.name) × (t.alias ≡ u.alias) × Fills_type t.type_expr u.type_expr

abbrev pub Fills_types : TypeDeclTree → TypeDeclTree → Type 0
Fills_types t u = (t.keyword ≡ u.keyword) × Fills_specs Fills_type_spec t.specs u.specs

-- statements

abbrev pub Fills_simple : SimpleTree → SimpleTree → Type 0
Fills_simple (Alone t) (Alone u) = Fills_expr t u
Fills_simple (Step t op a) (Step u oq b) = Fills_expr t u × (op ≡ oq) × (a ≡ b)
Fills_simple (Assign ts a es) (Assign us b fs) = Fills_exprs ts us × (a ≡ b) × Fills_exprs es fs
Fills_simple (Update t op a e) (Update u oq b f) = Fills_expr t u × (op ≡ oq) × (a ≡ b) × Fills_expr e f
Fills_simple (Define xs a es) (Define ys b fs) = (xs ≡ ys) × (a ≡ b) × Fills_exprs es fs
Fills_simple _ _ = ⊥

abbrev pub Fills_init : Option SimpleTree × Span → Option SimpleTree × Span → Type 0
Fills_init i j = Fills_some Fills_simple i.0 j.0 × (i.1 ≡ j.1)

abbrev pub Fills_if : IfTree → IfTree → Type 0
Fills_if h k = Fills_some Fills_init h.init k.init × Fills_expr h.condition k.condition

abbrev pub Fills_for : ForTree → ForTree → Type 0
Fills_for Forever Forever = Unit {0}
Fills_for (While t) (While u) = Fills_expr t u
Fills_for (Clauses i a t b p) (Clauses j c u d q) = Fills_some Fills_simple i j × (a ≡ c) × Fills_some Fills_expr t u × (b ≡ d) × Fills_some Fills_simple p q
Fills_for _ _ = ⊥

abbrev mutual
  pub Fills_stmt : StmtTree → StmtTree → Type 0
  Fills_stmt Empty Empty = Unit {0}
  Fills_stmt (Declare v) (Declare w) = Fills_value v w
  Fills_stmt (Simple s) (Simple r) = Fills_simple s r
  Fills_stmt (Return a es) (Return b fs) = (a ≡ b) × Fills_some Fills_exprs es fs
  Fills_stmt (Break a) (Break b) = a ≡ b
  Fills_stmt (Continue a) (Continue b) = a ≡ b
  Fills_stmt (Block a ls z) (Block b ms y) = (a ≡ b) × Fills_lines ls ms × (z ≡ y)
  Fills_stmt (If c) (If d) = Fills_branch c d
  Fills_stmt (For k g a ls z) (For l h b ms y) = (k ≡ l) × Fills_for g h × (a ≡ b) × Fills_lines ls ms × (z ≡ y)
  Fills_stmt _ _ = ⊥

  pub Fills_branch : BranchTree → BranchTree → Type 0
  Fills_branch (Branch k g a ls z e) (Branch l h b ms y f) = (k ≡ l) × Fills_if g h × (a ≡ b) × Fills_lines ls ms × (z ≡ y) × Fills_else e f

  pub Fills_else : ElseTree → ElseTree → Type 0
  Fills_else NoElse NoElse = Unit {0}
  Fills_else (ElseBlock k a ls z) (ElseBlock l b ms y) = (k ≡ l) × (a ≡ b) × Fills_lines ls ms × (z ≡ y)
  Fills_else (ElseIf k c) (ElseIf l d) = (k ≡ l) × Fills_branch c d
  Fills_else _ _ = ⊥

  pub Fills_lines : Lines → Lines → Type 0
  Fills_lines NoLines NoLines = Unit {0}
  Fills_lines (Line c s rest) (Line d r more) = Fills_stmt c d × Fills_semicolon s r × Fills_lines rest more
  Fills_lines _ _ = ⊥

-- functions and files

abbrev pub Fills_func : FuncTree → FuncTree → Type 0
Fills_func m f = (m.func ≡ f.func) × (m.receiver ≡ f.receiver) × (m.name ≡ f.name) × Fills_signature m.signature f.signature × (m.open_brace ≡ f.open_brace) × Fills_lines m.body f.body × (m.close_brace ≡ f.close_brace)

abbrev pub Fills_decl : DeclTree → DeclTree → Type 0
Fills_decl (Value v) (Value w) = Fills_value v w
Fills_decl (Types t) (Types u) = Fills_types t u
Fills_decl (Func m) (Func f) = Fills_func m f
Fills_decl _ _ = ⊥

abbrev pub Fills_tops : List TopTree → List TopTree → Type 0
Fills_tops [] [] = Unit {0}
Fills_tops (m ∷ ms) (d ∷ ds) = Fills_decl m.decl d.decl × (m.semicolon ≡ d.semicolon) × Fills_tops ms ds
Fills_tops _ _ = ⊥

abbrev pub Fills_import : ImportSpecTree → ImportSpecTree → Type 0
Fills_import i j = i ≡ j

abbrev pub Fills_imports : List ImportTree → List ImportTree → Type 0
Fills_imports [] [] = Unit {0}
Fills_imports (i ∷ is) (j ∷ js) = (i.keyword ≡ j.keyword) × Fills_specs Fills_import i.specs j.specs × (i.semicolon ≡ j.semicolon) × Fills_imports is js
Fills_imports _ _ = ⊥

abbrev pub Fills_file : FileTree → FileTree → Type 0
Fills_file m f = (m.clause ≡ f.clause) × (m.name ≡ f.name) × (m.semicolon ≡ f.semicolon) × Fills_imports m.imports f.imports × Fills_tops m.decls f.decls

-- a tree has a semicolon wherever one may stand: to fill it changes nothing
abbrev pub IsFull : FileTree → Type 0
IsFull f = Fills_file f f

-- the tree respects the rules of the grammar and has all its semicolons, and the tokens of the text are what it writes, with some
-- semicolons left out before a closing mark
pub record HasWholeTree (text : List ℕ) (f : FileTree) : Type 0 where
  pub tokens : List Token
  pub scanned : IsAnswer text (Ok tokens)
  pub wf : Wf_file f
  pub full : IsFull f
  pub left_out : LeftOut (symbols_file f) (terminals text tokens)

-- a tree of a text can be filled to one that writes all its semicolons, and is as high
abbrev pub MarkedIsWhole : Type 0
MarkedIsWhole = (text : List ℕ) (m : FileTree) → HasTree text m → (f : FileTree) × HasWholeTree text f × Fills_file m f × (file_height f ≡ file_height m)

-- a tree that writes all its semicolons fills one of the text, which is as high
abbrev pub WholeIsMarked : Type 0
WholeIsMarked = (text : List ℕ) (f : FileTree) → HasWholeTree text f → (m : FileTree) × HasTree text m × Fills_file m f × (file_height m ≡ file_height f)

-- two whole trees of a text differ at most in the places of semicolons that the text leaves out
abbrev pub HasOneWholeTree : Type 0
HasOneWholeTree = (text : List ℕ) (f g : FileTree) → HasWholeTree text f → HasWholeTree text g → (m : FileTree) × HasTree text m × Fills_file m f × Fills_file m g
