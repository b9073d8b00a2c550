-- A tree whose identifiers stay as they were is the tree that it was.
use Rattle.std.proofs.Common.{◌≡◌, List, [], ◌∷◌, map, Option, Some, None, refl, ap, ◌∙◌}
use Rattle.go_tree_nodes.specs.text_core.declared.span.Span.{Span}
use Rattle.go_tree_nodes.specs.declared.names.Ident.{Ident}
use Rattle.go_tree_nodes.specs.declared.names.TextLiteral.{TextLiteral}
use Rattle.go_tree_nodes.specs.declared.decls.ValueKind.{ValueKind}
use Rattle.go_tree_nodes.specs.declared.types.TypeName.{TypeName}
use Rattle.go_tree_nodes.specs.declared.types.TypeName.TheVariants as type_name
use Rattle.go_tree_nodes.specs.declared.exprs.Key.{Key}
use Rattle.go_tree_nodes.specs.declared.files.ImportName.{ImportName}
use Rattle.go_tree_nodes.specs.declared.files.ImportName.TheVariants as import_name
use Rattle.go_tree_nodes.specs.declared.files.Receiver.{Receiver}
use Rattle.go_tree_nodes.specs.Trees.{Separated, One, Then, TypeTree, FieldTrees, MethodTrees, SignatureTree, ResultTree, ParamTrees, NamedType, Pointer, ParenType, Struct, Interface, NoFields, NamedFields, EmbeddedField, NoMethods, Method, Signed, NoResult, OneResult, Results, NoParams, Param, ExprTree, ItemTrees, Integer, Text, Named, Paren, Unary, Binary, Select, Call, Literal, StructLiteral, NoItems, Item, ValueSpecTree, Specs, Single, Group, ValueTree, TypeSpecTree, TypeDeclTree, SimpleTree, Alone, Step, Assign, Update, Define, IfTree, Forever, While, Clauses, StmtTree, BranchTree, ElseTree, Lines, Empty, Declare, Simple, Return, Break, Continue, Block, If, For, Branch, NoElse, ElseBlock, ElseIf, NoLines, Line, FuncTree, DeclTree, Value, Types, Func, TopTree, ImportSpecTree, ImportTree, FileTree}
use Rattle.go_tree_core.specs.copies.Respelled.{separated_with, some_with, names_with, type_name_with, type_with, fields_with, methods_with, signature_with, result_with, params_with, key_with, expr_with, items_with, exprs_with, values_with, value_spec_with, line_with, specs_with, value_with, type_spec_with, type_decl_with, simple_with, init_with, if_with, for_with, stmt_with, branch_with, else_with, lines_with, receiver_with, func_with, decl_with, top_with, import_name_with, import_spec_with, import_with, file_with}

-- a map that leaves each thing as it is
abbrev Keeps : {A : Type 0} → (A → A) → Type 0
Keeps {A} f = (x : A) → f x ≡ x

keeps_separated : {A : Type 0} (f : A → A) → Keeps f → Keeps (separated_with f)
keeps_separated f k (One x) = ap One (k x)
keeps_separated f k (Then x comma more) = ap (λ x. Then x comma (separated_with f more)) (k x) ∙ ap (Then x comma) (keeps_separated f k more)

keeps_some : {A : Type 0} (f : A → A) → Keeps f → Keeps (some_with f)
keeps_some f k None = refl
keeps_some f k (Some x) = ap Some (k x)

keeps_map : {A : Type 0} (f : A → A) → Keeps f → Keeps (map f)
keeps_map f k [] = refl
keeps_map f k (x ∷ xs) = ap (λ x. x ∷ map f xs) (k x) ∙ ap (λ l. x ∷ l) (keeps_map f k xs)

keeps_line : {A : Type 0} (f : A → A) → Keeps f → Keeps (line_with f)
keeps_line f k l = ap (λ x. (x, l.1)) (k l.0)

keeps_specs : {A : Type 0} (f : A → A) → Keeps f → Keeps (specs_with f)
keeps_specs f k (Single x) = ap Single (k x)
keeps_specs f k (Group first ls last) = ap (λ l. Group first l last) (keeps_map (line_with f) (keeps_line f k) ls)

-- records by their parts

abbrev key_of : Span → Ident → Key
key_of colon x = record { name = x; colon = colon }

abbrev value_spec_of : Separated Ident → Option TypeTree → Option (Span × Separated ExprTree) → ValueSpecTree
value_spec_of xs t vs = record { names = xs; type_expr = t; values = vs }

abbrev pub value_of : ValueKind → Span → Specs ValueSpecTree → ValueTree
value_of kind keyword specs = record { kind = kind; keyword = keyword; specs = specs }

abbrev type_spec_of : Option Span → Ident → TypeTree → TypeSpecTree
type_spec_of alias x t = record { name = x; alias = alias; type_expr = t }

abbrev pub type_decl_of : Span → Specs TypeSpecTree → TypeDeclTree
type_decl_of keyword specs = record { keyword = keyword; specs = specs }

abbrev if_of : Option (Option SimpleTree × Span) → ExprTree → IfTree
if_of init e = record { init = init; condition = e }

abbrev receiver_of : Receiver → Option Ident → TypeName → Receiver
receiver_of r x n = record { open_paren = r.open_paren; name = x; star = r.star; base = n; comma = r.comma; close_paren = r.close_paren }

abbrev func_of : FuncTree → Option Receiver → Ident → SignatureTree → Lines → FuncTree
func_of f r x g ls = record { func = f.func; receiver = r; name = x; signature = g; open_brace = f.open_brace; body = ls; close_brace = f.close_brace }

abbrev top_of : Span → DeclTree → TopTree
top_of semicolon d = record { decl = d; semicolon = semicolon }

abbrev import_spec_of : TextLiteral → ImportName → ImportSpecTree
import_spec_of path n = record { name = n; path = path }

abbrev pub import_of : Span → Span → Specs ImportSpecTree → ImportTree
import_of keyword semicolon specs = record { keyword = keyword; specs = specs; semicolon = semicolon }

abbrev file_of : FileTree → Ident → List ImportTree → List TopTree → FileTree
file_of f x is ds = record { clause = f.clause; name = x; semicolon = f.semicolon; imports = is; decls = ds }

module _ (h : Ident → Ident) (k : (x : Ident) → h x ≡ x) where
  keeps_type_name : Keeps (type_name_with h)
  keeps_type_name (type_name.Plain x) = ap type_name.Plain (k x)
  keeps_type_name (type_name.Qualified p dot x) = ap (λ p. type_name.Qualified p dot (h x)) (k p) ∙ ap (type_name.Qualified p dot) (k x)

  keeps_names : Keeps (names_with h)
  keeps_names xs = keeps_some (separated_with h) (keeps_separated h k) xs

  mutual
    keeps_type : (t : TypeTree) → type_with h t ≡ t
    keeps_type (NamedType n) = ap NamedType (keeps_type_name n)
    keeps_type (Pointer star t) = ap (Pointer star) (keeps_type t)
    keeps_type (ParenType first t last) = ap (λ t. ParenType first t last) (keeps_type t)
    keeps_type (Struct word first ls last) = ap (λ l. Struct word first l last) (keeps_fields ls)
    keeps_type (Interface word first ms last) = ap (λ m. Interface word first m last) (keeps_methods ms)

    keeps_fields : (ls : FieldTrees) → fields_with h ls ≡ ls
    keeps_fields NoFields = refl
    keeps_fields (NamedFields xs t tag s rest) =
        ap (λ x. NamedFields x (type_with h t) tag s (fields_with h rest)) (keeps_separated h k xs) ∙ ap (λ t. NamedFields xs t tag s (fields_with h rest)) (keeps_type t) ∙ ap (NamedFields xs t tag s) (keeps_fields rest)
    keeps_fields (EmbeddedField star n tag s rest) = ap (λ n. EmbeddedField star n tag s (fields_with h rest)) (keeps_type_name n) ∙ ap (EmbeddedField star n tag s) (keeps_fields rest)

    keeps_methods : (ms : MethodTrees) → methods_with h ms ≡ ms
    keeps_methods NoMethods = refl
    keeps_methods (Method x signature s rest) =
        ap (λ x. Method x (signature_with h signature) s (methods_with h rest)) (k x) ∙ ap (λ g. Method x g s (methods_with h rest)) (keeps_signature signature) ∙ ap (Method x signature s) (keeps_methods rest)

    keeps_signature : (g : SignatureTree) → signature_with h g ≡ g
    keeps_signature (Signed first params last result) = ap (λ p. Signed first p last (result_with h result)) (keeps_params params) ∙ ap (Signed first params last) (keeps_result result)

    keeps_result : (r : ResultTree) → result_with h r ≡ r
    keeps_result NoResult = refl
    keeps_result (OneResult t) = ap OneResult (keeps_type t)
    keeps_result (Results first params last) = ap (λ p. Results first p last) (keeps_params params)

    keeps_params : (ps : ParamTrees) → params_with h ps ≡ ps
    keeps_params NoParams = refl
    keeps_params (Param xs t comma rest) =
        ap (λ x. Param x (type_with h t) comma (params_with h rest)) (keeps_names xs) ∙ ap (λ t. Param xs t comma (params_with h rest)) (keeps_type t) ∙ ap (Param xs t comma) (keeps_params rest)

  keeps_key : Keeps (key_with h)
  keeps_key x = ap (key_of x.colon) (k x.name)

  mutual
    keeps_expr : (e : ExprTree) → expr_with h e ≡ e
    keeps_expr (Integer n span) = refl
    keeps_expr (Text t) = refl
    keeps_expr (Named x) = ap Named (k x)
    keeps_expr (Paren first t last) = ap (λ t. Paren first t last) (keeps_expr t)
    keeps_expr (Unary op span t) = ap (Unary op span) (keeps_expr t)
    keeps_expr (Binary a op span b) = ap (λ a. Binary a op span (expr_with h b)) (keeps_expr a) ∙ ap (Binary a op span) (keeps_expr b)
    keeps_expr (Select t dot x) = ap (λ t. Select t dot (h x)) (keeps_expr t) ∙ ap (Select t dot) (k x)
    keeps_expr (Call t first items last) = ap (λ t. Call t first (items_with h items) last) (keeps_expr t) ∙ ap (λ l. Call t first l last) (keeps_items items)
    keeps_expr (Literal n first items last) = ap (λ n. Literal n first (items_with h items) last) (keeps_type_name n) ∙ ap (λ l. Literal n first l last) (keeps_items items)
    keeps_expr (StructLiteral t first items last) = ap (λ t. StructLiteral t first (items_with h items) last) (keeps_type t) ∙ ap (λ l. StructLiteral t first l last) (keeps_items items)

    keeps_items : (is : ItemTrees) → items_with h is ≡ is
    keeps_items NoItems = refl
    keeps_items (Item key t comma rest) =
        ap (λ key. Item key (expr_with h t) comma (items_with h rest)) (keeps_some (key_with h) keeps_key key) ∙ ap (λ t. Item key t comma (items_with h rest)) (keeps_expr t) ∙ ap (Item key t comma) (keeps_items rest)

  keeps_exprs : Keeps (exprs_with h)
  keeps_exprs es = keeps_separated (expr_with h) keeps_expr es

  keeps_values : Keeps (values_with h)
  keeps_values v = ap (λ es. (v.0, es)) (keeps_exprs v.1)

  keeps_value_spec : Keeps (value_spec_with h)
  keeps_value_spec v =
      ap (λ xs. value_spec_of xs (some_with (type_with h) v.type_expr) (some_with (values_with h) v.values)) (keeps_separated h k v.names)
      ∙ ap (λ t. value_spec_of v.names t (some_with (values_with h) v.values)) (keeps_some (type_with h) keeps_type v.type_expr)
      ∙ ap (value_spec_of v.names v.type_expr) (keeps_some (values_with h) keeps_values v.values)

  keeps_value : Keeps (value_with h)
  keeps_value v = ap (value_of v.kind v.keyword) (keeps_specs (value_spec_with h) keeps_value_spec v.specs)

  keeps_type_spec : Keeps (type_spec_with h)
  keeps_type_spec t = ap (λ x. type_spec_of t.alias x (type_with h t.type_expr)) (k t.name) ∙ ap (type_spec_of t.alias t.name) (keeps_type t.type_expr)

  keeps_type_decl : Keeps (type_decl_with h)
  keeps_type_decl t = ap (type_decl_of t.keyword) (keeps_specs (type_spec_with h) keeps_type_spec t.specs)

  keeps_simple : Keeps (simple_with h)
  keeps_simple (Alone t) = ap Alone (keeps_expr t)
  keeps_simple (Step t op span) = ap (λ t. Step t op span) (keeps_expr t)
  keeps_simple (Assign ts span es) = ap (λ t. Assign t span (exprs_with h es)) (keeps_exprs ts) ∙ ap (Assign ts span) (keeps_exprs es)
  keeps_simple (Update t op span e) = ap (λ t. Update t op span (expr_with h e)) (keeps_expr t) ∙ ap (Update t op span) (keeps_expr e)
  keeps_simple (Define xs span es) = ap (λ x. Define x span (exprs_with h es)) (keeps_separated h k xs) ∙ ap (Define xs span) (keeps_exprs es)

  keeps_some_simple : Keeps (some_with (simple_with h))
  keeps_some_simple s = keeps_some (simple_with h) keeps_simple s

  keeps_init : Keeps (init_with h)
  keeps_init i = ap (λ s. (s, i.1)) (keeps_some_simple i.0)

  keeps_if : Keeps (if_with h)
  keeps_if i = ap (λ s. if_of s (expr_with h i.condition)) (keeps_some (init_with h) keeps_init i.init) ∙ ap (if_of i.init) (keeps_expr i.condition)

  keeps_for : Keeps (for_with h)
  keeps_for Forever = refl
  keeps_for (While t) = ap While (keeps_expr t)
  keeps_for (Clauses init a test b post) =
      ap (λ i. Clauses i a (some_with (expr_with h) test) b (some_with (simple_with h) post)) (keeps_some_simple init) ∙ ap (λ t. Clauses init a t b (some_with (simple_with h) post)) (keeps_some (expr_with h) keeps_expr test)
      ∙ ap (Clauses init a test b) (keeps_some_simple post)

  mutual
    keeps_stmt : (s : StmtTree) → stmt_with h s ≡ s
    keeps_stmt Empty = refl
    keeps_stmt (Declare v) = ap Declare (keeps_value v)
    keeps_stmt (Simple s) = ap Simple (keeps_simple s)
    keeps_stmt (Return s es) = ap (Return s) (keeps_some (exprs_with h) keeps_exprs es)
    keeps_stmt (Break s) = refl
    keeps_stmt (Continue s) = refl
    keeps_stmt (Block first ls last) = ap (λ l. Block first l last) (keeps_lines ls)
    keeps_stmt (If b) = ap If (keeps_branch b)
    keeps_stmt (For word head first ls last) = ap (λ i. For word i first (lines_with h ls) last) (keeps_for head) ∙ ap (λ l. For word head first l last) (keeps_lines ls)

    keeps_branch : (b : BranchTree) → branch_with h b ≡ b
    keeps_branch (Branch word head first ls last otherwise) =
        ap (λ i. Branch word i first (lines_with h ls) last (else_with h otherwise)) (keeps_if head) ∙ ap (λ l. Branch word head first l last (else_with h otherwise)) (keeps_lines ls) ∙ ap (Branch word head first ls last) (keeps_else otherwise)

    keeps_else : (e : ElseTree) → else_with h e ≡ e
    keeps_else NoElse = refl
    keeps_else (ElseBlock word first ls last) = ap (λ l. ElseBlock word first l last) (keeps_lines ls)
    keeps_else (ElseIf word b) = ap (ElseIf word) (keeps_branch b)

    keeps_lines : (ls : Lines) → lines_with h ls ≡ ls
    keeps_lines NoLines = refl
    keeps_lines (Line c s rest) = ap (λ c. Line c s (lines_with h rest)) (keeps_stmt c) ∙ ap (Line c s) (keeps_lines rest)

  keeps_receiver : Keeps (receiver_with h)
  keeps_receiver r = ap (λ x. receiver_of r x (type_name_with h r.base)) (keeps_some h k r.name) ∙ ap (receiver_of r r.name) (keeps_type_name r.base)

  keeps_func : Keeps (func_with h)
  keeps_func f =
      ap (λ r. func_of f r (h f.name) (signature_with h f.signature) (lines_with h f.body)) (keeps_some (receiver_with h) keeps_receiver f.receiver)
      ∙ ap (λ x. func_of f f.receiver x (signature_with h f.signature) (lines_with h f.body)) (k f.name)
      ∙ ap (λ g. func_of f f.receiver f.name g (lines_with h f.body)) (keeps_signature f.signature)
      ∙ ap (func_of f f.receiver f.name f.signature) (keeps_lines f.body)

  keeps_decl : Keeps (decl_with h)
  keeps_decl (Value v) = ap Value (keeps_value v)
  keeps_decl (Types t) = ap Types (keeps_type_decl t)
  keeps_decl (Func f) = ap Func (keeps_func f)

  keeps_top : Keeps (top_with h)
  keeps_top d = ap (top_of d.semicolon) (keeps_decl d.decl)

  keeps_import_name : Keeps (import_name_with h)
  keeps_import_name import_name.Own = refl
  keeps_import_name (import_name.Named x) = ap import_name.Named (k x)
  keeps_import_name (import_name.Dot s) = refl

  keeps_import_spec : Keeps (import_spec_with h)
  keeps_import_spec i = ap (import_spec_of i.path) (keeps_import_name i.name)

  keeps_import : Keeps (import_with h)
  keeps_import i = ap (import_of i.keyword i.semicolon) (keeps_specs (import_spec_with h) keeps_import_spec i.specs)

  pub keeps_file : (f : FileTree) → file_with h f ≡ f
  keeps_file f =
      ap (λ x. file_of f x (map (import_with h) f.imports) (map (top_with h) f.decls)) (k f.name)
      ∙ ap (λ is. file_of f f.name is (map (top_with h) f.decls)) (keeps_map (import_with h) keeps_import f.imports)
      ∙ ap (file_of f f.name f.imports) (keeps_map (top_with h) keeps_top f.decls)
