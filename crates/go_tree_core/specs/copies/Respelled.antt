-- Trees in which each identifier is another: all else is as it was. And files in which the identifier that begins at an offset is spelled otherwise.
use Rattle.std.specs.Prelude.{ℕ, List, map, nat_eq, Option, Some, None, if◌then◌else◌}
use Rattle.go_tree_nodes.specs.text_core.declared.span.Span.{Span}
use Rattle.go_tree_nodes.specs.declared.names.Ident.{Ident}
use Rattle.go_tree_nodes.specs.declared.types.TypeName.{TypeName}
use Rattle.go_tree_nodes.specs.declared.types.TypeName.TheVariants as type_name
use Rattle.go_tree_nodes.specs.declared.exprs.Key.{Key}
use Rattle.go_tree_nodes.specs.declared.files.ImportName.{ImportName}
use Rattle.go_tree_nodes.specs.declared.files.ImportName.TheVariants as import_name
use Rattle.go_tree_nodes.specs.declared.files.Receiver.{Receiver}
use Rattle.go_tree_nodes.specs.Trees.{Separated, One, Then, TypeTree, FieldTrees, MethodTrees, SignatureTree, ResultTree, ParamTrees, NamedType, Pointer, ParenType, Struct, Interface, NoFields, NamedFields, EmbeddedField, NoMethods, Method, Signed, NoResult, OneResult, Results, NoParams, Param, ExprTree, ItemTrees, Integer, Text, Named, Paren, Unary, Binary, Select, Call, Literal, StructLiteral, NoItems, Item, ValueSpecTree, Specs, Single, Group, ValueTree, TypeSpecTree, TypeDeclTree, SimpleTree, Alone, Step, Assign, Update, Define, IfTree, ForTree, Forever, While, Clauses, StmtTree, BranchTree, ElseTree, Lines, Empty, Declare, Simple, Return, Break, Continue, Block, If, For, Branch, NoElse, ElseBlock, ElseIf, NoLines, Line, FuncTree, DeclTree, Value, Types, Func, TopTree, ImportSpecTree, ImportTree, FileTree}
use Rattle.go_tree_core.specs.declared.copies.copier.Copier.{Copier}
use Rattle.go_tree_core.specs.declared.copies.copier.Renaming.{Renaming}

-- which identifier each becomes

-- the identifier that begins at an offset is spelled as a name, where it stands
abbrev pub respelled_ident : ℕ → List ℕ → Ident → Ident
respelled_ident start name x = record { name = if nat_eq x.span.start start then name else x.name; span = x.span }

-- as copies are made: with a renaming, or without
abbrev pub spelled_by : Option Renaming → Ident → Ident
spelled_by None x = x
spelled_by (Some r) x = respelled_ident r.start r.name.now x

abbrev pub spelled : Copier → Ident → Ident
spelled c = spelled_by c.renaming

-- names

abbrev pub separated_with : {A : Type 0} → (A → A) → Separated A → Separated A
separated_with f (One x) = One (f x)
separated_with f (Then x comma more) = Then (f x) comma (separated_with f more)

abbrev pub some_with : {A : Type 0} → (A → A) → Option A → Option A
some_with f None = None
some_with f (Some x) = Some (f x)

abbrev pub names_with : (Ident → Ident) → Option (Separated Ident) → Option (Separated Ident)
names_with h xs = some_with (separated_with h) xs

-- types

abbrev pub type_name_with : (Ident → Ident) → TypeName → TypeName
type_name_with h (type_name.Plain x) = type_name.Plain (h x)
type_name_with h (type_name.Qualified p dot x) = type_name.Qualified (h p) dot (h x)

abbrev mutual
  pub type_with : (Ident → Ident) → TypeTree → TypeTree
  type_with h (NamedType n) = NamedType (type_name_with h n)
  type_with h (Pointer star t) = Pointer star (type_with h t)
  type_with h (ParenType first t last) = ParenType first (type_with h t) last
  type_with h (Struct k first ls last) = Struct k first (fields_with h ls) last
  type_with h (Interface k first methods last) = Interface k first (methods_with h methods) last

  pub fields_with : (Ident → Ident) → FieldTrees → FieldTrees
  fields_with h NoFields = NoFields
  fields_with h (NamedFields xs t tag s rest) = NamedFields (separated_with h xs) (type_with h t) tag s (fields_with h rest)
  fields_with h (EmbeddedField star n tag s rest) = EmbeddedField star (type_name_with h n) tag s (fields_with h rest)

  pub methods_with : (Ident → Ident) → MethodTrees → MethodTrees
  methods_with h NoMethods = NoMethods
  methods_with h (Method x signature s rest) = Method (h x) (signature_with h signature) s (methods_with h rest)

  pub signature_with : (Ident → Ident) → SignatureTree → SignatureTree
  signature_with h (Signed first params last result) = Signed first (params_with h params) last (result_with h result)

  pub result_with : (Ident → Ident) → ResultTree → ResultTree
  result_with h NoResult = NoResult
  result_with h (OneResult t) = OneResult (type_with h t)
  result_with h (Results first params last) = Results first (params_with h params) last

  pub params_with : (Ident → Ident) → ParamTrees → ParamTrees
  params_with h NoParams = NoParams
  params_with h (Param xs t comma rest) = Param (names_with h xs) (type_with h t) comma (params_with h rest)

-- expressions

abbrev pub key_with : (Ident → Ident) → Key → Key
key_with h k = record { name = h k.name; colon = k.colon }

abbrev mutual
  pub expr_with : (Ident → Ident) → ExprTree → ExprTree
  expr_with h (Integer n span) = Integer n span
  expr_with h (Text t) = Text t
  expr_with h (Named x) = Named (h x)
  expr_with h (Paren first t last) = Paren first (expr_with h t) last
  expr_with h (Unary op span t) = Unary op span (expr_with h t)
  expr_with h (Binary a op span b) = Binary (expr_with h a) op span (expr_with h b)
  expr_with h (Select t dot x) = Select (expr_with h t) dot (h x)
  expr_with h (Call t first items last) = Call (expr_with h t) first (items_with h items) last
  expr_with h (Literal n first items last) = Literal (type_name_with h n) first (items_with h items) last
  expr_with h (StructLiteral t first items last) = StructLiteral (type_with h t) first (items_with h items) last

  pub items_with : (Ident → Ident) → ItemTrees → ItemTrees
  items_with h NoItems = NoItems
  items_with h (Item key t comma rest) = Item (some_with (key_with h) key) (expr_with h t) comma (items_with h rest)

abbrev pub exprs_with : (Ident → Ident) → Separated ExprTree → Separated ExprTree
exprs_with h ts = separated_with (expr_with h) ts

-- declarations

abbrev pub values_with : (Ident → Ident) → Span × Separated ExprTree → Span × Separated ExprTree
values_with h v = (v.0, exprs_with h v.1)

abbrev pub value_spec_with : (Ident → Ident) → ValueSpecTree → ValueSpecTree
value_spec_with h v = record { names = separated_with h v.names; type_expr = some_with (type_with h) v.type_expr; values = some_with (values_with h) v.values }

-- one of several in parentheses
abbrev pub line_with : {A : Type 0} → (A → A) → A × Option Span → A × Option Span
line_with f l = (f l.0, l.1)

abbrev pub specs_with : {A : Type 0} → (A → A) → Specs A → Specs A
specs_with f (Single x) = Single (f x)
specs_with f (Group first ls last) = Group first (map (line_with f) ls) last

abbrev pub value_with : (Ident → Ident) → ValueTree → ValueTree
value_with h v = record { kind = v.kind; keyword = v.keyword; specs = specs_with (value_spec_with h) v.specs }

abbrev pub type_spec_with : (Ident → Ident) → TypeSpecTree → TypeSpecTree
type_spec_with h t = record { name = h t.name; alias = t.alias; type_expr = type_with h t.type_expr }

abbrev pub type_decl_with : (Ident → Ident) → TypeDeclTree → TypeDeclTree
type_decl_with h t = record { keyword = t.keyword; specs = specs_with (type_spec_with h) t.specs }

-- statements

abbrev pub simple_with : (Ident → Ident) → SimpleTree → SimpleTree
simple_with h (Alone t) = Alone (expr_with h t)
simple_with h (Step t op span) = Step (expr_with h t) op span
simple_with h (Assign ts span es) = Assign (exprs_with h ts) span (exprs_with h es)
simple_with h (Update t op span e) = Update (expr_with h t) op span (expr_with h e)
simple_with h (Define xs span es) = Define (separated_with h xs) span (exprs_with h es)

abbrev pub init_with : (Ident → Ident) → Option SimpleTree × Span → Option SimpleTree × Span
init_with h i = (some_with (simple_with h) i.0, i.1)

abbrev pub if_with : (Ident → Ident) → IfTree → IfTree
if_with h i = record { init = some_with (init_with h) i.init; condition = expr_with h i.condition }

abbrev pub for_with : (Ident → Ident) → ForTree → ForTree
for_with h Forever = Forever
for_with h (While t) = While (expr_with h t)
for_with h (Clauses init a test b post) = Clauses (some_with (simple_with h) init) a (some_with (expr_with h) test) b (some_with (simple_with h) post)

abbrev mutual
  pub stmt_with : (Ident → Ident) → StmtTree → StmtTree
  stmt_with h Empty = Empty
  stmt_with h (Declare v) = Declare (value_with h v)
  stmt_with h (Simple s) = Simple (simple_with h s)
  stmt_with h (Return s es) = Return s (some_with (exprs_with h) es)
  stmt_with h (Break s) = Break s
  stmt_with h (Continue s) = Continue s
  stmt_with h (Block first ls last) = Block first (lines_with h ls) last
  stmt_with h (If b) = If (branch_with h b)
  stmt_with h (For k head first ls last) = For k (for_with h head) first (lines_with h ls) last

  pub branch_with : (Ident → Ident) → BranchTree → BranchTree
  branch_with h (Branch k head first ls last otherwise) = Branch k (if_with h head) first (lines_with h ls) last (else_with h otherwise)

  pub else_with : (Ident → Ident) → ElseTree → ElseTree
  else_with h NoElse = NoElse
  else_with h (ElseBlock k first ls last) = ElseBlock k first (lines_with h ls) last
  else_with h (ElseIf k b) = ElseIf k (branch_with h b)

  pub lines_with : (Ident → Ident) → Lines → Lines
  lines_with h NoLines = NoLines
  lines_with h (Line c s rest) = Line (stmt_with h c) s (lines_with h rest)

-- functions, imports and files

abbrev pub receiver_with : (Ident → Ident) → Receiver → Receiver
receiver_with h r = record { open_paren = r.open_paren; name = some_with h r.name; star = r.star; base = type_name_with h r.base; comma = r.comma; close_paren = r.close_paren }

abbrev pub func_with : (Ident → Ident) → FuncTree → FuncTree
func_with h f = record { func = f.func; receiver = some_with (receiver_with h) f.receiver; name = h f.name; signature = signature_with h f.signature; open_brace = f.open_brace; body = lines_with h f.body; close_brace = f.close_brace }

abbrev pub decl_with : (Ident → Ident) → DeclTree → DeclTree
decl_with h (Value v) = Value (value_with h v)
decl_with h (Types t) = Types (type_decl_with h t)
decl_with h (Func f) = Func (func_with h f)

abbrev pub top_with : (Ident → Ident) → TopTree → TopTree
top_with h d = record { decl = decl_with h d.decl; semicolon = d.semicolon }

abbrev pub import_name_with : (Ident → Ident) → ImportName → ImportName
import_name_with h import_name.Own = import_name.Own
import_name_with h (import_name.Named x) = import_name.Named (h x)
import_name_with h (import_name.Dot s) = import_name.Dot s

abbrev pub import_spec_with : (Ident → Ident) → ImportSpecTree → ImportSpecTree
import_spec_with h i = record { name = import_name_with h i.name; path = i.path }

abbrev pub import_with : (Ident → Ident) → ImportTree → ImportTree
import_with h i = record { keyword = i.keyword; specs = specs_with (import_spec_with h) i.specs; semicolon = i.semicolon }

abbrev pub file_with : (Ident → Ident) → FileTree → FileTree
file_with h f = record { clause = f.clause; name = h f.name; semicolon = f.semicolon; imports = map (import_with h) f.imports; decls = map (top_with h) f.decls }

-- the file in which each identifier that begins at an offset is spelled as a name; each span stays, and all else
abbrev pub respelled_file : ℕ → List ℕ → FileTree → FileTree
respelled_file start name f = file_with (respelled_ident start name) f
