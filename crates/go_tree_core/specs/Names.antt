-- The names that a file declares, its blank targets, its calls and its imports, each in order of their places. Nothing here looks at an occurrence.
use Rattle.std.specs.Prelude.{List, [], ◌∷◌, ◌++◌, Option, Some, None, if◌then◌else◌}
use Rattle.go_tree_nodes.specs.text_core.declared.span.Span.{Span}
use Rattle.go_tree_nodes.specs.text_core.Text.{is_blank}
use Rattle.go_tree_nodes.specs.declared.names.Ident.{Ident}
use Rattle.go_tree_nodes.specs.declared.names.TextLiteral.{TextLiteral}
use Rattle.go_tree_nodes.specs.declared.files.ImportName.{ImportName}
use Rattle.go_tree_nodes.specs.declared.files.ImportName.TheVariants as import_name
use Rattle.go_tree_nodes.specs.declared.files.Receiver.{Receiver}
use Rattle.go_tree_nodes.specs.Trees.{Separated, One, Then, TypeTree, FieldTrees, MethodTrees, SignatureTree, ResultTree, ParamTrees, NamedType, Pointer, ParenType, Struct, Interface, NoFields, NamedFields, EmbeddedField, NoMethods, Method, Signed, NoResult, OneResult, Results, NoParams, Param, ExprTree, ItemTrees, Integer, Text, Named, Paren, Unary, Binary, Select, Call, Literal, StructLiteral, NoItems, Item, ValueSpecTree, Specs, Single, Group, ValueTree, TypeSpecTree, TypeDeclTree, SimpleTree, Alone, Step, Assign, Update, Define, IfTree, ForTree, Forever, While, Clauses, StmtTree, BranchTree, ElseTree, Lines, Empty, Declare, Simple, Return, Break, Continue, Block, If, For, Branch, NoElse, ElseBlock, ElseIf, NoLines, Line, FuncTree, DeclTree, Value, Types, Func, TopTree, ImportTree, FileTree}

-- what is taken of the parts of a file

-- what is taken of a name that is declared, of a type, of a signature, of an expression, and of an expression left of `=`
pub record Taking (A : Type 0) : Type 0 where
  pub of_name : Ident → List A
  pub of_type : TypeTree → List A
  pub of_signature : SignatureTree → List A
  pub of_expr : ExprTree → List A
  pub of_target : ExprTree → List A

abbrev pub take_some : {A B : Type 0} → (B → List A) → Option B → List A
take_some f None = []
take_some f (Some x) = f x

abbrev pub take_each : {A B : Type 0} → (B → List A) → Separated B → List A
take_each f (One x) = f x
take_each f (Then x comma more) = f x ++ take_each f more

abbrev pub take_group : {A B : Type 0} → (B → List A) → List (B × Option Span) → List A
take_group f [] = []
take_group f (x ∷ xs) = f x.0 ++ take_group f xs

abbrev pub take_specs : {A B : Type 0} → (B → List A) → Specs B → List A
take_specs f (Single x) = f x
take_specs f (Group first xs last) = take_group f xs

abbrev pub take_values : {A : Type 0} → Taking A → Option (Span × Separated ExprTree) → List A
take_values t v = take_some (λ v. take_each t.of_expr v.1) v

abbrev pub take_value_spec : {A : Type 0} → Taking A → ValueSpecTree → List A
take_value_spec t v = take_each t.of_name v.names ++ (take_some t.of_type v.type_expr ++ take_values t v.values)

abbrev pub take_value : {A : Type 0} → Taking A → ValueTree → List A
take_value t v = take_specs (take_value_spec t) v.specs

abbrev pub take_type_spec : {A : Type 0} → Taking A → TypeSpecTree → List A
take_type_spec t s = t.of_name s.name ++ t.of_type s.type_expr

abbrev pub take_types : {A : Type 0} → Taking A → TypeDeclTree → List A
take_types t d = take_specs (take_type_spec t) d.specs

abbrev pub take_simple : {A : Type 0} → Taking A → SimpleTree → List A
take_simple t (Alone e) = t.of_expr e
take_simple t (Step e op span) = t.of_expr e
take_simple t (Assign ts span es) = take_each t.of_target ts ++ take_each t.of_expr es
take_simple t (Update e op span f) = t.of_expr e ++ t.of_expr f
take_simple t (Define xs span es) = take_each t.of_name xs ++ take_each t.of_expr es

abbrev pub take_init : {A : Type 0} → Taking A → Option (Option SimpleTree × Span) → List A
take_init t i = take_some (λ i. take_some (take_simple t) i.0) i

abbrev pub take_if : {A : Type 0} → Taking A → IfTree → List A
take_if t h = take_init t h.init ++ t.of_expr h.condition

abbrev pub take_for : {A : Type 0} → Taking A → ForTree → List A
take_for t Forever = []
take_for t (While e) = t.of_expr e
take_for t (Clauses init a test b post) = take_some (take_simple t) init ++ (take_some t.of_expr test ++ take_some (take_simple t) post)

abbrev mutual
  pub take_stmt : {A : Type 0} → Taking A → StmtTree → List A
  take_stmt t Empty = []
  take_stmt t (Declare v) = take_value t v
  take_stmt t (Simple s) = take_simple t s
  take_stmt t (Return s es) = take_some (take_each t.of_expr) es
  take_stmt t (Break s) = []
  take_stmt t (Continue s) = []
  take_stmt t (Block first ls last) = take_lines t ls
  take_stmt t (If b) = take_branch t b
  take_stmt t (For k head first ls last) = take_for t head ++ take_lines t ls

  pub take_branch : {A : Type 0} → Taking A → BranchTree → List A
  take_branch t (Branch k head first ls last otherwise) = take_if t head ++ (take_lines t ls ++ take_else t otherwise)

  pub take_else : {A : Type 0} → Taking A → ElseTree → List A
  take_else t NoElse = []
  take_else t (ElseBlock k first ls last) = take_lines t ls
  take_else t (ElseIf k b) = take_branch t b

  pub take_lines : {A : Type 0} → Taking A → Lines → List A
  take_lines t NoLines = []
  take_lines t (Line c s rest) = take_stmt t c ++ take_lines t rest

abbrev pub take_receiver : {A : Type 0} → Taking A → Option Receiver → List A
take_receiver t r = take_some (λ r. take_some t.of_name r.name) r

abbrev pub take_func : {A : Type 0} → Taking A → FuncTree → List A
take_func t f = take_receiver t f.receiver ++ (t.of_name f.name ++ (t.of_signature f.signature ++ take_lines t f.body))

abbrev pub take_decl : {A : Type 0} → Taking A → DeclTree → List A
take_decl t (Value v) = take_value t v
take_decl t (Types d) = take_types t d
take_decl t (Func f) = take_func t f

abbrev pub take_tops : {A : Type 0} → Taking A → List TopTree → List A
take_tops t [] = []
take_tops t (d ∷ ds) = take_decl t d.decl ++ take_tops t ds

abbrev pub take_import_name : {A : Type 0} → Taking A → ImportName → List A
take_import_name t import_name.Own = []
take_import_name t (import_name.Named x) = t.of_name x
take_import_name t (import_name.Dot s) = []

abbrev pub take_imports : {A : Type 0} → Taking A → List ImportTree → List A
take_imports t [] = []
take_imports t (i ∷ is) = take_specs (λ s. take_import_name t s.name) i.specs ++ take_imports t is

abbrev pub take_file : {A : Type 0} → Taking A → FileTree → List A
take_file t f = t.of_name f.name ++ (take_imports t f.imports ++ take_tops t f.decls)

-- names that are declared: the package's, those of imports and of declarations, of receivers, parameters, fields and methods, and those left of `:=`

abbrev pub one_name : Ident → List Ident
one_name x = x ∷ []

abbrev mutual
  pub type_names : TypeTree → List Ident
  type_names (NamedType n) = []
  type_names (Pointer star t) = type_names t
  type_names (ParenType first t last) = type_names t
  type_names (Struct k first ls last) = field_names ls
  type_names (Interface k first ms last) = method_names ms

  pub field_names : FieldTrees → List Ident
  field_names NoFields = []
  field_names (NamedFields xs t tag s rest) = take_each one_name xs ++ (type_names t ++ field_names rest)
  field_names (EmbeddedField star n tag s rest) = field_names rest

  pub method_names : MethodTrees → List Ident
  method_names NoMethods = []
  method_names (Method x signature s rest) = x ∷ (signature_names signature ++ method_names rest)

  pub signature_names : SignatureTree → List Ident
  signature_names (Signed first params last result) = param_names params ++ result_names result

  pub result_names : ResultTree → List Ident
  result_names NoResult = []
  result_names (OneResult t) = type_names t
  result_names (Results first params last) = param_names params

  pub param_names : ParamTrees → List Ident
  param_names NoParams = []
  param_names (Param xs t comma rest) = take_some (take_each one_name) xs ++ (type_names t ++ param_names rest)

-- only a struct type that is written out declares names inside an expression
abbrev mutual
  pub expr_names : ExprTree → List Ident
  expr_names (Integer n span) = []
  expr_names (Text t) = []
  expr_names (Named x) = []
  expr_names (Paren first t last) = expr_names t
  expr_names (Unary op span t) = expr_names t
  expr_names (Binary a op span b) = expr_names a ++ expr_names b
  expr_names (Select t dot x) = expr_names t
  expr_names (Call t first items last) = expr_names t ++ item_names items
  expr_names (Literal n first items last) = item_names items
  expr_names (StructLiteral t first items last) = type_names t ++ item_names items

  pub item_names : ItemTrees → List Ident
  item_names NoItems = []
  item_names (Item key t comma rest) = expr_names t ++ item_names rest

abbrev pub taking_names : Taking Ident
taking_names = record { of_name = one_name; of_type = type_names; of_signature = signature_names; of_expr = expr_names; of_target = expr_names }

abbrev pub declared_names : FileTree → List Ident
declared_names f = take_file taking_names f

-- the `_` that is, in parentheses or not, the whole of an expression left of `=`

abbrev pub blank_target : ExprTree → List Ident
blank_target (Named x) = if is_blank x.name then x ∷ [] else []
blank_target (Paren first t last) = blank_target t
blank_target _ = []

abbrev pub nothing : {A B : Type 0} → B → List A
nothing _ = []

abbrev pub taking_blanks : Taking Ident
taking_blanks = record { of_name = nothing; of_type = nothing; of_signature = nothing; of_expr = nothing; of_target = blank_target }

abbrev pub blank_targets : FileTree → List Ident
blank_targets f = take_file taking_blanks f

-- the opening parentheses of calls

abbrev mutual
  pub expr_calls : ExprTree → List Span
  expr_calls (Integer n span) = []
  expr_calls (Text t) = []
  expr_calls (Named x) = []
  expr_calls (Paren first t last) = expr_calls t
  expr_calls (Unary op span t) = expr_calls t
  expr_calls (Binary a op span b) = expr_calls a ++ expr_calls b
  expr_calls (Select t dot x) = expr_calls t
  expr_calls (Call t first items last) = expr_calls t ++ (first ∷ item_calls items)
  expr_calls (Literal n first items last) = item_calls items
  expr_calls (StructLiteral t first items last) = item_calls items

  pub item_calls : ItemTrees → List Span
  item_calls NoItems = []
  item_calls (Item key t comma rest) = expr_calls t ++ item_calls rest

abbrev pub taking_calls : Taking Span
taking_calls = record { of_name = nothing; of_type = nothing; of_signature = nothing; of_expr = expr_calls; of_target = expr_calls }

abbrev pub file_calls : FileTree → List Span
file_calls f = take_file taking_calls f

-- the strings of imports

abbrev pub import_strings : List ImportTree → List TextLiteral
import_strings [] = []
import_strings (i ∷ is) = take_specs (λ s. s.path ∷ []) i.specs ++ import_strings is
