-- The identifiers of a file that are used, its imports and its calls, in order of their places.
use Rattle.std.specs.Prelude.{◌≡◌, ℕ, ◌≤◌, ◌<◌, Bool, true, false, ◌&&◌, nat_le, nat_lt, List, [], ◌∷◌, ◌++◌, length, position, All, HoldsAt, Option, Some, None, if◌then◌else◌, codes}
use Rattle.go_tree_nodes.specs.text_core.declared.span.Span.{Span}
use Rattle.go_tree_nodes.specs.text_core.Text.{is_blank}
use Rattle.go_tree_nodes.specs.token_core.declared.kind.Operator.{Operator}
use Rattle.go_tree_nodes.specs.token_core.declared.kind.Operator.TheVariants as operator
use Rattle.go_tree_nodes.specs.declared.names.Ident.{Ident}
use Rattle.go_tree_nodes.specs.declared.types.TypeName.{TypeName}
use Rattle.go_tree_nodes.specs.declared.types.TypeName.TheVariants as type_name
use Rattle.go_tree_nodes.specs.declared.types.Fields.{Fields}
use Rattle.go_tree_nodes.specs.declared.types.Fields.TheVariants as fields
use Rattle.go_tree_nodes.specs.declared.exprs.Key.{Key}
use Rattle.go_tree_nodes.specs.declared.files.Receiver.{Receiver}
use Rattle.go_tree_nodes.specs.declared.usage.Usage.{Usage}
use Rattle.go_tree_nodes.specs.declared.usage.Usage.TheVariants as usage
use Rattle.go_tree_core.specs.declared.occurrence.Role.{Role}
use Rattle.go_tree_core.specs.declared.occurrence.Role.TheVariants as role
use Rattle.go_tree_core.specs.declared.occurrence.Context.{Context}
use Rattle.go_tree_core.specs.declared.occurrence.Context.TheVariants as context
use Rattle.go_tree_core.specs.declared.occurrence.Occ.{Occ}
use Rattle.go_tree_nodes.specs.TypeShapes.{shape_type}
use Rattle.go_tree_nodes.specs.Trees.{Separated, One, Then, TypeTree, FieldTrees, MethodTrees, SignatureTree, ResultTree, ParamTrees, NamedType, Pointer, ParenType, Struct, Interface, NoFields, NamedFields, EmbeddedField, NoMethods, Method, Signed, NoResult, OneResult, Results, NoParams, Param, ExprTree, ItemTrees, Integer, Text, Named, Paren, Unary, Binary, Select, Call, Literal, StructLiteral, NoItems, Item, ValueSpecTree, Specs, Single, Group, ValueTree, TypeSpecTree, TypeDeclTree, SimpleTree, Alone, Step, Assign, Update, Define, IfTree, ForTree, Forever, While, Clauses, StmtTree, BranchTree, ElseTree, Lines, Empty, Declare, Simple, Return, Break, Continue, Block, If, For, Branch, NoElse, ElseBlock, ElseIf, NoLines, Line, FuncTree, DeclTree, Value, Types, Func, TopTree, ImportSpecTree, ImportTree, FileTree}

-- what stands here, and how it is spelled
abbrev pub occ_at : Role → List ℕ → Span → Occ
occ_at r bytes s = record { role = r; spelling = bytes; span = s }

abbrev pub occurrence : Role → Ident → Occ
occurrence r x = record { role = r; spelling = x.name; span = x.span }

-- a call stands at its opening parenthesis
abbrev pub call_at : Span → Occ
call_at s = record { role = role.Call; spelling = 40 ∷ []; span = s }

-- types

abbrev pub type_name_occs : TypeName → List Occ
type_name_occs (type_name.Plain x) = occurrence role.«Type» x ∷ []
type_name_occs (type_name.Qualified p dot x) = occurrence role.Qualifier p ∷ (occurrence (role.Selector usage.«Type») x ∷ [])

-- the names of fields, methods and parameters are declared, and no occurrences
abbrev mutual
  pub type_occs : TypeTree → List Occ
  type_occs (NamedType n) = type_name_occs n
  type_occs (Pointer star t) = type_occs t
  type_occs (ParenType first t last) = type_occs t
  type_occs (Struct k first ls last) = fields_occs ls
  type_occs (Interface k first methods last) = methods_occs methods

  pub fields_occs : FieldTrees → List Occ
  fields_occs NoFields = []
  fields_occs (NamedFields xs t tag s rest) = type_occs t ++ fields_occs rest
  fields_occs (EmbeddedField star n tag s rest) = type_name_occs n ++ fields_occs rest

  pub methods_occs : MethodTrees → List Occ
  methods_occs NoMethods = []
  methods_occs (Method x signature s rest) = signature_occs signature ++ methods_occs rest

  pub signature_occs : SignatureTree → List Occ
  signature_occs (Signed first params last result) = params_occs params ++ result_occs result

  pub result_occs : ResultTree → List Occ
  result_occs NoResult = []
  result_occs (OneResult t) = type_occs t
  result_occs (Results first params last) = params_occs params

  pub params_occs : ParamTrees → List Occ
  params_occs NoParams = []
  params_occs (Param xs t comma rest) = type_occs t ++ params_occs rest

-- the fields of one line
abbrev pub field_occs : Fields → List Occ
field_occs (fields.Named xs t) = type_occs (shape_type t)
field_occs (fields.Embedded star n) = type_name_occs n

-- expressions

-- a name in a context: the blank identifier as a target of an assignment is no occurrence
abbrev pub named_occs : Context → Ident → List Occ
named_occs context.«Type» x = occurrence role.«Type» x ∷ []
named_occs context.«Value» x = occurrence role.«Value» x ∷ []
named_occs context.Callee x = occurrence role.Callee x ∷ []
named_occs context.BeforeDot x = occurrence role.Qualifier x ∷ []
named_occs context.Target x = if is_blank x.name then [] else occurrence role.«Value» x ∷ []

-- the context of what stands in parentheses: a name in them is no qualifier
abbrev pub inside_context : Context → Context
inside_context context.«Type» = context.«Type»
inside_context context.«Value» = context.«Value»
inside_context context.Callee = context.Callee
inside_context context.BeforeDot = context.«Value»
inside_context context.Target = context.Target

-- the context of what stands behind a star
abbrev pub pointed_context : Context → Context
pointed_context context.«Type» = context.«Type»
pointed_context context.«Value» = context.«Value»
pointed_context context.Callee = context.«Type»
pointed_context context.BeforeDot = context.«Value»
pointed_context context.Target = context.«Value»

-- the context of what stands behind a unary operator
abbrev pub under : Operator → Context → Context
under operator.Star p = pointed_context p
under _ p = context.«Value»

-- how a selector as a whole is used
abbrev pub whole_usage : Context → Usage
whole_usage context.«Type» = usage.«Type»
whole_usage context.«Value» = usage.«Value»
whole_usage context.Callee = usage.Callee
whole_usage context.BeforeDot = usage.«Value»
whole_usage context.Target = usage.«Value»

abbrev pub key_occs : Option Key → List Occ
key_occs None = []
key_occs (Some k) = occurrence role.Key k.name ∷ []

abbrev mutual
  pub expr_occs : Context → ExprTree → List Occ
  expr_occs p (Integer n span) = []
  expr_occs p (Text t) = []
  expr_occs p (Named x) = named_occs p x
  expr_occs p (Paren first t last) = expr_occs (inside_context p) t
  expr_occs p (Unary op span t) = expr_occs (under op p) t
  expr_occs p (Binary a op span b) = expr_occs context.«Value» a ++ expr_occs context.«Value» b
  expr_occs p (Select t dot x) = expr_occs context.BeforeDot t ++ occurrence (role.Selector (whole_usage p)) x ∷ []
  expr_occs p (Call t first items last) = expr_occs context.Callee t ++ (call_at first ∷ items_occs items)
  expr_occs p (Literal n first items last) = type_name_occs n ++ items_occs items
  expr_occs p (StructLiteral t first items last) = type_occs t ++ items_occs items

  pub items_occs : ItemTrees → List Occ
  items_occs NoItems = []
  items_occs (Item key t comma rest) = key_occs key ++ (expr_occs context.«Value» t ++ items_occs rest)

abbrev pub exprs_occs : Context → Separated ExprTree → List Occ
exprs_occs p (One t) = expr_occs p t
exprs_occs p (Then t comma more) = expr_occs p t ++ exprs_occs p more

abbrev pub some_expr_occs : Option ExprTree → List Occ
some_expr_occs None = []
some_expr_occs (Some t) = expr_occs context.«Value» t

abbrev pub some_exprs_occs : Option (Separated ExprTree) → List Occ
some_exprs_occs None = []
some_exprs_occs (Some es) = exprs_occs context.«Value» es

-- declarations: the names that they declare are no occurrences

abbrev pub some_type_occs : Option TypeTree → List Occ
some_type_occs None = []
some_type_occs (Some t) = type_occs t

abbrev pub values_occs : Option (Span × Separated ExprTree) → List Occ
values_occs None = []
values_occs (Some v) = exprs_occs context.«Value» v.1

abbrev pub value_spec_occs : ValueSpecTree → List Occ
value_spec_occs v = some_type_occs v.type_expr ++ values_occs v.values

abbrev pub group_occs : {A : Type 0} → (A → List Occ) → List (A × Option Span) → List Occ
group_occs f [] = []
group_occs f (x ∷ xs) = f x.0 ++ group_occs f xs

abbrev pub specs_occs : {A : Type 0} → (A → List Occ) → Specs A → List Occ
specs_occs f (Single x) = f x
specs_occs f (Group first xs last) = group_occs f xs

abbrev pub value_occs : ValueTree → List Occ
value_occs v = specs_occs value_spec_occs v.specs

abbrev pub type_spec_occs : TypeSpecTree → List Occ
type_spec_occs t = type_occs t.type_expr

abbrev pub type_decl_occs : TypeDeclTree → List Occ
type_decl_occs t = specs_occs type_spec_occs t.specs

-- statements: the names before `:=` are no occurrences, those before `++`, `--` or an operator with `=` are

abbrev pub simple_occs : SimpleTree → List Occ
simple_occs (Alone t) = expr_occs context.«Value» t
simple_occs (Step t op span) = expr_occs context.«Value» t
simple_occs (Assign ts span es) = exprs_occs context.Target ts ++ exprs_occs context.«Value» es
simple_occs (Update t op span e) = expr_occs context.«Value» t ++ expr_occs context.«Value» e
simple_occs (Define xs span es) = exprs_occs context.«Value» es

abbrev pub some_simple_occs : Option SimpleTree → List Occ
some_simple_occs None = []
some_simple_occs (Some s) = simple_occs s

abbrev pub init_occs : Option (Option SimpleTree × Span) → List Occ
init_occs None = []
init_occs (Some i) = some_simple_occs i.0

abbrev pub if_occs : IfTree → List Occ
if_occs h = init_occs h.init ++ expr_occs context.«Value» h.condition

abbrev pub for_occs : ForTree → List Occ
for_occs Forever = []
for_occs (While t) = expr_occs context.«Value» t
for_occs (Clauses init a test b post) = some_simple_occs init ++ (some_expr_occs test ++ some_simple_occs post)

abbrev mutual
  pub stmt_occs : StmtTree → List Occ
  stmt_occs Empty = []
  stmt_occs (Declare v) = value_occs v
  stmt_occs (Simple s) = simple_occs s
  stmt_occs (Return s es) = some_exprs_occs es
  stmt_occs (Break s) = []
  stmt_occs (Continue s) = []
  stmt_occs (Block first ls last) = lines_occs ls
  stmt_occs (If b) = branch_occs b
  stmt_occs (For k head first ls last) = for_occs head ++ lines_occs ls

  pub branch_occs : BranchTree → List Occ
  branch_occs (Branch k head first ls last otherwise) = if_occs head ++ (lines_occs ls ++ else_occs otherwise)

  pub else_occs : ElseTree → List Occ
  else_occs NoElse = []
  else_occs (ElseBlock k first ls last) = lines_occs ls
  else_occs (ElseIf k b) = branch_occs b

  pub lines_occs : Lines → List Occ
  lines_occs NoLines = []
  lines_occs (Line c s rest) = stmt_occs c ++ lines_occs rest

-- functions, imports and files

abbrev pub receiver_occs : Option Receiver → List Occ
receiver_occs None = []
receiver_occs (Some r) = type_name_occs r.base

abbrev pub func_occs : FuncTree → List Occ
func_occs f = receiver_occs f.receiver ++ (signature_occs f.signature ++ lines_occs f.body)

abbrev pub decl_occs : DeclTree → List Occ
decl_occs (Value v) = value_occs v
decl_occs (Types t) = type_decl_occs t
decl_occs (Func f) = func_occs f

abbrev pub tops_occs : List TopTree → List Occ
tops_occs [] = []
tops_occs (d ∷ ds) = decl_occs d.decl ++ tops_occs ds

-- an import stands at its string, and is spelled as the string is, with its quotes and escapes
abbrev pub import_occs : ImportSpecTree → List Occ
import_occs i = occ_at role.Import i.path.spelled i.path.span ∷ []

abbrev pub imports_occs : List ImportTree → List Occ
imports_occs [] = []
imports_occs (i ∷ is) = specs_occs import_occs i.specs ++ imports_occs is

abbrev pub file_occs : FileTree → List Occ
file_occs f = imports_occs f.imports ++ tops_occs f.decls

-- an occurrence of this role is an identifier, and no import's string and no call's parenthesis
abbrev pub is_identifier : Role → Bool
is_identifier role.Import = false
is_identifier role.Call = false
is_identifier _ = true

-- the word for a role
abbrev pub role_word : Role → List ℕ
role_word role.Import = codes "import"
role_word role.«Type» = codes "type"
role_word role.«Value» = codes "value"
role_word role.Callee = codes "callee"
role_word role.Qualifier = codes "qualifier"
role_word (role.Selector usage) = codes "selector"
role_word role.Key = codes "key"
role_word role.Call = codes "call"

-- the occurrence is an identifier, and the place lies in it
abbrev pub covers : ℕ → Occ → Bool
covers offset o = is_identifier o.role && (nat_le o.span.start offset && nat_lt offset o.span.end)

-- the number of the occurrence that covers a place
abbrev pub covering : ℕ → List Occ → Option ℕ
covering offset os = position (covers offset) os

-- the occurrence is an identifier, and the place lies in it
abbrev pub Covers : ℕ → Occ → Type 0
Covers offset o = (is_identifier o.role ≡ true) × (o.span.start ≤ offset) × (offset < o.span.end)

-- the occurrence with this number covers the place
abbrev pub CoversAt : ℕ → List Occ → ℕ → Type 0
CoversAt offset os i = (i < length os) × HoldsAt (Covers offset) os i

-- no occurrence covers the place
abbrev pub NoneCovers : ℕ → List Occ → Type 0
NoneCovers offset os = All (λ o. ¬ Covers offset o) os

-- the occurrences follow one another between two offsets, and each takes some bytes
abbrev pub Follow : ℕ → List Occ → ℕ → Type 0
Follow low [] high = low ≤ high
Follow low (o ∷ os) high = (low ≤ o.span.start) × (o.span.start < o.span.end) × Follow o.span.end os high
