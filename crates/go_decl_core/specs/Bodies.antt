-- Files without their function bodies, and without the places of what they write.
use Rattle.std.specs.Prelude.{List, map, Option, Some, None, option_map}
use Rattle.go_path_core.specs.text_core.declared.span.Span.{Span}
use Rattle.go_tree_nodes.specs.declared.names.Ident.{Ident}
use Rattle.go_tree_nodes.specs.declared.names.TextLiteral.{TextLiteral}
use Rattle.go_tree_nodes.specs.declared.types.TypeName.{TypeName}
use Rattle.go_tree_nodes.specs.declared.types.TypeName.TheVariants as type_name
use Rattle.go_tree_nodes.specs.declared.exprs.Key.{Key}
use Rattle.go_tree_nodes.specs.declared.files.Receiver.{Receiver}
use Rattle.go_tree_nodes.specs.Trees.{Separated, One, Then, TypeTree, FieldTrees, MethodTrees, SignatureTree, ResultTree, ParamTrees, NamedType, Pointer, ParenType, Struct, Interface, NoFields, NamedFields, EmbeddedField, NoMethods, Method, Signed, NoResult, OneResult, Results, NoParams, Param, ExprTree, ItemTrees, Integer, Text, Named, Paren, Unary, Binary, Select, Call, Literal, StructLiteral, NoItems, Item, ValueSpecTree, Specs, Single, Group, TypeSpecTree, NoLines, FuncTree, DeclTree, Value, Types, Func, TopTree, FileTree}

-- a function with an empty body
abbrev pub without_body : FuncTree → FuncTree
without_body f = record f { body = NoLines }

abbrev pub decl_without_bodies : DeclTree → DeclTree
decl_without_bodies (Value v) = Value v
decl_without_bodies (Types t) = Types t
decl_without_bodies (Func f) = Func (without_body f)

abbrev pub top_without_bodies : TopTree → TopTree
top_without_bodies t = record t { decl = decl_without_bodies t.decl }

-- a file whose functions have empty bodies
abbrev pub without_bodies : FileTree → FileTree
without_bodies f = record f { decls = map top_without_bodies f.decls }

-- the same tree, each of whose places is this one

abbrev pub nowhere : Span
nowhere = record { start = 0; end = 0 }

abbrev pub bare_some : Option Span → Option Span
bare_some s = option_map (λ s. nowhere) s

abbrev pub bare_ident : Ident → Ident
bare_ident x = record { name = x.name; span = nowhere }

abbrev pub bare_text : TextLiteral → TextLiteral
bare_text t = record { spelled = t.spelled; span = nowhere }

abbrev pub bare_idents : Separated Ident → Separated Ident
bare_idents (One x) = One (bare_ident x)
bare_idents (Then x comma xs) = Then (bare_ident x) nowhere (bare_idents xs)

abbrev pub bare_names : Option (Separated Ident) → Option (Separated Ident)
bare_names None = None
bare_names (Some xs) = Some (bare_idents xs)

abbrev pub bare_type_name : TypeName → TypeName
bare_type_name (type_name.Plain x) = type_name.Plain (bare_ident x)
bare_type_name (type_name.Qualified p dot x) = type_name.Qualified (bare_ident p) nowhere (bare_ident x)

abbrev mutual
  pub bare_type : TypeTree → TypeTree
  bare_type (NamedType n) = NamedType (bare_type_name n)
  bare_type (Pointer star t) = Pointer nowhere (bare_type t)
  bare_type (ParenType first t last) = ParenType nowhere (bare_type t) nowhere
  bare_type (Struct k first ls last) = Struct nowhere nowhere (bare_fields ls) nowhere
  bare_type (Interface k first ms last) = Interface nowhere nowhere (bare_methods ms) nowhere

  pub bare_fields : FieldTrees → FieldTrees
  bare_fields NoFields = NoFields
  bare_fields (NamedFields xs t tag s rest) = NamedFields (bare_idents xs) (bare_type t) (option_map bare_text tag) (bare_some s) (bare_fields rest)
  bare_fields (EmbeddedField star n tag s rest) = EmbeddedField (bare_some star) (bare_type_name n) (option_map bare_text tag) (bare_some s) (bare_fields rest)

  pub bare_methods : MethodTrees → MethodTrees
  bare_methods NoMethods = NoMethods
  bare_methods (Method x signature s rest) = Method (bare_ident x) (bare_signature signature) (bare_some s) (bare_methods rest)

  pub bare_signature : SignatureTree → SignatureTree
  bare_signature (Signed first params last result) = Signed nowhere (bare_params params) nowhere (bare_result result)

  pub bare_result : ResultTree → ResultTree
  bare_result NoResult = NoResult
  bare_result (OneResult t) = OneResult (bare_type t)
  bare_result (Results first params last) = Results nowhere (bare_params params) nowhere

  pub bare_params : ParamTrees → ParamTrees
  bare_params NoParams = NoParams
  bare_params (Param xs t comma rest) = Param (bare_names xs) (bare_type t) (bare_some comma) (bare_params rest)

abbrev pub bare_key : Key → Key
bare_key k = record { name = bare_ident k.name; colon = nowhere }

abbrev mutual
  pub bare_expr : ExprTree → ExprTree
  bare_expr (Integer n span) = Integer n nowhere
  bare_expr (Text t) = Text (bare_text t)
  bare_expr (Named x) = Named (bare_ident x)
  bare_expr (Paren first t last) = Paren nowhere (bare_expr t) nowhere
  bare_expr (Unary op span t) = Unary op nowhere (bare_expr t)
  bare_expr (Binary a op span b) = Binary (bare_expr a) op nowhere (bare_expr b)
  bare_expr (Select t dot x) = Select (bare_expr t) nowhere (bare_ident x)
  bare_expr (Call t first items last) = Call (bare_expr t) nowhere (bare_items items) nowhere
  bare_expr (Literal n first items last) = Literal (bare_type_name n) nowhere (bare_items items) nowhere
  bare_expr (StructLiteral t first items last) = StructLiteral (bare_type t) nowhere (bare_items items) nowhere

  pub bare_items : ItemTrees → ItemTrees
  bare_items NoItems = NoItems
  bare_items (Item key t comma rest) = Item (option_map bare_key key) (bare_expr t) (bare_some comma) (bare_items rest)

abbrev pub bare_exprs : Separated ExprTree → Separated ExprTree
bare_exprs (One t) = One (bare_expr t)
bare_exprs (Then t comma more) = Then (bare_expr t) nowhere (bare_exprs more)

abbrev pub bare_some_type : Option TypeTree → Option TypeTree
bare_some_type None = None
bare_some_type (Some t) = Some (bare_type t)

abbrev pub bare_values : Option (Span × Separated ExprTree) → Option (Span × Separated ExprTree)
bare_values None = None
bare_values (Some v) = Some (nowhere, bare_exprs v.1)

abbrev pub bare_value_spec : ValueSpecTree → ValueSpecTree
bare_value_spec v = record { names = bare_idents v.names; type_expr = bare_some_type v.type_expr; values = bare_values v.values }

abbrev pub bare_type_spec : TypeSpecTree → TypeSpecTree
bare_type_spec t = record { name = bare_ident t.name; alias = bare_some t.alias; type_expr = bare_type t.type_expr }

abbrev pub bare_line : {A : Type 0} → (A → A) → A × Option Span → A × Option Span
bare_line f l = (f l.0, bare_some l.1)

abbrev pub bare_specs : {A : Type 0} → (A → A) → Specs A → Specs A
bare_specs f (Single x) = Single (f x)
bare_specs f (Group first ls last) = Group nowhere (map (bare_line f) ls) nowhere

abbrev pub bare_receiver_name : Option Ident → Option Ident
bare_receiver_name None = None
bare_receiver_name (Some x) = Some (bare_ident x)

abbrev pub bare_receiver : Option Receiver → Option Receiver
bare_receiver None = None
bare_receiver (Some r) = Some (record { open_paren = nowhere; name = bare_receiver_name r.name; star = bare_some r.star; base = bare_type_name r.base; comma = bare_some r.comma; close_paren = nowhere })

-- a function without its body too
abbrev pub bare_func : FuncTree → FuncTree
bare_func f = record { func = nowhere; receiver = bare_receiver f.receiver; name = bare_ident f.name; signature = bare_signature f.signature; open_brace = nowhere; body = NoLines; close_brace = nowhere }

abbrev pub bare_decl : DeclTree → DeclTree
bare_decl (Value v) = Value (record { kind = v.kind; keyword = nowhere; specs = bare_specs bare_value_spec v.specs })
bare_decl (Types t) = Types (record { keyword = nowhere; specs = bare_specs bare_type_spec t.specs })
bare_decl (Func f) = Func (bare_func f)

-- the declarations of a file without function bodies and places: what is left of them for those that import the package
abbrev pub outside : FileTree → List DeclTree
outside f = map (λ t. bare_decl t.decl) f.decls
