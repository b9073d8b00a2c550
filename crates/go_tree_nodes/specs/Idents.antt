-- The identifiers of types and expressions that are looked up, in order.
--
-- The Go specification, "Declarations and scope", "Qualified identifiers", "Selectors".
use Rattle.std.specs.Prelude.{List, [], ◌∷◌, ◌++◌, Option, Some, None}
use Rattle.go_tree_nodes.specs.declared.names.Ident.{Ident}
use Rattle.go_tree_nodes.specs.declared.types.TypeName.{TypeName}
use Rattle.go_tree_nodes.specs.declared.types.TypeName.TheVariants as type_name
use Rattle.go_tree_nodes.specs.declared.types.Fields.{Fields}
use Rattle.go_tree_nodes.specs.declared.types.Fields.TheVariants as fields
use Rattle.go_tree_nodes.specs.declared.files.Receiver.{Receiver}
use Rattle.go_tree_nodes.specs.TypeShapes.{shape_type}
use Rattle.go_tree_nodes.specs.Trees.{Separated, One, Then, TypeTree, FieldTrees, MethodTrees, SignatureTree, ResultTree, ParamTrees, NamedType, Pointer, ParenType, Struct, Interface, NoFields, NamedFields, EmbeddedField, NoMethods, Method, Signed, NoResult, OneResult, Results, NoParams, Param, ExprTree, ItemTrees, Integer, Text, Named, Paren, Unary, Binary, Select, Call, Literal, StructLiteral, NoItems, Item}

-- types: of a qualified name the package's name is looked up alone

abbrev pub type_name_idents : TypeName → List Ident
type_name_idents (type_name.Plain x) = x ∷ []
type_name_idents (type_name.Qualified p dot x) = p ∷ []

abbrev mutual
  pub type_idents : TypeTree → List Ident
  type_idents (NamedType n) = type_name_idents n
  type_idents (Pointer star t) = type_idents t
  type_idents (ParenType first t last) = type_idents t
  type_idents (Struct k first ls last) = fields_idents ls
  type_idents (Interface k first methods last) = methods_idents methods

  pub fields_idents : FieldTrees → List Ident
  fields_idents NoFields = []
  fields_idents (NamedFields xs t tag s rest) = type_idents t ++ fields_idents rest
  fields_idents (EmbeddedField star n tag s rest) = type_name_idents n ++ fields_idents rest

  pub methods_idents : MethodTrees → List Ident
  methods_idents NoMethods = []
  methods_idents (Method x signature s rest) = signature_type_idents signature ++ methods_idents rest

  pub signature_type_idents : SignatureTree → List Ident
  signature_type_idents (Signed first params last result) = params_idents params ++ result_type_idents result

  pub result_type_idents : ResultTree → List Ident
  result_type_idents NoResult = []
  result_type_idents (OneResult t) = type_idents t
  result_type_idents (Results first params last) = params_idents params

  pub params_idents : ParamTrees → List Ident
  params_idents NoParams = []
  params_idents (Param xs t comma rest) = type_idents t ++ params_idents rest

-- the fields of one line
abbrev pub field_idents : Fields → List Ident
field_idents (fields.Named xs t) = type_idents (shape_type t)
field_idents (fields.Embedded star n) = type_name_idents n

abbrev pub receiver_type_idents : Option Receiver → List Ident
receiver_type_idents None = []
receiver_type_idents (Some r) = type_name_idents r.base

-- expressions: not the name right of a dot, nor the key of an element

abbrev mutual
  pub expr_idents : ExprTree → List Ident
  expr_idents (Integer n span) = []
  expr_idents (Text t) = []
  expr_idents (Named x) = x ∷ []
  expr_idents (Paren first t last) = expr_idents t
  expr_idents (Unary op span t) = expr_idents t
  expr_idents (Binary a op span b) = expr_idents a ++ expr_idents b
  expr_idents (Select t dot x) = expr_idents t
  expr_idents (Call t first items last) = expr_idents t ++ items_idents items
  expr_idents (Literal n first items last) = type_name_idents n ++ items_idents items
  expr_idents (StructLiteral t first items last) = type_idents t ++ items_idents items

  pub items_idents : ItemTrees → List Ident
  items_idents NoItems = []
  items_idents (Item key t comma rest) = expr_idents t ++ items_idents rest

abbrev pub list_idents : Separated ExprTree → List Ident
list_idents (One t) = expr_idents t
list_idents (Then t comma more) = expr_idents t ++ list_idents more

abbrev pub returned_idents : Option (Separated ExprTree) → List Ident
returned_idents None = []
returned_idents (Some es) = list_idents es

abbrev pub some_type_idents : Option TypeTree → List Ident
some_type_idents None = []
some_type_idents (Some t) = type_idents t
