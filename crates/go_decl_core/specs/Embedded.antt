-- The names of embedded fields: the last identifiers of their types' names. Nothing here looks at a table of places.
use Rattle.std.specs.Prelude.{List, [], ◌∷◌, ◌++◌}
use Rattle.go_tree_nodes.specs.declared.names.Ident.{Ident}
use Rattle.go_tree_nodes.specs.Trees.{TypeTree, FieldTrees, MethodTrees, SignatureTree, ResultTree, ParamTrees, NamedType, Pointer, ParenType, Struct, Interface, NoFields, NamedFields, EmbeddedField, NoMethods, Method, Signed, NoResult, OneResult, Results, NoParams, Param, ExprTree, ItemTrees, Integer, Text, Named, Paren, Unary, Binary, Select, Call, Literal, StructLiteral, NoItems, Item}
use Rattle.go_tree_core.specs.Names.{Taking, nothing}
use Rattle.go_decl_core.specs.Outer.{last_ident}

abbrev mutual
  pub type_embedded : TypeTree → List Ident
  type_embedded (NamedType n) = []
  type_embedded (Pointer star t) = type_embedded t
  type_embedded (ParenType first t last) = type_embedded t
  type_embedded (Struct k first ls last) = fields_embedded ls
  type_embedded (Interface k first ms last) = methods_embedded ms

  pub fields_embedded : FieldTrees → List Ident
  fields_embedded NoFields = []
  fields_embedded (NamedFields xs t tag s rest) = type_embedded t ++ fields_embedded rest
  fields_embedded (EmbeddedField star n tag s rest) = last_ident n ∷ fields_embedded rest

  pub methods_embedded : MethodTrees → List Ident
  methods_embedded NoMethods = []
  methods_embedded (Method x signature s rest) = signature_embedded signature ++ methods_embedded rest

  pub signature_embedded : SignatureTree → List Ident
  signature_embedded (Signed first params last result) = params_embedded params ++ result_embedded result

  pub result_embedded : ResultTree → List Ident
  result_embedded NoResult = []
  result_embedded (OneResult t) = type_embedded t
  result_embedded (Results first params last) = params_embedded params

  pub params_embedded : ParamTrees → List Ident
  params_embedded NoParams = []
  params_embedded (Param xs t comma rest) = type_embedded t ++ params_embedded rest

abbrev mutual
  pub expr_embedded : ExprTree → List Ident
  expr_embedded (Integer n span) = []
  expr_embedded (Text t) = []
  expr_embedded (Named x) = []
  expr_embedded (Paren first t last) = expr_embedded t
  expr_embedded (Unary op span t) = expr_embedded t
  expr_embedded (Binary a op span b) = expr_embedded a ++ expr_embedded b
  expr_embedded (Select t dot x) = expr_embedded t
  expr_embedded (Call t first items last) = expr_embedded t ++ items_embedded items
  expr_embedded (Literal n first items last) = items_embedded items
  expr_embedded (StructLiteral t first items last) = type_embedded t ++ items_embedded items

  pub items_embedded : ItemTrees → List Ident
  items_embedded NoItems = []
  items_embedded (Item key t comma rest) = expr_embedded t ++ items_embedded rest

abbrev pub embedding : Taking Ident
embedding = record { of_name = nothing; of_type = type_embedded; of_signature = signature_embedded; of_expr = expr_embedded; of_target = expr_embedded }
