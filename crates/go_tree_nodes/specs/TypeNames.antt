-- The names of types that stand in a type, in order: of fields, embedded or not, of parameters and results.
--
-- The Go specification, "Types", "Qualified identifiers".
use Rattle.std.specs.Prelude.{List, [], ◌∷◌, ◌++◌}
use Rattle.go_tree_nodes.specs.declared.types.TypeName.{TypeName}
use Rattle.go_tree_nodes.specs.Trees.{TypeTree, NamedType, Pointer, ParenType, Struct, Interface, FieldTrees, NoFields, NamedFields, EmbeddedField, MethodTrees, NoMethods, Method, SignatureTree, Signed, ResultTree, NoResult, OneResult, Results, ParamTrees, NoParams, Param}

abbrev mutual
  pub type_names_in : TypeTree → List TypeName
  type_names_in (NamedType n) = n ∷ []
  type_names_in (Pointer s t) = type_names_in t
  type_names_in (ParenType a t b) = type_names_in t
  type_names_in (Struct a b fs c) = field_names_in fs
  type_names_in (Interface a b ms c) = method_names_in ms

  pub field_names_in : FieldTrees → List TypeName
  field_names_in NoFields = []
  field_names_in (NamedFields xs t tag semicolon fs) = type_names_in t ++ field_names_in fs
  field_names_in (EmbeddedField star n tag semicolon fs) = n ∷ field_names_in fs

  pub method_names_in : MethodTrees → List TypeName
  method_names_in NoMethods = []
  method_names_in (Method x g semicolon ms) = signature_names_in g ++ method_names_in ms

  pub signature_names_in : SignatureTree → List TypeName
  signature_names_in (Signed a ps b r) = param_names_in ps ++ result_names_in r

  pub result_names_in : ResultTree → List TypeName
  result_names_in NoResult = []
  result_names_in (OneResult t) = type_names_in t
  result_names_in (Results a ps b) = param_names_in ps

  pub param_names_in : ParamTrees → List TypeName
  param_names_in NoParams = []
  param_names_in (Param xs t comma ps) = type_names_in t ++ param_names_in ps
