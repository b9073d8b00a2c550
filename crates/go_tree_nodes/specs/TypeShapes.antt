-- The trees of types that values of the program hold.
use Rattle.std.specs.Prelude.{List, [], ◌∷◌, Option, Some, None}
use Rattle.go_token_core.specs.text_core.declared.span.Span.{Span}
use Rattle.go_tree_nodes.specs.declared.names.Ident.{Ident}
use Rattle.go_tree_nodes.specs.declared.names.Idents.{Idents}
use Rattle.go_tree_nodes.specs.declared.names.NextIdent.{NextIdent}
use Rattle.go_tree_nodes.specs.declared.names.TextLiteral.{TextLiteral}
use Rattle.go_tree_nodes.specs.declared.types.TypeExpr.{TypeExpr, Row_of-FieldLine, end_of-FieldLine, more_of-FieldLine, Row_of-MethodLine, end_of-MethodLine, more_of-MethodLine}
use Rattle.go_tree_nodes.specs.declared.types.TypeExpr.TheVariants as types
use Rattle.go_tree_nodes.specs.declared.types.Fields.{Fields}
use Rattle.go_tree_nodes.specs.declared.types.Fields.TheVariants as declared_fields
use Rattle.go_tree_nodes.specs.declared.types.FieldLine.{FieldLine}
use Rattle.go_tree_nodes.specs.declared.types.MethodLine.{MethodLine, MethodLine'}
use Rattle.go_tree_nodes.specs.declared.types.Signature.{Signature, Signature'}
use Rattle.go_tree_nodes.specs.declared.types.Results as declared_results
use Rattle.go_tree_nodes.specs.declared.types.Results.TheVariants as results
use Rattle.go_tree_nodes.specs.declared.types.Params.{Params', Row_of-Param, end_of-Param, more_of-Param}
use Rattle.go_tree_nodes.specs.declared.types.«Param» as declared_param
use Rattle.go_tree_nodes.specs.Trees.{Separated, One, Then, TypeTree, FieldTrees, MethodTrees, SignatureTree, ResultTree, ParamTrees, NamedType, Pointer, ParenType, Struct, Interface, NoFields, NamedFields, EmbeddedField, NoMethods, Method, Signed, NoResult, OneResult, Results, NoParams, Param}

abbrev pub idents_from : Ident → List NextIdent → Separated Ident
idents_from x [] = One x
idents_from x (n ∷ ns) = Then x n.comma (idents_from n.ident ns)

abbrev pub shape_idents : Idents → Separated Ident
shape_idents xs = idents_from xs.first xs.more.items

abbrev pub shape_names : Option Idents → Option (Separated Ident)
shape_names None = None
shape_names (Some xs) = Some (shape_idents xs)

abbrev mutual
  pub shape_type : TypeExpr → TypeTree
  shape_type (types.Name n) = NamedType n
  shape_type (types.Pointer' star _ t) = Pointer star (shape_type t)
  shape_type (types.Paren' first _ t last) = ParenType first (shape_type t) last
  shape_type (types.Struct' k first _ row last) = Struct k first (shape_fields row) last
  shape_type (types.Interface' k first _ row last) = Interface k first (shape_methods row) last

  pub shape_fields : {n : _} → Row_of-FieldLine n → FieldTrees
  shape_fields end_of-FieldLine = NoFields
  shape_fields (more_of-FieldLine (declared_fields.Named xs t) tag semicolon rest) = NamedFields (shape_idents xs) (shape_type t) tag semicolon (shape_fields rest)
  shape_fields (more_of-FieldLine (declared_fields.Embedded star n) tag semicolon rest) = EmbeddedField star n tag semicolon (shape_fields rest)

  pub shape_methods : {n : _} → Row_of-MethodLine n → MethodTrees
  shape_methods end_of-MethodLine = NoMethods
  shape_methods (more_of-MethodLine (MethodLine' x signature semicolon) rest) = Method x (shape_signature signature) semicolon (shape_methods rest)

  pub shape_signature : Signature → SignatureTree
  shape_signature (Signature' (Params' first _ row last) outcome) = Signed first (shape_params row) last (shape_results outcome)

  pub shape_results : declared_results.Results → ResultTree
  shape_results results.Nothing = NoResult
  shape_results (results.Single' _ t) = OneResult (shape_type t)
  shape_results (results.Listed (Params' first _ row last)) = Results first (shape_params row) last

  pub shape_params : {n : _} → Row_of-Param n → ParamTrees
  shape_params end_of-Param = NoParams
  shape_params (more_of-Param names t comma rest) = Param (shape_names names) (shape_type t) comma (shape_params rest)

-- fields before more fields
abbrev pub fields_before : Fields → Option TextLiteral → Option Span → FieldTrees → FieldTrees
fields_before (declared_fields.Named xs t) tag semicolon rest = NamedFields (shape_idents xs) (shape_type t) tag semicolon rest
fields_before (declared_fields.Embedded star n) tag semicolon rest = EmbeddedField star n tag semicolon rest

abbrev pub fields_of : List FieldLine → FieldTrees
fields_of [] = NoFields
fields_of (l ∷ ls) = fields_before l.fields l.tag l.semicolon (fields_of ls)

abbrev pub method_before : MethodLine → MethodTrees → MethodTrees
method_before (MethodLine' x signature semicolon) rest = Method x (shape_signature signature) semicolon rest

abbrev pub methods_of : List MethodLine → MethodTrees
methods_of [] = NoMethods
methods_of (m ∷ ms) = method_before m (methods_of ms)

abbrev pub params_of : List declared_param.Param → ParamTrees
params_of [] = NoParams
params_of (p ∷ ps) = Param (shape_names p.names) (shape_type p.type_expr) p.comma (params_of ps)
