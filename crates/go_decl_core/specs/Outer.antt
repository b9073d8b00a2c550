-- The identifiers that a file declares outside function bodies.
use Rattle.std.specs.Prelude.{List, [], ◌∷◌, ◌++◌, map, Option, Some, None}
use Rattle.std.specs.List.{flat_map}
use Rattle.go_path_core.specs.text_core.declared.span.Span.{Span}
use Rattle.go_tree_nodes.specs.declared.names.Ident.{Ident}
use Rattle.go_tree_nodes.specs.declared.types.TypeName.{TypeName}
use Rattle.go_tree_nodes.specs.declared.types.TypeName.TheVariants as type_name
use Rattle.go_tree_nodes.specs.declared.decls.ValueKind.{ValueKind}
use Rattle.go_tree_nodes.specs.declared.decls.ValueKind.TheVariants as value_kinds
use Rattle.go_tree_nodes.specs.declared.files.Receiver.{Receiver}
use Rattle.go_tree_nodes.specs.Trees.{Separated, One, Then, TypeTree, FieldTrees, MethodTrees, SignatureTree, ResultTree, ParamTrees, NamedType, Pointer, ParenType, Struct, Interface, NoFields, NamedFields, EmbeddedField, NoMethods, Method, Signed, NoResult, OneResult, Results, NoParams, Param, ExprTree, ItemTrees, Integer, Text, Named, Paren, Unary, Binary, Select, Call, Literal, StructLiteral, NoItems, Item, ValueSpecTree, TypeSpecTree, FuncTree, DeclTree, Value, Types, Func, TopTree, FileTree, of_specs}
use Rattle.go_decl_core.specs.declared.places.DeclKind.{DeclKind}
use Rattle.go_decl_core.specs.declared.places.DeclKind.TheVariants as kinds
use Rattle.go_decl_core.specs.declared.places.Place.{Place}

-- how an identifier is declared: as the name of a constant, variable, type, function or method; inside such a declaration; or by
-- an embedded field, whose name is that of its type
pub data Manner : Type 0 where
  Whole : Manner
  Part : Manner
  Embedded : Manner

-- an identifier that a file declares outside function bodies
pub record Outer : Type 0 where
  pub ident : Ident
  pub kind : DeclKind
  pub manner : Manner

abbrev pub outer : DeclKind → Manner → Ident → Outer
outer k m x = record { ident = x; kind = k; manner = m }

abbrev pub idents_outers : DeclKind → Manner → Separated Ident → List Outer
idents_outers k m (One x) = outer k m x ∷ []
idents_outers k m (Then x comma xs) = outer k m x ∷ idents_outers k m xs

-- types

-- the name of an embedded field: the last identifier of its type's name
abbrev pub last_ident : TypeName → Ident
last_ident (type_name.Plain x) = x
last_ident (type_name.Qualified package_name dot x) = x

-- the names of a parameter list's entry, where it has any
abbrev pub names_outers : Option (Separated Ident) → List Outer
names_outers None = []
names_outers (Some xs) = idents_outers kinds.Param Part xs

abbrev mutual
  pub type_outers : TypeTree → List Outer
  type_outers (NamedType n) = []
  type_outers (Pointer star t) = type_outers t
  type_outers (ParenType first t last) = type_outers t
  type_outers (Struct k first ls last) = fields_outers ls
  type_outers (Interface k first ms last) = methods_outers ms

  pub fields_outers : FieldTrees → List Outer
  fields_outers NoFields = []
  fields_outers (NamedFields xs t tag s rest) = idents_outers kinds.Field Part xs ++ (type_outers t ++ fields_outers rest)
  fields_outers (EmbeddedField star n tag s rest) = outer kinds.Field Embedded (last_ident n) ∷ fields_outers rest

  pub methods_outers : MethodTrees → List Outer
  methods_outers NoMethods = []
  methods_outers (Method x signature s rest) = outer kinds.Method Part x ∷ (signature_outers signature ++ methods_outers rest)

  pub signature_outers : SignatureTree → List Outer
  signature_outers (Signed first params last result) = params_outers params ++ result_outers result

  pub result_outers : ResultTree → List Outer
  result_outers NoResult = []
  result_outers (OneResult t) = type_outers t
  result_outers (Results first params last) = params_outers params

  pub params_outers : ParamTrees → List Outer
  params_outers NoParams = []
  params_outers (Param xs t comma rest) = names_outers xs ++ (type_outers t ++ params_outers rest)

-- expressions: only a struct type that is written out declares names inside one
abbrev mutual
  pub expr_outers : ExprTree → List Outer
  expr_outers (Integer n span) = []
  expr_outers (Text t) = []
  expr_outers (Named x) = []
  expr_outers (Paren first t last) = expr_outers t
  expr_outers (Unary op span t) = expr_outers t
  expr_outers (Binary a op span b) = expr_outers a ++ expr_outers b
  expr_outers (Select t dot x) = expr_outers t
  expr_outers (Call t first items last) = expr_outers t ++ items_outers items
  expr_outers (Literal n first items last) = items_outers items
  expr_outers (StructLiteral t first items last) = type_outers t ++ items_outers items

  pub items_outers : ItemTrees → List Outer
  items_outers NoItems = []
  items_outers (Item key t comma rest) = expr_outers t ++ items_outers rest

abbrev pub exprs_outers : Separated ExprTree → List Outer
exprs_outers (One t) = expr_outers t
exprs_outers (Then t comma more) = expr_outers t ++ exprs_outers more

-- declarations

abbrev pub some_type_outers : Option TypeTree → List Outer
some_type_outers None = []
some_type_outers (Some t) = type_outers t

abbrev pub values_outers : Option (Span × Separated ExprTree) → List Outer
values_outers None = []
values_outers (Some v) = exprs_outers v.1

abbrev pub kind_of_value : ValueKind → DeclKind
kind_of_value value_kinds.Const = kinds.Const
kind_of_value value_kinds.Var = kinds.Var

-- what the type and the values of a specification declare
abbrev pub rest_outers : ValueSpecTree → List Outer
rest_outers v = some_type_outers v.type_expr ++ values_outers v.values

abbrev pub value_spec_outers : ValueKind → ValueSpecTree → List Outer
value_spec_outers k v = idents_outers (kind_of_value k) Whole v.names ++ rest_outers v

abbrev pub type_spec_outers : TypeSpecTree → List Outer
type_spec_outers t = outer kinds.«Type» Whole t.name ∷ type_outers t.type_expr

abbrev pub receiver_name_outers : Option Ident → List Outer
receiver_name_outers None = []
receiver_name_outers (Some x) = outer kinds.Param Part x ∷ []

abbrev pub receiver_outers : Option Receiver → List Outer
receiver_outers None = []
receiver_outers (Some r) = receiver_name_outers r.name

-- a function with a receiver is a method
abbrev pub kind_of_func : Option Receiver → DeclKind
kind_of_func None = kinds.Func
kind_of_func (Some r) = kinds.Method

-- the body is left out
abbrev pub func_outers : FuncTree → List Outer
func_outers f = receiver_outers f.receiver ++ (outer (kind_of_func f.receiver) Whole f.name ∷ signature_outers f.signature)

abbrev pub decl_outers : DeclTree → List Outer
decl_outers (Value v) = of_specs (value_spec_outers v.kind) v.specs
decl_outers (Types t) = of_specs type_spec_outers t.specs
decl_outers (Func f) = func_outers f

abbrev pub tops_outers : List TopTree → List Outer
tops_outers ts = flat_map (λ t. decl_outers t.decl) ts

-- the identifiers that a file declares outside function bodies, in order of offset
abbrev pub outer_names : FileTree → List Outer
outer_names f = tops_outers f.decls

abbrev pub place_of : Outer → Place
place_of o = record { at = o.ident.span.start; kind = o.kind }

-- the table of a file: an identifier's number is its place in this list, from 0
abbrev pub places_of : FileTree → List Place
places_of f = map place_of (outer_names f)
