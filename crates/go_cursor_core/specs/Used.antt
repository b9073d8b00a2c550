-- The identifiers that are used, each with the spot where it stands, by the tree alone, in order of their places: of types, expressions
-- and pieces of functions.
--
-- docs/RULES.md, "Occurrences", "Expressions: roles, order, faults of parts". The Go specification, "Declarations and scope", "Selectors",
-- "Qualified identifiers", "Composite literals".
use Rattle.std.specs.Prelude.{ℕ, ◌+◌, Bool, List, [], ◌∷◌, ◌++◌, nat_eq, Option, Some, None, find, if◌then◌else◌}
use Rattle.go_tree_nodes.specs.text_core.declared.span.Span.{Span}
use Rattle.go_tree_nodes.specs.declared.names.Ident.{Ident}
use Rattle.go_tree_nodes.specs.declared.types.TypeName.{TypeName}
use Rattle.go_tree_nodes.specs.declared.types.TypeName.TheVariants as type_names
use Rattle.go_tree_nodes.specs.declared.exprs.Key.{Key}
use Rattle.go_tree_nodes.specs.declared.files.Receiver.{Receiver}
use Rattle.go_tree_nodes.specs.declared.usage.Usage.{Usage}
use Rattle.go_tree_nodes.specs.Trees.{Separated, One, Then, TypeTree, FieldTrees, MethodTrees, SignatureTree, ResultTree, ParamTrees, NamedType, Pointer, ParenType, Struct, Interface, NoFields, NamedFields, EmbeddedField, NoMethods, Method, Signed, NoResult, OneResult, Results, NoParams, Param, ExprTree, ItemTrees, Integer, Text, Named, Paren, Unary, Binary, Select, Call, Literal, StructLiteral, NoItems, Item, ValueSpecTree, SimpleTree, Alone, Step, Assign, Update, Define}
use Rattle.go_expr_core.specs.local_core.WalksEnds.{is_blank_target}
use Rattle.go_expr_core.specs.local_core.Steps.{Piece, Header, Spec, Act, Condition, Given}
use Rattle.go_expr_core.specs.denote_core.declared.things.Stand.{Stand}
use Rattle.go_expr_core.specs.denote_core.declared.things.Stand.TheVariants as stands
use Rattle.go_expr_core.specs.Places.{inside, under_place, left_place, whole}

-- the type of a composite literal: a name, or a struct type that is written out
pub data LiteralType : Type 0 where
  OfName : TypeName → LiteralType
  OfWritten : TypeTree → LiteralType

-- where an identifier stands that is used
pub data SpotTree : Type 0 where
  -- a name alone
  NameSpot : Stand → SpotTree
  -- behind the dot of a selector that is used so, whose operand stands so
  BehindSpot : Usage → Stand → ExprTree → SpotTree
  -- behind the dot of the name of a type, left of which this identifier stands
  BehindNameSpot : Ident → SpotTree
  -- the key of the element of a number, from 0, of a composite literal of a type, among its elements
  KeySpot : LiteralType → ItemTrees → ℕ → SpotTree

pub record Used : Type 0 where
  pub ident : Ident
  pub spot : SpotTree

abbrev pub used : Ident → SpotTree → Used
used x s = record { ident = x; spot = s }

-- the first of some that begins at an offset

abbrev pub begins_at : ℕ → Used → Bool
begins_at start u = nat_eq u.ident.span.start start

abbrev pub first_used : ℕ → List Used → Option Used
first_used start us = find (begins_at start) us

-- types

abbrev pub type_name_used : TypeName → List Used
type_name_used (type_names.Plain x) = used x (NameSpot stands.«Type») ∷ []
type_name_used (type_names.Qualified p dot x) = used p (NameSpot stands.TypeDot) ∷ (used x (BehindNameSpot p) ∷ [])

abbrev mutual
  pub type_used : TypeTree → List Used
  type_used (NamedType n) = type_name_used n
  type_used (Pointer star t) = type_used t
  type_used (ParenType first t last) = type_used t
  type_used (Struct k first ls last) = fields_used ls
  type_used (Interface k first methods last) = methods_used methods

  pub fields_used : FieldTrees → List Used
  fields_used NoFields = []
  fields_used (NamedFields xs t tag s rest) = type_used t ++ fields_used rest
  fields_used (EmbeddedField star n tag s rest) = type_name_used n ++ fields_used rest

  pub methods_used : MethodTrees → List Used
  methods_used NoMethods = []
  methods_used (Method x signature s rest) = signature_used signature ++ methods_used rest

  pub signature_used : SignatureTree → List Used
  signature_used (Signed first params last result) = params_used params ++ result_used result

  pub result_used : ResultTree → List Used
  result_used NoResult = []
  result_used (OneResult t) = type_used t
  result_used (Results first params last) = params_used params

  pub params_used : ParamTrees → List Used
  params_used NoParams = []
  params_used (Param xs t comma rest) = type_used t ++ params_used rest

-- expressions

abbrev pub key_used : LiteralType → ItemTrees → ℕ → Option Key → List Used
key_used of_type all n None = []
key_used of_type all n (Some k) = used k.name (KeySpot of_type all n) ∷ []

abbrev mutual
  pub expr_used : Stand → ExprTree → List Used
  expr_used p (Integer n span) = []
  expr_used p (Text t) = []
  expr_used p (Named x) = used x (NameSpot p) ∷ []
  expr_used p (Paren first e last) = expr_used (inside p) e
  expr_used p (Unary op span e) = expr_used (under_place op p) e
  expr_used p (Binary a op span b) = expr_used stands.«Value» a ++ expr_used stands.«Value» b
  expr_used p (Select e dot x) = expr_used (left_place p e) e ++ (used x (BehindSpot (whole p) (left_place p e) e) ∷ [])
  expr_used p (Call e first items last) = expr_used stands.Callee e ++ args_used items
  expr_used p (Literal n first items last) = type_name_used n ++ elements_used (OfName n) items 0 items
  expr_used p (StructLiteral t first items last) = type_used t ++ elements_used (OfWritten t) items 0 items

  -- arguments, which have no keys
  pub args_used : ItemTrees → List Used
  args_used NoItems = []
  args_used (Item key e comma rest) = expr_used stands.«Value» e ++ args_used rest

  -- elements from a number on, of a literal of a type that has all these
  pub elements_used : LiteralType → ItemTrees → ℕ → ItemTrees → List Used
  elements_used of_type all n NoItems = []
  elements_used of_type all n (Item key e comma rest) = key_used of_type all n key ++ (expr_used stands.«Value» e ++ elements_used of_type all (n + 1) rest)

abbrev pub exprs_used : Separated ExprTree → List Used
exprs_used (One e) = expr_used stands.«Value» e
exprs_used (Then e comma more) = expr_used stands.«Value» e ++ exprs_used more

-- specifications

abbrev pub some_type_used : Option TypeTree → List Used
some_type_used None = []
some_type_used (Some t) = type_used t

abbrev pub values_used : Option (Span × Separated ExprTree) → List Used
values_used None = []
values_used (Some v) = exprs_used v.1

abbrev pub spec_used : ValueSpecTree → List Used
spec_used v = some_type_used v.type_expr ++ values_used v.values

-- statements: left of `=`, `_` is no identifier that is used

abbrev pub target_used : ExprTree → List Used
target_used e = if is_blank_target e then [] else expr_used stands.«Value» e

abbrev pub targets_used : Separated ExprTree → List Used
targets_used (One e) = target_used e
targets_used (Then e comma more) = target_used e ++ targets_used more

abbrev pub simple_used : SimpleTree → List Used
simple_used (Alone e) = expr_used stands.«Value» e
simple_used (Step e op span) = expr_used stands.«Value» e
simple_used (Assign ts span es) = targets_used ts ++ exprs_used es
simple_used (Update e op span v) = expr_used stands.«Value» e ++ expr_used stands.«Value» v
simple_used (Define xs span es) = exprs_used es

abbrev pub given_used : Option (Separated ExprTree) → List Used
given_used None = []
given_used (Some es) = exprs_used es

-- headers

abbrev pub receiver_used : Option Receiver → List Used
receiver_used None = []
receiver_used (Some r) = type_name_used r.base

abbrev pub header_used : Option Receiver → SignatureTree → List Used
header_used r s = receiver_used r ++ signature_used s

-- of a piece of a function
abbrev pub piece_used : Piece → List Used
piece_used (Header r s) = header_used r s
piece_used (Spec k v) = spec_used v
piece_used (Act s) = simple_used s
piece_used (Condition e) = expr_used stands.«Value» e
piece_used (Given place es) = given_used es
