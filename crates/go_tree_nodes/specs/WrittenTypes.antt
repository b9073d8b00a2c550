-- The types that the parts of a function and of an initialiser write, in order: those of signatures and specifications, and struct types
-- before literals, at any depth. A type that is written inside another is not listed apart.
--
-- The Go specification, "Types", "Composite literals".
use Rattle.std.specs.Prelude.{List, [], ◌∷◌, ◌++◌, Option, Some, None}
use Rattle.std.specs.List.{flat_map}
use Rattle.go_token_core.specs.text_core.declared.span.Span.{Span}
use Rattle.go_tree_nodes.specs.Trees.{Separated, One, Then, TypeTree, SignatureTree, ResultTree, ParamTrees, Signed, NoResult, OneResult, Results, NoParams, Param, ExprTree, ItemTrees, Integer, Text, Named, Paren, Unary, Binary, Select, Call, Literal, StructLiteral, NoItems, Item, ValueSpecTree, Specs, Single, Group, SimpleTree, Alone, Step, Assign, Update, Define}

-- expressions: the struct types before literals, at any depth
abbrev mutual
  pub expr_types : ExprTree → List TypeTree
  expr_types (Integer n span) = []
  expr_types (Text t) = []
  expr_types (Named x) = []
  expr_types (Paren first t last) = expr_types t
  expr_types (Unary op span t) = expr_types t
  expr_types (Binary a op span b) = expr_types a ++ expr_types b
  expr_types (Select t dot x) = expr_types t
  expr_types (Call t first items last) = expr_types t ++ items_types items
  expr_types (Literal n first items last) = items_types items
  expr_types (StructLiteral t first items last) = t ∷ items_types items

  pub items_types : ItemTrees → List TypeTree
  items_types NoItems = []
  items_types (Item key t comma rest) = expr_types t ++ items_types rest

abbrev pub exprs_types : Separated ExprTree → List TypeTree
exprs_types (One t) = expr_types t
exprs_types (Then t comma more) = expr_types t ++ exprs_types more

abbrev pub some_expr_types : Option ExprTree → List TypeTree
some_expr_types None = []
some_expr_types (Some t) = expr_types t

abbrev pub some_exprs_types : Option (Separated ExprTree) → List TypeTree
some_exprs_types None = []
some_exprs_types (Some es) = exprs_types es

-- signatures: the type of each entry, which may have several names

abbrev pub params_types : ParamTrees → List TypeTree
params_types NoParams = []
params_types (Param xs t comma rest) = t ∷ params_types rest

abbrev pub result_types : ResultTree → List TypeTree
result_types NoResult = []
result_types (OneResult t) = t ∷ []
result_types (Results first params last) = params_types params

abbrev pub signature_types : SignatureTree → List TypeTree
signature_types (Signed first params last result) = params_types params ++ result_types result

-- specifications of constants and variables

abbrev pub some_type : Option TypeTree → List TypeTree
some_type None = []
some_type (Some t) = t ∷ []

abbrev pub values_types : Option (Span × Separated ExprTree) → List TypeTree
values_types None = []
values_types (Some v) = exprs_types v.1

abbrev pub spec_types : ValueSpecTree → List TypeTree
spec_types v = some_type v.type_expr ++ values_types v.values

abbrev pub specs_types : Specs ValueSpecTree → List TypeTree
specs_types (Single v) = spec_types v
specs_types (Group first vs last) = flat_map (λ v. spec_types v.0) vs

-- statements

abbrev pub simple_types : SimpleTree → List TypeTree
simple_types (Alone t) = expr_types t
simple_types (Step t op span) = expr_types t
simple_types (Assign ts span es) = exprs_types ts ++ exprs_types es
simple_types (Update t op span e) = expr_types t ++ expr_types e
simple_types (Define xs span es) = exprs_types es
