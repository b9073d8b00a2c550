-- A tree with another spelling of one identifier, and that this leaves what its outcome depends on as it was.
use Rattle.std.specs.Prelude.{◌≡◌, ◌⊎◌, ℕ, List, [], ◌∷◌, Option, Some, slice_get}
use Rattle.go_denote_core.specs.text_core.declared.span.Span.{Span}
use Rattle.go_tree_nodes.specs.token_core.declared.kind.Operator.{Operator}
use Rattle.go_tree_nodes.specs.declared.names.Ident.{Ident}
use Rattle.go_tree_nodes.specs.declared.names.TextLiteral.{TextLiteral}
use Rattle.go_tree_nodes.specs.declared.exprs.Key.{Key}
use Rattle.go_tree_nodes.specs.declared.types.TypeName.{TypeName}
use Rattle.go_tree_nodes.specs.declared.types.TypeName.TheVariants as type_names
use Rattle.go_tree_nodes.specs.Trees.{Separated, TypeTree, FieldTrees, MethodTrees, SignatureTree, ResultTree, ParamTrees, NamedType, Pointer, ParenType, Struct, Interface, NamedFields, EmbeddedField, Method, Signed, OneResult, Results, Param, ExprTree, ItemTrees, Named, Paren, Unary, Binary, Select, Call, Literal, StructLiteral, Item}
use Rattle.go_denote_core.specs.declared.things.Stand.{Stand}
use Rattle.go_expr_core.specs.Looks.{Looks}
use Rattle.go_expr_core.specs.Uses.{Context, Spot, Identifier, CallAt, rule, role_of, made_use, spots, uses}

-- the identifier with another spelling, where it stands
abbrev pub respelled : List ℕ → Ident → Ident
respelled name x = record { name = name; span = x.span }

-- the second is the first with an identifier x of it spelled as the name; names that are declared keep their spelling

pub data RespellsName (x : Ident) (name : List ℕ) : TypeName → TypeName → Type 0 where
  InPlain : RespellsName x name (type_names.Plain x) (type_names.Plain (respelled name x))
  InQualifier : {dot : Span} {y : Ident} → RespellsName x name (type_names.Qualified x dot y) (type_names.Qualified (respelled name x) dot y)
  BehindDot : {dot : Span} {q : Ident} → RespellsName x name (type_names.Qualified q dot x) (type_names.Qualified q dot (respelled name x))

mutual
  pub data RespellsType (x : Ident) (name : List ℕ) : TypeTree → TypeTree → Type 0 where
    InNamedType : {n m : TypeName} → RespellsName x name n m → RespellsType x name (NamedType n) (NamedType m)
    InPointer : {star : Span} {t u : TypeTree} → RespellsType x name t u → RespellsType x name (Pointer star t) (Pointer star u)
    InParenType : {first last : Span} {t u : TypeTree} → RespellsType x name t u → RespellsType x name (ParenType first t last) (ParenType first u last)
    InStruct : {k first last : Span} {ls ms : FieldTrees} → RespellsFields x name ls ms → RespellsType x name (Struct k first ls last) (Struct k first ms last)
    InInterface : {k first last : Span} {ls ms : MethodTrees} → RespellsMethods x name ls ms → RespellsType x name (Interface k first ls last) (Interface k first ms last)

  pub data RespellsFields (x : Ident) (name : List ℕ) : FieldTrees → FieldTrees → Type 0 where
    InFieldType : {xs : Separated Ident} {t u : TypeTree} {tag : Option TextLiteral} {s : Option Span} {rest : FieldTrees}
        → RespellsType x name t u → RespellsFields x name (NamedFields xs t tag s rest) (NamedFields xs u tag s rest)
    InLaterFields : {xs : Separated Ident} {t : TypeTree} {tag : Option TextLiteral} {s : Option Span} {rest more : FieldTrees}
        → RespellsFields x name rest more → RespellsFields x name (NamedFields xs t tag s rest) (NamedFields xs t tag s more)
    InEmbedded : {star : Option Span} {n m : TypeName} {tag : Option TextLiteral} {s : Option Span} {rest : FieldTrees}
        → RespellsName x name n m → RespellsFields x name (EmbeddedField star n tag s rest) (EmbeddedField star m tag s rest)
    BehindEmbedded : {star : Option Span} {n : TypeName} {tag : Option TextLiteral} {s : Option Span} {rest more : FieldTrees}
        → RespellsFields x name rest more → RespellsFields x name (EmbeddedField star n tag s rest) (EmbeddedField star n tag s more)

  pub data RespellsMethods (x : Ident) (name : List ℕ) : MethodTrees → MethodTrees → Type 0 where
    InMethod : {y : Ident} {a b : SignatureTree} {s : Option Span} {rest : MethodTrees} → RespellsSignature x name a b → RespellsMethods x name (Method y a s rest) (Method y b s rest)
    InLaterMethods : {y : Ident} {a : SignatureTree} {s : Option Span} {rest more : MethodTrees} → RespellsMethods x name rest more → RespellsMethods x name (Method y a s rest) (Method y a s more)

  pub data RespellsSignature (x : Ident) (name : List ℕ) : SignatureTree → SignatureTree → Type 0 where
    InParams : {first last : Span} {ps qs : ParamTrees} {r : ResultTree} → RespellsParams x name ps qs → RespellsSignature x name (Signed first ps last r) (Signed first qs last r)
    InResult : {first last : Span} {ps : ParamTrees} {r q : ResultTree} → RespellsResult x name r q → RespellsSignature x name (Signed first ps last r) (Signed first ps last q)

  pub data RespellsResult (x : Ident) (name : List ℕ) : ResultTree → ResultTree → Type 0 where
    InOneResult : {t u : TypeTree} → RespellsType x name t u → RespellsResult x name (OneResult t) (OneResult u)
    InResults : {first last : Span} {ps qs : ParamTrees} → RespellsParams x name ps qs → RespellsResult x name (Results first ps last) (Results first qs last)

  pub data RespellsParams (x : Ident) (name : List ℕ) : ParamTrees → ParamTrees → Type 0 where
    InParam : {xs : Option (Separated Ident)} {t u : TypeTree} {comma : Option Span} {rest : ParamTrees} → RespellsType x name t u → RespellsParams x name (Param xs t comma rest) (Param xs u comma rest)
    InLaterParams : {xs : Option (Separated Ident)} {t : TypeTree} {comma : Option Span} {rest more : ParamTrees} → RespellsParams x name rest more → RespellsParams x name (Param xs t comma rest) (Param xs t comma more)

mutual
  pub data Respells (x : Ident) (name : List ℕ) : ExprTree → ExprTree → Type 0 where
    InName : Respells x name (Named x) (Named (respelled name x))
    InParen : {first last : Span} {e f : ExprTree} → Respells x name e f → Respells x name (Paren first e last) (Paren first f last)
    InUnary : {op : Operator} {span : Span} {e f : ExprTree} → Respells x name e f → Respells x name (Unary op span e) (Unary op span f)
    InLeft : {op : Operator} {span : Span} {a b c : ExprTree} → Respells x name a c → Respells x name (Binary a op span b) (Binary c op span b)
    InRight : {op : Operator} {span : Span} {a b c : ExprTree} → Respells x name b c → Respells x name (Binary a op span b) (Binary a op span c)
    InOperand : {dot : Span} {y : Ident} {e f : ExprTree} → Respells x name e f → Respells x name (Select e dot y) (Select f dot y)
    InSelector : {dot : Span} {e : ExprTree} → Respells x name (Select e dot x) (Select e dot (respelled name x))
    InCallee : {first last : Span} {items : ItemTrees} {e f : ExprTree} → Respells x name e f → Respells x name (Call e first items last) (Call f first items last)
    InArguments : {first last : Span} {items others : ItemTrees} {e : ExprTree} → RespellsArgs x name items others → Respells x name (Call e first items last) (Call e first others last)
    InLiteralType : {first last : Span} {items : ItemTrees} {n m : TypeName} → RespellsName x name n m → Respells x name (Literal n first items last) (Literal m first items last)
    InElements : {first last : Span} {items others : ItemTrees} {n : TypeName} → RespellsItems x name items others → Respells x name (Literal n first items last) (Literal n first others last)
    InStructType : {first last : Span} {items : ItemTrees} {t u : TypeTree} → RespellsType x name t u → Respells x name (StructLiteral t first items last) (StructLiteral u first items last)
    InStructElements : {first last : Span} {items others : ItemTrees} {t : TypeTree} → RespellsItems x name items others → Respells x name (StructLiteral t first items last) (StructLiteral t first others last)

  -- arguments, which have no keys
  pub data RespellsArgs (x : Ident) (name : List ℕ) : ItemTrees → ItemTrees → Type 0 where
    InArgument : {key : Option Key} {e f : ExprTree} {comma : Option Span} {rest : ItemTrees} → Respells x name e f → RespellsArgs x name (Item key e comma rest) (Item key f comma rest)
    InLaterArguments : {key : Option Key} {e : ExprTree} {comma : Option Span} {rest more : ItemTrees} → RespellsArgs x name rest more → RespellsArgs x name (Item key e comma rest) (Item key e comma more)

  -- elements
  pub data RespellsItems (x : Ident) (name : List ℕ) : ItemTrees → ItemTrees → Type 0 where
    InKey : {colon : Span} {e : ExprTree} {comma : Option Span} {rest : ItemTrees}
        → RespellsItems x name (Item (Some (record { name = x; colon = colon })) e comma rest) (Item (Some (record { name = respelled name x; colon = colon })) e comma rest)
    InElement : {key : Option Key} {e f : ExprTree} {comma : Option Span} {rest : ItemTrees} → Respells x name e f → RespellsItems x name (Item key e comma rest) (Item key f comma rest)
    InLaterElements : {key : Option Key} {e : ExprTree} {comma : Option Span} {rest more : ItemTrees} → RespellsItems x name rest more → RespellsItems x name (Item key e comma rest) (Item key e comma more)

-- The identifier stands in a context, as the tree was, and under its new spelling it has what this context's rule gives for that.
pub record NameDecides (T S D P : Type 0) (looks : Looks T S D P) (p : Stand) (x : Ident) (name : List ℕ) (e f : ExprTree) : Type 0 where
  pub number : ℕ
  pub context : Context T D
  pub stands : slice_get (spots looks p e) number ≡ Some (Identifier context x)
  pub has : slice_get (uses looks p f) number ≡ Some (made_use x.span.start (role_of context) (rule looks context x.span.start name))

-- the identifier is among these
abbrev pub StandsAmongSpots : {T D P : Type 0} → Ident → List (Spot T D P) → Type 0
StandsAmongSpots x [] = ⊥
StandsAmongSpots x (Identifier c y ∷ more) = (y ≡ x) ⊎ StandsAmongSpots x more
StandsAmongSpots x (CallAt s o ∷ more) = StandsAmongSpots x more

pub record OwnNameDecides (T S D P : Type 0) : Type 0 where
  pub decides : (looks : Looks T S D P) (p : Stand) (x : Ident) (name : List ℕ) (e f : ExprTree) → Respells x name e f → NameDecides T S D P looks p x name e f
  -- each identifier that has an outcome can be respelled
  pub each : (looks : Looks T S D P) (p : Stand) (x : Ident) (name : List ℕ) (e : ExprTree) → StandsAmongSpots x (spots looks p e) → (f : ExprTree) × Respells x name e f
