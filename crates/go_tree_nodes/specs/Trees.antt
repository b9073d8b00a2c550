-- Trees without where they lie in memory.
use Rattle.std.specs.Prelude.{ℕ, List, Option}
use Rattle.std.specs.List.{flat_map}
use Rattle.go_token_core.specs.text_core.declared.span.Span.{Span}
use Rattle.go_token_core.specs.declared.kind.Operator.{Operator}
use Rattle.go_tree_nodes.specs.declared.names.Ident.{Ident}
use Rattle.go_tree_nodes.specs.declared.names.TextLiteral.{TextLiteral}
use Rattle.go_tree_nodes.specs.declared.types.TypeName.{TypeName}
use Rattle.go_tree_nodes.specs.declared.exprs.Key.{Key}
use Rattle.go_tree_nodes.specs.declared.decls.ValueKind.{ValueKind}
use Rattle.go_tree_nodes.specs.declared.files.ImportName.{ImportName}
use Rattle.go_tree_nodes.specs.declared.files.Receiver.{Receiver}

-- some of a kind, with the places of the commas between them
pub data Separated (A : Type 0) : Type 0 where
  One : A → Separated A
  Then : A → Span → Separated A → Separated A

mutual
  -- a type
  pub data TypeTree : Type 0 where
    NamedType : TypeName → TypeTree
    Pointer : Span → TypeTree → TypeTree
    ParenType : Span → TypeTree → Span → TypeTree
    Struct : Span → Span → FieldTrees → Span → TypeTree
    Interface : Span → Span → MethodTrees → Span → TypeTree

  -- the lines of a struct type: fields, a tag and a semicolon, each of the last two where it stands
  pub data FieldTrees : Type 0 where
    NoFields : FieldTrees
    NamedFields : Separated Ident → TypeTree → Option TextLiteral → Option Span → FieldTrees → FieldTrees
    EmbeddedField : Option Span → TypeName → Option TextLiteral → Option Span → FieldTrees → FieldTrees

  -- the methods of an interface type, and the semicolon behind each that has one
  pub data MethodTrees : Type 0 where
    NoMethods : MethodTrees
    Method : Ident → SignatureTree → Option Span → MethodTrees → MethodTrees

  pub data SignatureTree : Type 0 where
    Signed : Span → ParamTrees → Span → ResultTree → SignatureTree

  pub data ResultTree : Type 0 where
    NoResult : ResultTree
    OneResult : TypeTree → ResultTree
    Results : Span → ParamTrees → Span → ResultTree

  -- the entries of a parameter list: a type, or names and their type, with the comma behind it where one stands
  pub data ParamTrees : Type 0 where
    NoParams : ParamTrees
    Param : Option (Separated Ident) → TypeTree → Option Span → ParamTrees → ParamTrees

mutual
  -- an expression
  pub data ExprTree : Type 0 where
    Integer : ℕ → Span → ExprTree
    Text : TextLiteral → ExprTree
    Named : Ident → ExprTree
    Paren : Span → ExprTree → Span → ExprTree
    Unary : Operator → Span → ExprTree → ExprTree
    Binary : ExprTree → Operator → Span → ExprTree → ExprTree
    Select : ExprTree → Span → Ident → ExprTree
    Call : ExprTree → Span → ItemTrees → Span → ExprTree
    Literal : TypeName → Span → ItemTrees → Span → ExprTree
    StructLiteral : TypeTree → Span → ItemTrees → Span → ExprTree

  -- arguments or elements, each with its key and the comma behind it where these stand
  pub data ItemTrees : Type 0 where
    NoItems : ItemTrees
    Item : Option Key → ExprTree → Option Span → ItemTrees → ItemTrees

-- names, their type and their values with the place of `=`, each of the last two where it stands
pub record ValueSpecTree : Type 0 where
  pub names : Separated Ident
  pub type_expr : Option TypeTree
  pub values : Option (Span × Separated ExprTree)

-- one specification, or several in parentheses with the semicolon behind each that has one
pub data Specs (A : Type 0) : Type 0 where
  Single : A → Specs A
  Group : Span → List (A × Option Span) → Span → Specs A

-- a declaration of constants or variables
pub record ValueTree : Type 0 where
  pub kind : ValueKind
  pub keyword : Span
  pub specs : Specs ValueSpecTree

-- the name of a type, the place of `=` where it is an alias, and the type
pub record TypeSpecTree : Type 0 where
  pub name : Ident
  pub alias : Option Span
  pub type_expr : TypeTree

-- a declaration of types
pub record TypeDeclTree : Type 0 where
  pub keyword : Span
  pub specs : Specs TypeSpecTree

-- a statement that may stand in a header
pub data SimpleTree : Type 0 where
  Alone : ExprTree → SimpleTree
  Step : ExprTree → Operator → Span → SimpleTree
  Assign : Separated ExprTree → Span → Separated ExprTree → SimpleTree
  Update : ExprTree → Operator → Span → ExprTree → SimpleTree
  Define : Separated Ident → Span → Separated ExprTree → SimpleTree

-- a statement, if one stands there, and the semicolon behind it; then the condition
pub record IfTree : Type 0 where
  pub init : Option (Option SimpleTree × Span)
  pub condition : ExprTree

pub data ForTree : Type 0 where
  Forever : ForTree
  While : ExprTree → ForTree
  Clauses : Option SimpleTree → Span → Option ExprTree → Span → Option SimpleTree → ForTree

mutual
  -- a statement
  pub data StmtTree : Type 0 where
    Empty : StmtTree
    Declare : ValueTree → StmtTree
    Simple : SimpleTree → StmtTree
    Return : Span → Option (Separated ExprTree) → StmtTree
    Break : Span → StmtTree
    Continue : Span → StmtTree
    Block : Span → Lines → Span → StmtTree
    If : BranchTree → StmtTree
    For : Span → ForTree → Span → Lines → Span → StmtTree

  -- an `if`: its place, its head, its block between the places of its braces, and what stands behind `else`
  pub data BranchTree : Type 0 where
    Branch : Span → IfTree → Span → Lines → Span → ElseTree → BranchTree

  pub data ElseTree : Type 0 where
    NoElse : ElseTree
    ElseBlock : Span → Span → Lines → Span → ElseTree
    ElseIf : Span → BranchTree → ElseTree

  -- statements, and the semicolon behind each that has one
  pub data Lines : Type 0 where
    NoLines : Lines
    Line : StmtTree → Option Span → Lines → Lines

-- a function or a method
pub record FuncTree : Type 0 where
  pub func : Span
  pub receiver : Option Receiver
  pub name : Ident
  pub signature : SignatureTree
  pub open_brace : Span
  pub body : Lines
  pub close_brace : Span

-- a declaration of the package block
pub data DeclTree : Type 0 where
  Value : ValueTree → DeclTree
  Types : TypeDeclTree → DeclTree
  Func : FuncTree → DeclTree

-- a declaration of the package block, and the semicolon behind it
pub record TopTree : Type 0 where
  pub decl : DeclTree
  pub semicolon : Span

-- one import
pub record ImportSpecTree : Type 0 where
  pub name : ImportName
  pub path : TextLiteral

-- an import declaration, and the semicolon behind it
pub record ImportTree : Type 0 where
  pub keyword : Span
  pub specs : Specs ImportSpecTree
  pub semicolon : Span

-- a file
pub record FileTree : Type 0 where
  pub clause : Span
  pub name : Ident
  pub semicolon : Span
  pub imports : List ImportTree
  pub decls : List TopTree

-- what each specification of a declaration gives, in order
abbrev pub of_specs : {A B : Type 0} → (A → List B) → Specs A → List B
of_specs f (Single x) = f x
of_specs f (Group first ls last) = flat_map (λ l. f l.0) ls
