-- Where the parts of an expression stand.
--
-- docs/RULES.md, "Occurrences", "Expressions: roles, order, faults of parts". The Go specification, "Operands", "Qualified identifiers",
-- "Selectors", "Conversions".
use Rattle.std.specs.Prelude.{ℕ, Bool, true, false, Option, Some, None}
use Rattle.go_tree_nodes.specs.token_core.declared.kind.Operator.{Operator}
use Rattle.go_tree_nodes.specs.token_core.declared.kind.Operator.TheVariants as operators
use Rattle.go_tree_nodes.specs.declared.exprs.Key.{Key}
use Rattle.go_tree_nodes.specs.declared.usage.Usage.{Usage}
use Rattle.go_tree_nodes.specs.declared.usage.Usage.TheVariants as usages
use Rattle.go_tree_nodes.specs.Starts.{type_name_start, type_start}
use Rattle.go_tree_nodes.specs.Trees.{ExprTree, ItemTrees, Integer, Text, Named, Paren, Unary, Binary, Select, Call, Literal, StructLiteral, NoItems, Item}
use Rattle.go_tree_core.specs.declared.occurrence.Role.{Role}
use Rattle.go_tree_core.specs.declared.occurrence.Role.TheVariants as roles
use Rattle.go_denote_core.specs.declared.things.Stand.{Stand}
use Rattle.go_denote_core.specs.declared.things.Stand.TheVariants as stands

-- the place of what stands in parentheses: a name in them is no qualifier
abbrev pub inside : Stand → Stand
inside stands.«Type» = stands.«Type»
inside stands.TypeDot = stands.«Value»
inside stands.«Value» = stands.«Value»
inside stands.Callee = stands.Callee
inside stands.BeforeDot = stands.«Value»

-- the place of what stands behind a star: where a type or what is called is wanted, a type
abbrev pub starred_place : Stand → Stand
starred_place stands.«Type» = stands.«Type»
starred_place stands.TypeDot = stands.«Value»
starred_place stands.«Value» = stands.«Value»
starred_place stands.Callee = stands.«Type»
starred_place stands.BeforeDot = stands.«Value»

-- the place of what stands behind a unary operator
abbrev pub under_place : Operator → Stand → Stand
under_place operators.Star p = starred_place p
under_place _ p = stands.«Value»

-- the place of a name left of a dot: before the dot of a type a name is a package
abbrev pub before_place : Stand → Stand
before_place stands.«Type» = stands.TypeDot
before_place stands.TypeDot = stands.BeforeDot
before_place stands.«Value» = stands.BeforeDot
before_place stands.Callee = stands.BeforeDot
before_place stands.BeforeDot = stands.BeforeDot

-- the place left of a dot: a name alone may be a package there, anything else is an operand
abbrev pub left_place : Stand → ExprTree → Stand
left_place p (Named x) = before_place p
left_place p _ = stands.«Value»

-- how a selector as a whole is used
abbrev pub whole : Stand → Usage
whole stands.«Type» = usages.«Type»
whole stands.TypeDot = usages.«Value»
whole stands.«Value» = usages.«Value»
whole stands.Callee = usages.Callee
whole stands.BeforeDot = usages.«Value»

abbrev pub is_name : ExprTree → Bool
is_name (Named x) = true
is_name _ = false

-- a composite literal, in parentheses or not
abbrev pub is_literal : ExprTree → Bool
is_literal (Literal n first items last) = true
is_literal (StructLiteral t first items last) = true
is_literal (Paren first e last) = is_literal e
is_literal _ = false

-- a call, in parentheses or not
abbrev pub is_call : ExprTree → Bool
is_call (Call e first items last) = true
is_call (Paren first e last) = is_call e
is_call _ = false

-- the only argument is a call
abbrev pub is_lone_call : ItemTrees → Bool
is_lone_call NoItems = false
is_lone_call (Item key e comma NoItems) = is_call e
is_lone_call (Item key e comma (Item key2 e2 comma2 rest)) = false

-- more than one
abbrev pub is_several : ItemTrees → Bool
is_several NoItems = false
is_several (Item key e comma NoItems) = false
is_several (Item key e comma (Item key2 e2 comma2 rest)) = true

-- roles

abbrev pub place_role : Stand → Role
place_role stands.«Type» = roles.«Type»
place_role stands.TypeDot = roles.Qualifier
place_role stands.«Value» = roles.«Value»
place_role stands.Callee = roles.Callee
place_role stands.BeforeDot = roles.Qualifier

-- where things begin

-- the first byte of an expression
abbrev pub start : ExprTree → ℕ
start (Integer n span) = span.start
start (Text t) = t.span.start
start (Named x) = x.span.start
start (Paren first e last) = first.start
start (Unary op span e) = span.start
start (Binary a op span b) = start a
start (Select e dot x) = start e
start (Call e first items last) = start e
start (Literal n first items last) = type_name_start n
start (StructLiteral t first items last) = type_start t

-- where an element begins: at its key, if it has one
abbrev pub item_start : Option Key → ExprTree → ℕ
item_start None e = start e
item_start (Some k) e = k.name.span.start
