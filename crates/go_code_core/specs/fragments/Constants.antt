-- The values of constant expressions over `int` and `bool`.
--
-- The Go specification, "Constant expressions".
use Rattle.std.specs.Prelude.{Option, Some, None}
use Rattle.go_tree_nodes.specs.token_core.declared.kind.Operator.{Operator}
use Rattle.go_constant_core.specs.declared.values.Constant.{Constant}
use Rattle.go_constant_core.specs.declared.values.Constant.TheVariants as values
use Rattle.go_constant_core.specs.Values.{natural, unary, binary}
use Rattle.go_tree_nodes.specs.Trees.{ExprTree, ItemTrees, Integer, Text, Named, Paren, Unary, Binary, Select, Call, Literal, StructLiteral, NoItems, Item}
use Rattle.go_code_core.specs.declared.fragments.names.ConstantWord.{ConstantWord}
use Rattle.go_code_core.specs.declared.fragments.names.ConstantWord.TheVariants as constants
use Rattle.go_code_core.specs.declared.fragments.names.Meaning.{Meaning}
use Rattle.go_code_core.specs.declared.fragments.names.Meaning.TheVariants as meanings
use Rattle.go_code_core.specs.fragments.Names.{CodeLooks, callee_meaning}

abbrev pub constant_of : ConstantWord → Constant
constant_of (constants.Int z) = values.Int z
constant_of (constants.Bool b) = values.Bool b

-- a value, if it is one over `int` or `bool`
abbrev pub held : Constant → Option ConstantWord
held (values.Int z) = Some (constants.Int z)
held (values.Bool b) = Some (constants.Bool b)
held (values.Text t) = None
held values.Unknown = None

abbrev pub some_held : Option Constant → Option ConstantWord
some_held None = None
some_held (Some c) = held c

abbrev pub folded_unary : Operator → Option ConstantWord → Option ConstantWord
folded_unary op None = None
folded_unary op (Some a) = some_held (unary op (constant_of a))

abbrev pub folded_binary : Operator → Option ConstantWord → Option ConstantWord → Option ConstantWord
folded_binary op None b = None
folded_binary op (Some a) None = None
folded_binary op (Some a) (Some b) = some_held (binary op (constant_of a) (constant_of b))

abbrev pub folded_name : Meaning → Option ConstantWord
folded_name (meanings.Constant v) = Some v
folded_name _ = None

-- a conversion of a constant has its value
abbrev pub converted : Meaning → Option ConstantWord → Option ConstantWord
converted (meanings.«Type» w) v = v
converted _ v = None

abbrev mutual
  -- the value of an expression, if it is a constant one over `int` or `bool`
  pub folded : CodeLooks → ExprTree → Option ConstantWord
  folded looks (Integer n s) = held (natural n)
  folded looks (Text t) = None
  folded looks (Named x) = folded_name (looks.meaning x.span.start)
  folded looks (Paren first e last) = folded looks e
  folded looks (Unary op s e) = folded_unary op (folded looks e)
  folded looks (Binary a op s b) = folded_binary op (folded looks a) (folded looks b)
  folded looks (Select e dot x) = folded_name (looks.meaning x.span.start)
  folded looks (Call e first items last) = converted (callee_meaning looks e) (folded_one looks items)
  folded looks (Literal n first items last) = None
  folded looks (StructLiteral t first items last) = None

  -- of the one argument
  pub folded_one : CodeLooks → ItemTrees → Option ConstantWord
  folded_one looks NoItems = None
  folded_one looks (Item key e comma NoItems) = folded looks e
  folded_one looks (Item key e comma (Item key' e' comma' rest)) = None
