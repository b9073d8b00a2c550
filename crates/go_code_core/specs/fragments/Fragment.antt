-- Of which functions code is made: those that work on values over `int` and `bool` alone.
use Rattle.std.specs.Prelude.{ℕ, Bool, true, false, ◌&&◌, ◌||◌, not, nat_eq, List, Option, Some, None, is_some, if◌then◌else◌}
use Rattle.go_tree_nodes.specs.token_core.declared.kind.Operator.{Operator}
use Rattle.go_tree_nodes.specs.token_core.declared.kind.Operator.TheVariants as operators
use Rattle.go_tree_nodes.specs.declared.types.TypeName.{TypeName}
use Rattle.go_tree_nodes.specs.declared.types.TypeName.TheVariants as type_names
use Rattle.go_tree_nodes.specs.Trees.{TypeTree, NamedType, Pointer, ParenType, Struct, Interface, ExprTree, ItemTrees, Integer, Text, Named, Paren, Unary, Binary, Select, Call, Literal, StructLiteral, NoItems, Item}
use Rattle.go_tree_nodes.specs.Counts.{item_count}
use Rattle.go_object_core.specs.declared.instructions.letters.Word.{Word}
use Rattle.go_object_core.specs.declared.instructions.letters.Word.TheVariants as words
use Rattle.go_code_core.specs.declared.fragments.names.Gives.{Gives}
use Rattle.go_code_core.specs.declared.fragments.names.Gives.TheVariants as gives
use Rattle.go_code_core.specs.declared.fragments.names.Meaning.{Meaning}
use Rattle.go_code_core.specs.declared.fragments.names.Meaning.TheVariants as meanings
use Rattle.go_code_core.specs.fragments.Names.{CodeLooks, Frame, slot_of, word_of, callee_meaning}

-- types

abbrev pub type_of_meaning : Meaning → Option Word
type_of_meaning (meanings.«Type» w) = Some w
type_of_meaning _ = None

-- what the name of a type is over: its last identifier says it
abbrev pub type_name_word : CodeLooks → TypeName → Option Word
type_name_word looks (type_names.Plain x) = type_of_meaning (looks.meaning x.span.start)
type_name_word looks (type_names.Qualified q dot x) = type_of_meaning (looks.meaning x.span.start)

-- what a type is over: none where it is over something other than `int` or `bool`
abbrev pub type_word : CodeLooks → TypeTree → Option Word
type_word looks (NamedType n) = type_name_word looks n
type_word looks (ParenType first t last) = type_word looks t
type_word looks (Pointer star t) = None
type_word looks (Struct s first _ last) = None
type_word looks (Interface s first _ last) = None

abbrev pub some_type_inside : CodeLooks → Option TypeTree → Bool
some_type_inside looks None = true
some_type_inside looks (Some t) = is_some (type_word looks t)

-- expressions

abbrev pub is_one : Gives → Bool
is_one (gives.One w) = true
is_one gives.Nothing = false
is_one gives.Other = false

abbrev pub is_other : Gives → Bool
is_other (gives.One w) = false
is_other gives.Nothing = false
is_other gives.Other = true

abbrev pub over : Option Word → Gives
over None = gives.Other
over (Some w) = gives.One w

-- what operators give of words
abbrev pub unary_word : Operator → Option Word
unary_word operators.Plus = Some words.Int
unary_word operators.Minus = Some words.Int
unary_word operators.Not = Some words.Bool
unary_word _ = None

abbrev pub binary_word : Operator → Option Word
binary_word operators.Plus = Some words.Int
binary_word operators.Minus = Some words.Int
binary_word operators.Star = Some words.Int
binary_word operators.Slash = Some words.Int
binary_word operators.Percent = Some words.Int
binary_word operators.Equal = Some words.Bool
binary_word operators.NotEqual = Some words.Bool
binary_word operators.Less = Some words.Bool
binary_word operators.LessEqual = Some words.Bool
binary_word operators.Greater = Some words.Bool
binary_word operators.GreaterEqual = Some words.Bool
binary_word operators.LogicalAnd = Some words.Bool
binary_word operators.LogicalOr = Some words.Bool
binary_word _ = None

-- a variable of the function, or a constant
abbrev pub meaning_gives : List (Option ℕ) → Meaning → Gives
meaning_gives slots (meanings.Variable at w) = if is_some (slot_of slots at) then gives.One w else gives.Other
meaning_gives slots (meanings.Constant v) = gives.One (word_of v)
meaning_gives slots _ = gives.Other

-- a constant of another package
abbrev pub selected_gives : Meaning → Gives
selected_gives (meanings.Constant v) = gives.One (word_of v)
selected_gives _ = gives.Other

-- a call of what is called with so many arguments
abbrev pub call_gives : Meaning → ℕ → Gives
call_gives (meanings.Function g) n = g
call_gives (meanings.Method g) n = g
call_gives (meanings.«Type» w) n = if nat_eq n 1 then gives.One w else gives.Other
call_gives meanings.Println n = gives.Nothing
call_gives meanings.Panic n = if nat_eq n 1 then gives.Nothing else gives.Other
call_gives (meanings.Variable at w) n = gives.Other
call_gives (meanings.Constant v) n = gives.Other
call_gives meanings.Other n = gives.Other

abbrev pub means_method : Meaning → Bool
means_method (meanings.Method g) = true
means_method _ = false

abbrev mutual
  -- what an expression gives, where each expression in it gives one value over `int` or `bool`: else `Other`
  pub expr_gives : Frame → ExprTree → Gives
  expr_gives f (Integer n s) = gives.One words.Int
  expr_gives f (Text t) = gives.Other
  expr_gives f (Named x) = meaning_gives f.slots (f.looks.meaning x.span.start)
  expr_gives f (Paren first e last) = expr_gives f e
  expr_gives f (Unary op s e) = if is_one (expr_gives f e) then over (unary_word op) else gives.Other
  expr_gives f (Binary a op s b) = if is_one (expr_gives f a) && is_one (expr_gives f b) then over (binary_word op) else gives.Other
  expr_gives f (Select e dot x) = selected_gives (f.looks.meaning x.span.start)
  expr_gives f (Call e first items last) = if receiver_fits f e && all_ones f items then call_gives (callee_meaning f.looks e) (item_count items) else gives.Other
  expr_gives f (Literal n first items last) = gives.Other
  expr_gives f (StructLiteral t first items last) = gives.Other

  -- the receiver of a method that is called gives one value over `int` or `bool`
  pub receiver_fits : Frame → ExprTree → Bool
  receiver_fits f (Select e dot x) = not (means_method (f.looks.meaning x.span.start)) || is_one (expr_gives f e)
  receiver_fits f (Paren first e last) = receiver_fits f e
  receiver_fits f (Integer n s) = true
  receiver_fits f (Text t) = true
  receiver_fits f (Named x) = true
  receiver_fits f (Unary op s e) = true
  receiver_fits f (Binary a op s b) = true
  receiver_fits f (Call e first items last) = true
  receiver_fits f (Literal n first items last) = true
  receiver_fits f (StructLiteral t first items last) = true

  -- so does each argument
  pub all_ones : Frame → ItemTrees → Bool
  all_ones f NoItems = true
  all_ones f (Item key e comma rest) = is_one (expr_gives f e) && all_ones f rest
