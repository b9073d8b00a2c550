-- Where statements are left: by `break` and `continue` of a `for` around them, or nowhere behind them.
--
-- The Go specification, "Terminating statements", "Break statements", "Continue statements".
use Rattle.std.specs.Prelude.{◌&&◌, ◌||◌, not, Bool, true, false, is_none}
use Rattle.go_tree_nodes.specs.Trees.{ExprTree, Integer, Text, Named, Paren, Unary, Binary, Select, Call, Literal, StructLiteral, SimpleTree, Alone, Step, Assign, Update, Define, StmtTree, Empty, Declare, Simple, Return, Break, Continue, Block, If, For, BranchTree, Branch, ElseTree, NoElse, ElseBlock, ElseIf, Lines, NoLines, Line}
use Rattle.go_code_core.specs.declared.fragments.names.Meaning.{Meaning}
use Rattle.go_code_core.specs.declared.fragments.names.Meaning.TheVariants as meanings
use Rattle.go_code_core.specs.fragments.Names.{CodeLooks, callee_meaning}
use Rattle.go_code_core.specs.Code.{head_test}

-- a `break` that refers to a `for` around the statement, and a `continue`
abbrev mutual
  pub breaks : StmtTree → Bool
  breaks Empty = false
  breaks (Declare v) = false
  breaks (Simple t) = false
  breaks (Return s es) = false
  breaks (Break s) = true
  breaks (Continue s) = false
  breaks (Block first ls last) = lines_break ls
  breaks (If b) = branch_breaks b
  breaks (For k head first ls last) = false

  pub branch_breaks : BranchTree → Bool
  branch_breaks (Branch k head first ls last other) = lines_break ls || else_breaks other

  pub else_breaks : ElseTree → Bool
  else_breaks NoElse = false
  else_breaks (ElseBlock k first ls last) = lines_break ls
  else_breaks (ElseIf k b) = branch_breaks b

  pub lines_break : Lines → Bool
  lines_break NoLines = false
  lines_break (Line t semicolon rest) = breaks t || lines_break rest

abbrev mutual
  pub continues : StmtTree → Bool
  continues Empty = false
  continues (Declare v) = false
  continues (Simple t) = false
  continues (Return s es) = false
  continues (Break s) = false
  continues (Continue s) = true
  continues (Block first ls last) = lines_continue ls
  continues (If b) = branch_continues b
  continues (For k head first ls last) = false

  pub branch_continues : BranchTree → Bool
  branch_continues (Branch k head first ls last other) = lines_continue ls || else_continues other

  pub else_continues : ElseTree → Bool
  else_continues NoElse = false
  else_continues (ElseBlock k first ls last) = lines_continue ls
  else_continues (ElseIf k b) = branch_continues b

  pub lines_continue : Lines → Bool
  lines_continue NoLines = false
  lines_continue (Line t semicolon rest) = continues t || lines_continue rest

abbrev pub is_panic : Meaning → Bool
is_panic meanings.Panic = true
is_panic _ = false

-- a call of `panic`, in parentheses too
abbrev pub panics : CodeLooks → ExprTree → Bool
panics looks (Call e first items last) = is_panic (callee_meaning looks e)
panics looks (Paren first e last) = panics looks e
panics looks (Integer n s) = false
panics looks (Text t) = false
panics looks (Named x) = false
panics looks (Unary op s e) = false
panics looks (Binary a op s b) = false
panics looks (Select e dot x) = false
panics looks (Literal n first items last) = false
panics looks (StructLiteral t first items last) = false

abbrev pub simple_panics : CodeLooks → SimpleTree → Bool
simple_panics looks (Alone e) = panics looks e
simple_panics looks (Step e op s) = false
simple_panics looks (Assign ts s es) = false
simple_panics looks (Update t op s e) = false
simple_panics looks (Define xs s es) = false

-- a statement behind which nothing is done
abbrev mutual
  pub terminates : CodeLooks → StmtTree → Bool
  terminates looks Empty = false
  terminates looks (Declare v) = false
  terminates looks (Simple t) = simple_panics looks t
  terminates looks (Return s es) = true
  terminates looks (Break s) = false
  terminates looks (Continue s) = false
  terminates looks (Block first ls last) = lines_terminate looks ls
  terminates looks (If b) = branch_terminates looks b
  terminates looks (For k head first ls last) = is_none (head_test head) && not (lines_break ls)

  pub branch_terminates : CodeLooks → BranchTree → Bool
  branch_terminates looks (Branch k head first ls last other) = lines_terminate looks ls && else_terminates looks other

  pub else_terminates : CodeLooks → ElseTree → Bool
  else_terminates looks NoElse = false
  else_terminates looks (ElseBlock k first ls last) = lines_terminate looks ls
  else_terminates looks (ElseIf k b) = branch_terminates looks b

  pub lines_terminate : CodeLooks → Lines → Bool
  lines_terminate looks NoLines = false
  lines_terminate looks (Line t semicolon rest) = terminates looks t || lines_terminate looks rest
