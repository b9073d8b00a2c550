-- Terminating statements, in the words of the Go specification.
--
-- docs/RULES.md, "Grammar", "Bodies of functions". The Go specification, "Terminating statements", "Break statements".
use Rattle.std.specs.Prelude.{◌≡◌, Option, None}
use Rattle.go_denote_core.specs.text_core.declared.span.Span.{Span}
use Rattle.go_tree_nodes.specs.Trees.{Separated, ExprTree, SimpleTree, Alone, IfTree, ForTree, Forever, Clauses, StmtTree, BranchTree, ElseTree, Lines, Empty, Simple, Return, Break, Block, If, For, Branch, ElseBlock, ElseIf, NoLines, Line}

-- a statement of a list
pub data IsStatementOf (s : StmtTree) : Lines → Type 0 where
  IsFirstStatement : {semicolon : Option Span} {more : Lines} → IsStatementOf s (Line s semicolon more)
  IsLaterStatement : {other : StmtTree} {semicolon : Option Span} {more : Lines} → IsStatementOf s more → IsStatementOf s (Line other semicolon more)

-- what stands behind `else`: an `if`, or a block
pub data IsElse (s : StmtTree) : ElseTree → Type 0 where
  IsElseBlock : {k first last : Span} {ls : Lines} → s ≡ Block first ls last → IsElse s (ElseBlock k first ls last)
  IsElseIf : {k : Span} {b : BranchTree} → s ≡ If b → IsElse s (ElseIf k b)

-- "A "break" statement terminates execution of the innermost "for", "switch", or "select" statement within the same function."
--
-- So a statement in the block of a `for` has a `break` that refers to this `for` where a `break` stands in it and no further `for` between them.
pub data BreaksOut : StmtTree → Type 0 where
  -- it is a `break`
  ByItself : {s : Span} → BreaksOut (Break s)
  -- one stands in a block
  InBlock : {first last : Span} {ls : Lines} {s : StmtTree} → IsStatementOf s ls → BreaksOut s → BreaksOut (Block first ls last)
  -- in the block of an `if`
  InThen : {k first last : Span} {head : IfTree} {ls : Lines} {otherwise : ElseTree} {s : StmtTree} → IsStatementOf s ls → BreaksOut s → BreaksOut (If (Branch k head first ls last otherwise))
  -- behind its `else`
  InElse : {k first last : Span} {head : IfTree} {ls : Lines} {otherwise : ElseTree} {s : StmtTree} → IsElse s otherwise → BreaksOut s → BreaksOut (If (Branch k head first ls last otherwise))

-- one of these statements has such a `break`
pub record AreBrokenOut (ls : Lines) : Type 0 where
  pub statement : StmtTree
  pub among : IsStatementOf statement ls
  pub breaks : BreaksOut statement

-- the condition of a `for` is absent
pub data HasNoCondition : ForTree → Type 0 where
  NoClause : HasNoCondition Forever
  NoneBetween : {init post : Option SimpleTree} {a b : Span} → HasNoCondition (Clauses init a None b post)

-- statements that are all empty
pub data AreEmpty : Lines → Type 0 where
  NoneLeft : AreEmpty NoLines
  EmptyFirst : {semicolon : Option Span} {more : Lines} → AreEmpty more → AreEmpty (Line Empty semicolon more)

-- the final statement of a list that is not empty
pub data IsFinal (s : StmtTree) : Lines → Type 0 where
  IsHere : {semicolon : Option Span} {more : Lines} → ¬ (s ≡ Empty) → AreEmpty more → IsFinal s (Line s semicolon more)
  IsBehind : {other : StmtTree} {semicolon : Option Span} {more : Lines} → IsFinal s more → IsFinal s (Line other semicolon more)

-- "A terminating statement interrupts the regular flow of control in a block. The following statements are terminating:"
--
-- Of the list there, `goto`, `switch`, `select` and labeled statements are not of the grammar, and neither are range clauses and labels.
pub data IsTerminating (IsPanic : ExprTree → Type 0) : StmtTree → Type 0 where
  -- "A "return" or "goto" statement."
  AReturn : {s : Span} {es : Option (Separated ExprTree)} → IsTerminating IsPanic (Return s es)
  -- "A call to the built-in function panic."
  APanic : {t : ExprTree} → IsPanic t → IsTerminating IsPanic (Simple (Alone t))
  -- "A block in which the statement list ends in a terminating statement." And: "A statement list ends in a terminating statement if the list is
  -- not empty and its final non-empty statement is terminating."
  ABlock : {first last : Span} {ls : Lines} {s : StmtTree} → IsFinal s ls → IsTerminating IsPanic s → IsTerminating IsPanic (Block first ls last)
  -- "An "if" statement in which: the "else" branch is present, and both branches are terminating statements."
  AnIf :
      {k first last : Span} {head : IfTree} {ls : Lines} {otherwise : ElseTree} {s : StmtTree}
      → IsTerminating IsPanic (Block first ls last) → IsElse s otherwise → IsTerminating IsPanic s → IsTerminating IsPanic (If (Branch k head first ls last otherwise))
  -- "A "for" statement in which: there are no "break" statements referring to the for statement, and the loop condition is absent, and the loop
  -- does not use a range clause."
  AFor : {k first last : Span} {head : ForTree} {ls : Lines} → ¬ AreBrokenOut ls → HasNoCondition head → IsTerminating IsPanic (For k head first ls last)

-- "A statement list ends in a terminating statement if the list is not empty and its final non-empty statement is terminating."
pub record EndTerminating (IsPanic : ExprTree → Type 0) (ls : Lines) : Type 0 where
  pub statement : StmtTree
  pub final : IsFinal statement ls
  pub terminating : IsTerminating IsPanic statement
