-- Where `break` and `continue` may not stand.
--
-- docs/RULES.md, "Bodies of functions". The Go specification, "Break statements", "Continue statements".
use Rattle.std.specs.Prelude.{◌≡◌, ℕ, suc}
use Rattle.go_denote_core.specs.text_core.declared.span.Span.{Span}
use Rattle.go_denote_core.specs.text_core.declared.rule.Rule.TheVariants.{Y6}
use Rattle.go_tree_nodes.specs.Trees.{IfTree, ForTree, StmtTree, ElseTree, Lines, Break, Continue, Block, If, For, Branch}
use Rattle.go_local_core.specs.declared.Fault.{Fault}
use Rattle.go_spec_laws.specs.ending.Ending.{IsStatementOf, IsElse}

-- a statement stands in another one, or is it, and so many `for`s of that one are around it
pub data StandsInFors (s : StmtTree) : ℕ → StmtTree → Type 0 where
  IsItself : StandsInFors s 0 s
  IsInBlock : {first last : Span} {ls : Lines} {t : StmtTree} {n : ℕ} → IsStatementOf t ls → StandsInFors s n t → StandsInFors s n (Block first ls last)
  IsInThen : {k first last : Span} {head : IfTree} {ls : Lines} {otherwise : ElseTree} {t : StmtTree} {n : ℕ} → IsStatementOf t ls → StandsInFors s n t → StandsInFors s n (If (Branch k head first ls last otherwise))
  IsInElse : {k first last : Span} {head : IfTree} {ls : Lines} {otherwise : ElseTree} {t : StmtTree} {n : ℕ} → IsElse t otherwise → StandsInFors s n t → StandsInFors s n (If (Branch k head first ls last otherwise))
  IsInFor : {k first last : Span} {head : ForTree} {ls : Lines} {t : StmtTree} {n : ℕ} → IsStatementOf t ls → StandsInFors s n t → StandsInFors s (suc n) (For k head first ls last)

-- a statement stands in a body, and so many `for`s of it are around it
pub record StandsInBody (s : StmtTree) (n : ℕ) (ls : Lines) : Type 0 where
  pub outer : StmtTree
  pub among : IsStatementOf outer ls
  pub inside : StandsInFors s n outer

-- a fault at the first byte of a statement that begins here
abbrev pub stray_at : Span → Fault
stray_at s = record { offset = s.start; rule = Y6 }

-- a statement that begins here and may stand in a `for` alone
pub data IsJump (place : Span) : StmtTree → Type 0 where
  -- "A "break" statement terminates execution of the innermost "for", "switch", or "select" statement within the same function."
  ABreak : IsJump place (Break place)
  -- "A "continue" statement begins the next iteration of the innermost enclosing "for" loop by advancing control to the end of the loop block. The
  -- "for" loop must be within the same function."
  AContinue : IsJump place (Continue place)

-- a fault is that of such a statement of a body that has no `for` around it
pub record IsStray (ls : Lines) (fault : Fault) : Type 0 where
  pub place : Span
  pub statement : StmtTree
  pub jumps : IsJump place statement
  pub stands : StandsInBody statement 0 ls
  pub here : fault ≡ stray_at place
