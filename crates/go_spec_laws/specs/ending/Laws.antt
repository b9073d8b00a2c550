-- What ends a function, and where `break` and `continue` may not stand, is what the Go specification says.
--
-- docs/RULES.md, "Bodies of functions". The Go specification, "Terminating statements", "Break statements", "Continue statements".
use Rattle.std.specs.Prelude.{◌≡◌, ◌↔◌, ℕ, Bool, true, false, [], map, IsTrue, Contains}
use Rattle.std.specs.List.Sorted.{IsStrictlyIncreasing}
use Rattle.go_denote_core.specs.text_core.declared.span.Span.{Span}
use Rattle.go_tree_nodes.specs.Terminals.{InOrder}
use Rattle.go_tree_nodes.specs.Spelling.{spell_lines}
use Rattle.go_tree_nodes.specs.Trees.{ExprTree, StmtTree, Lines, Break}
use Rattle.go_local_core.specs.declared.Fault.{Fault}
use Rattle.go_local_core.specs.walks.Ends.{has_break, lines_have_break, is_terminating, are_terminating, lines_loop_faults}
use Rattle.go_spec_laws.specs.ending.Ending.{BreaksOut, AreBrokenOut, IsTerminating, EndTerminating}
use Rattle.go_spec_laws.specs.ending.Standing.{StandsInFors, IsStray}

-- the expressions that are calls of `panic`, by a test
abbrev pub Passes : (ExprTree → Bool) → ExprTree → Type 0
Passes panics t = IsTrue (panics t)

-- whichever expressions are calls of `panic`, exactly the terminating statements are found, and exactly the lists that end in one
pub record EndingsAreTerminating : Type 0 where
  pub statements : (panics : ExprTree → Bool) (s : StmtTree) → IsTrue (is_terminating panics s) ↔ IsTerminating (Passes panics) s
  pub lists : (panics : ExprTree → Bool) (ls : Lines) → IsTrue (are_terminating panics ls) ↔ EndTerminating (Passes panics) ls

-- exactly the statements that break out are found, and exactly the lists of which one does; and these are the statements in which a `break`
-- stands that has none of their `for`s around it
pub record BreaksAreFound : Type 0 where
  pub statements : (s : StmtTree) → IsTrue (has_break s) ↔ BreaksOut s
  pub lists : (ls : Lines) → IsTrue (lines_have_break ls) ↔ AreBrokenOut ls
  pub standing : (s : StmtTree) → BreaksOut s ↔ ((place : Span) × StandsInFors (Break place) 0 s)

-- in a body exactly each `break` and each `continue` that no `for` is around has its fault; where the tokens of the body follow one another, as in
-- every text, the faults do too, so that each is there once, in the order of their places; and in the block of a `for` there is none
pub record StraysAreFaults : Type 0 where
  pub each : (ls : Lines) (fault : Fault) → Contains (lines_loop_faults false ls) fault ↔ IsStray ls fault
  pub in_order : (ls : Lines) (low high : ℕ) → InOrder low (spell_lines ls) high → IsStrictlyIncreasing (map (λ f. f.offset) (lines_loop_faults false ls))
  pub inside : (ls : Lines) → lines_loop_faults true ls ≡ []
