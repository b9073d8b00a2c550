-- Statements that break out of the `for` around them.
use Rattle.std.proofs.Common.{◌≡◌, ◌↔◌, ℕ, true, inl, inr, refl, subst, arith}
use Rattle.std.proofs.lemmas.Bool.{or_cases, or_left, or_right}
use Rattle.go_denote_core.specs.text_core.declared.span.Span.{Span}
use Rattle.go_tree_nodes.specs.Trees as tree
use Rattle.go_tree_nodes.specs.Trees.{StmtTree, BranchTree, ElseTree, Lines, Empty, Simple, Return, Break, Continue, Block, If, For, Branch, NoElse, ElseBlock, ElseIf, NoLines, Line}
use Rattle.go_local_core.specs.walks.Ends.{has_break, branch_has_break, else_has_break, lines_have_break}
use Rattle.go_spec_laws.specs.ending.Ending.{IsStatementOf, IsFirstStatement, IsLaterStatement, IsElse, IsElseBlock, IsElseIf, BreaksOut, ByItself, InBlock, InThen, InElse, AreBrokenOut}
use Rattle.go_spec_laws.specs.ending.Standing.{StandsInFors, IsItself, IsInBlock, IsInThen, IsInElse, IsInFor}
use Rattle.go_spec_laws.specs.ending.Laws.{BreaksAreFound}

-- what is found breaks out

mutual
  stmt_breaks : (s : StmtTree) → has_break s ≡ true → BreaksOut s
  stmt_breaks Empty h = absurd (cc)
  stmt_breaks (tree.Declare v) h = absurd (cc)
  stmt_breaks (Simple s) h = absurd (cc)
  stmt_breaks (Return s es) h = absurd (cc)
  stmt_breaks (Break s) h = ByItself
  stmt_breaks (Continue s) h = absurd (cc)
  stmt_breaks (Block first ls last) h = let l = lines_break ls h in InBlock l.among l.breaks
  stmt_breaks (If b) h = branch_breaks b h
  stmt_breaks (For k head first ls last) h = absurd (cc)

  branch_breaks : (b : BranchTree) → branch_has_break b ≡ true → BreaksOut (If b)
  branch_breaks (Branch k head first ls last otherwise) h =
      elim (or_cases (lines_have_break ls) (else_has_break otherwise) h) [
        | inl x ↦ (let l = lines_break ls x in InThen l.among l.breaks)
        | inr y ↦ (let e = else_breaks otherwise y in InElse e.1 e.2)
      ]

  else_breaks : (o : ElseTree) → else_has_break o ≡ true → (s : StmtTree) × IsElse s o × BreaksOut s
  else_breaks NoElse h = absurd (cc)
  else_breaks (ElseBlock k first ls last) h = let l = lines_break ls h in (Block first ls last, IsElseBlock refl, InBlock l.among l.breaks)
  else_breaks (ElseIf k b) h = (If b, IsElseIf refl, branch_breaks b h)

  lines_break : (ls : Lines) → lines_have_break ls ≡ true → AreBrokenOut ls
  lines_break NoLines h = absurd (cc)
  lines_break (Line s semicolon more) h =
      elim (or_cases (has_break s) (lines_have_break more) h) [
        | inl x ↦ record { statement = s; among = IsFirstStatement; breaks = stmt_breaks s x }
        | inr y ↦ (let l = lines_break more y in record { statement = l.statement; among = IsLaterStatement l.among; breaks = l.breaks })
      ]

-- what breaks out is found

among_found : {s : StmtTree} {ls : Lines} → IsStatementOf s ls → has_break s ≡ true → lines_have_break ls ≡ true
among_found {s} (IsFirstStatement {more = more}) h = or_left (has_break s) (lines_have_break more) h
among_found (IsLaterStatement {other = t} {more = more} a) h = or_right (has_break t) (lines_have_break more) (among_found a h)

else_found : {s : StmtTree} {o : ElseTree} → IsElse s o → has_break s ≡ true → else_has_break o ≡ true
else_found (IsElseBlock is) h = subst (λ t. has_break t ≡ true) is h
else_found (IsElseIf is) h = subst (λ t. has_break t ≡ true) is h

stmt_found : {s : StmtTree} → BreaksOut s → has_break s ≡ true
stmt_found ByItself = refl
stmt_found (InBlock a b) = among_found a (stmt_found b)
stmt_found (InThen {ls = ls} {otherwise = o} a b) = or_left (lines_have_break ls) (else_has_break o) (among_found a (stmt_found b))
stmt_found (InElse {ls = ls} {otherwise = o} e b) = or_right (lines_have_break ls) (else_has_break o) (else_found e (stmt_found b))

-- a `break` stands there, and no `for` is around it

stands : {s : StmtTree} → BreaksOut s → (place : Span) × StandsInFors (Break place) 0 s
stands (ByItself {s = s}) = (s, IsItself)
stands (InBlock a b) = let r = stands b in (r.0, IsInBlock a r.1)
stands (InThen a b) = let r = stands b in (r.0, IsInThen a r.1)
stands (InElse e b) = let r = stands b in (r.0, IsInElse e r.1)

breaks : {place : Span} {n : ℕ} {s : StmtTree} → StandsInFors (Break place) n s → n ≡ 0 → BreaksOut s
breaks IsItself h = ByItself
breaks (IsInBlock a i) h = InBlock a (breaks i h)
breaks (IsInThen a i) h = InThen a (breaks i h)
breaks (IsInElse e i) h = InElse e (breaks i h)
breaks (IsInFor a i) h = absurd (omega (arith, h))

pub lists_decide : (ls : Lines) → (lines_have_break ls ≡ true) ↔ AreBrokenOut ls
lists_decide ls = (λ h. lines_break ls h, λ l. among_found l.among (stmt_found l.breaks))

pub are_found : BreaksAreFound
are_found = record {
  statements = λ s. (λ h. stmt_breaks s h, λ b. stmt_found b);
  lists = lists_decide;
  standing = λ s. (λ b. stands b, λ h. breaks h.1 refl);
}
