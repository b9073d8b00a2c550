-- Statements that are found to end a list of statements.
use Rattle.std.proofs.Common.{◌≡◌, ◌↔◌, Bool, true, false, not, ◌&&◌, refl, sym, subst}
use Rattle.std.specs.Prelude.{if◌then◌else◌}
use Rattle.std.proofs.lemmas.Bool.{and_parts, and_from}
use Rattle.go_denote_core.specs.text_core.declared.span.Span.{Span}
use Rattle.go_tree_nodes.specs.Trees as tree
use Rattle.std.specs.Prelude.{Option, Some, None}
use Rattle.go_tree_nodes.specs.Trees.{ExprTree, SimpleTree, Alone, Step, Assign, Update, Define, ForTree, Forever, While, Clauses, StmtTree, BranchTree, ElseTree, Lines, Empty, Simple, Return, Break, Continue, Block, If, For, Branch, NoElse, ElseBlock, ElseIf, NoLines, Line}
use Rattle.go_tree_nodes.specs.Counts.{is_empty}
use Rattle.go_local_core.specs.walks.Ends.{lines_have_break, has_no_condition, are_empty, is_panic, is_terminating, is_branch_terminating, is_else_terminating, are_terminating}
use Rattle.go_spec_laws.specs.ending.Ending.{IsElse, IsElseBlock, IsElseIf, AreBrokenOut, HasNoCondition, NoClause, NoneBetween, AreEmpty, NoneLeft, EmptyFirst, IsFinal, IsHere, IsBehind, IsTerminating, AReturn, APanic, ABlock, AnIf, AFor, EndTerminating}
use Rattle.go_spec_laws.specs.ending.Laws.{Passes, EndingsAreTerminating}
use Rattle.go_spec_laws.proofs.EndingBreaking.{lists_decide}

-- empty statements

empty_is : (s : StmtTree) → is_empty s ≡ true → s ≡ Empty
empty_is Empty h = refl
empty_is (tree.Declare v) h = absurd (cc)
empty_is (Simple s) h = absurd (cc)
empty_is (Return s es) h = absurd (cc)
empty_is (Break s) h = absurd (cc)
empty_is (Continue s) h = absurd (cc)
empty_is (Block first ls last) h = absurd (cc)
empty_is (If b) h = absurd (cc)
empty_is (For k head first ls last) h = absurd (cc)

full_is : (s : StmtTree) → ¬ (s ≡ Empty) → is_empty s ≡ false
full_is Empty n = absurd (n refl)
full_is (tree.Declare v) n = refl
full_is (Simple s) n = refl
full_is (Return s es) n = refl
full_is (Break s) n = refl
full_is (Continue s) n = refl
full_is (Block first ls last) n = refl
full_is (If b) n = refl
full_is (For k head first ls last) n = refl

all_empty : (ls : Lines) → are_empty ls ≡ true → AreEmpty ls
all_empty NoLines h = NoneLeft
all_empty (Line s semicolon more) h =
    let both = and_parts (is_empty s) (are_empty more) h in
    subst (λ t. AreEmpty (Line t semicolon more)) (sym (empty_is s both.0)) (EmptyFirst (all_empty more both.1))

empty_found : {ls : Lines} → AreEmpty ls → are_empty ls ≡ true
empty_found NoneLeft = refl
empty_found (EmptyFirst e) = empty_found e

both_false : (a b : Bool) → b ≡ false → (a && b) ≡ false
both_false true b h = h
both_false false b h = refl

one_false : (a b : Bool) → a ≡ false → (a && b) ≡ false
one_false true b h = absurd (cc)
one_false false b h = refl

final_full : {s : StmtTree} {ls : Lines} → IsFinal s ls → are_empty ls ≡ false
final_full {s} (IsHere {more = more} n e) = one_false (is_empty s) (are_empty more) (full_is s n)
final_full (IsBehind {other = t} {more = more} f) = both_false (is_empty t) (are_empty more) (final_full f)

-- heads of `for`

head_is : (h : ForTree) → has_no_condition h ≡ true → HasNoCondition h
head_is Forever h = NoClause
head_is (While t) h = absurd (cc)
head_is (Clauses init a None b post) h = NoneBetween
head_is (Clauses init a (Some t) b post) h = absurd (cc)

head_found : {h : ForTree} → HasNoCondition h → has_no_condition h ≡ true
head_found NoClause = refl
head_found NoneBetween = refl

unbroken : (ls : Lines) → not (lines_have_break ls) ≡ true → ¬ AreBrokenOut ls
unbroken ls h b = let k : lines_have_break ls ≡ true = (lists_decide ls).1 b in let z : false ≡ true = subst (λ x. not x ≡ true) k h in (cc)

not_true : (b : Bool) → ¬ (b ≡ true) → not b ≡ true
not_true true n = absurd (n refl)
not_true false n = refl

unbroken_found : (ls : Lines) → ¬ AreBrokenOut ls → not (lines_have_break ls) ≡ true
unbroken_found ls n = not_true (lines_have_break ls) (λ h. n ((lists_decide ls).0 h))

module _ (panics : ExprTree → Bool) where
  panic_is : (s : SimpleTree) → is_panic panics s ≡ true → IsTerminating (Passes panics) (Simple s)
  panic_is (Alone t) h = APanic h
  panic_is (Step t op s) h = absurd (cc)
  panic_is (Assign ts s es) h = absurd (cc)
  panic_is (Update t op s e) h = absurd (cc)
  panic_is (Define xs s es) h = absurd (cc)

  -- what is found is terminating

  not_empty : (s : StmtTree) → is_terminating panics s ≡ true → ¬ (s ≡ Empty)
  not_empty s h e = let z : false ≡ true = subst (λ t. is_terminating panics t ≡ true) e h in (cc)

  line_ends : (s : StmtTree) (semicolon : Option Span) (more : Lines) (e : Bool) → are_empty more ≡ e → (is_terminating panics s ≡ true → IsTerminating (Passes panics) s) → (are_terminating panics more ≡ true → EndTerminating (Passes panics) more)
      → (if e then is_terminating panics s else are_terminating panics more) ≡ true → EndTerminating (Passes panics) (Line s semicolon more)
  line_ends s semicolon more true is one rest h = record { statement = s; final = IsHere (not_empty s h) (all_empty more is); terminating = one h }
  line_ends s semicolon more false is one rest h = let r = rest h in record { statement = r.statement; final = IsBehind r.final; terminating = r.terminating }

  mutual
    stmt_ends : (s : StmtTree) → is_terminating panics s ≡ true → IsTerminating (Passes panics) s
    stmt_ends Empty h = absurd (cc)
    stmt_ends (tree.Declare v) h = absurd (cc)
    stmt_ends (Simple s) h = panic_is s h
    stmt_ends (Return s es) h = AReturn
    stmt_ends (Break s) h = absurd (cc)
    stmt_ends (Continue s) h = absurd (cc)
    stmt_ends (Block first ls last) h = let l = lines_end ls h in ABlock l.final l.terminating
    stmt_ends (If b) h = branch_ends b h
    stmt_ends (For k head first ls last) h = let both = and_parts (has_no_condition head) (not (lines_have_break ls)) h in AFor (unbroken ls both.1) (head_is head both.0)

    branch_ends : (b : BranchTree) → is_branch_terminating panics b ≡ true → IsTerminating (Passes panics) (If b)
    branch_ends (Branch k head first ls last otherwise) h =
        let both = and_parts (are_terminating panics ls) (is_else_terminating panics otherwise) h in
        let l = lines_end ls both.0 in
        let e = else_ends otherwise both.1 in
        AnIf (ABlock l.final l.terminating) e.1 e.2

    else_ends : (o : ElseTree) → is_else_terminating panics o ≡ true → (s : StmtTree) × IsElse s o × IsTerminating (Passes panics) s
    else_ends NoElse h = absurd (cc)
    else_ends (ElseBlock k first ls last) h = let l = lines_end ls h in (Block first ls last, IsElseBlock refl, ABlock l.final l.terminating)
    else_ends (ElseIf k b) h = (If b, IsElseIf refl, branch_ends b h)

    lines_end : (ls : Lines) → are_terminating panics ls ≡ true → EndTerminating (Passes panics) ls
    lines_end NoLines h = absurd (cc)
    lines_end (Line s semicolon more) h = line_ends s semicolon more (are_empty more) refl (λ k. stmt_ends s k) (λ k. lines_end more k) h

  -- what is terminating is found

  final_found : {s : StmtTree} {ls : Lines} → IsFinal s ls → is_terminating panics s ≡ true → are_terminating panics ls ≡ true
  final_found {s} (IsHere {more = more} n e) h = subst (λ b. (if b then is_terminating panics s else are_terminating panics more) ≡ true) (sym (empty_found e)) h
  final_found (IsBehind {other = t} {more = more} f) h = subst (λ b. (if b then is_terminating panics t else are_terminating panics more) ≡ true) (sym (final_full f)) (final_found f h)

  else_found : {s : StmtTree} {o : ElseTree} → IsElse s o → is_terminating panics s ≡ true → is_else_terminating panics o ≡ true
  else_found (IsElseBlock is) h = subst (λ t. is_terminating panics t ≡ true) is h
  else_found (IsElseIf is) h = subst (λ t. is_terminating panics t ≡ true) is h

  stmt_found : {s : StmtTree} → IsTerminating (Passes panics) s → is_terminating panics s ≡ true
  stmt_found AReturn = refl
  stmt_found (APanic p) = p
  stmt_found (ABlock f t) = final_found f (stmt_found t)
  stmt_found (AnIf {ls = ls} {otherwise = o} t e u) = and_from (are_terminating panics ls) (is_else_terminating panics o) (stmt_found t) (else_found e (stmt_found u))
  stmt_found (AFor {head = head} {ls = ls} n c) = and_from (has_no_condition head) (not (lines_have_break ls)) (head_found c) (unbroken_found ls n)

  pub lists_end : (ls : Lines) → (are_terminating panics ls ≡ true) ↔ EndTerminating (Passes panics) ls
  lists_end ls = (λ h. lines_end ls h, λ e. final_found e.final (stmt_found e.terminating))

  pub stmts_end : (s : StmtTree) → (is_terminating panics s ≡ true) ↔ IsTerminating (Passes panics) s
  stmts_end s = (λ h. stmt_ends s h, λ t. stmt_found t)

pub are_terminating_ones : EndingsAreTerminating
are_terminating_ones = record { statements = λ panics s. stmts_end panics s; lists = λ panics ls. lists_end panics ls }
