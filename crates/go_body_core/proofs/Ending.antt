-- What ends a function depends on which expressions are calls of `panic`, and on nothing else.
use Rattle.std.proofs.Common.{◌≡◌, ℕ, Bool, true, false, ◌&&◌, if◌then◌else◌, refl, ap, ◌∙◌}
use Rattle.go_tree_nodes.specs.Trees as tree
use Rattle.go_tree_nodes.specs.Trees.{ExprTree, Integer, Text, Named, Paren, Unary, Binary, Select, Call, Literal, StructLiteral, SimpleTree, Alone, Step, Assign, Update, Define, StmtTree, BranchTree, ElseTree, Lines, Empty, Simple, Return, Break, Continue, Block, If, For, Branch, NoElse, ElseBlock, ElseIf, NoLines, Line}
use Rattle.go_local_core.specs.walks.Ends.{is_panic, is_terminating, is_branch_terminating, is_else_terminating, are_terminating, are_empty}
use Rattle.go_body_core.specs.Ends.{names_one, calls_one}

module _ (panics other : ExprTree → Bool) (same : (e : ExprTree) → panics e ≡ other e) where
  simple_ends : (s : SimpleTree) → is_panic panics s ≡ is_panic other s
  simple_ends (Alone t) = same t
  simple_ends (Step t op s) = refl
  simple_ends (Assign ts s es) = refl
  simple_ends (Update t op s e) = refl
  simple_ends (Define xs s es) = refl

  both_end : {a b c d : Bool} → a ≡ b → c ≡ d → (a && c) ≡ (b && d)
  both_end {a} {b} {c} {d} h i = ap (λ x. x && c) h ∙ ap (λ x. b && x) i

  chosen : (empty : Bool) {a b c d : Bool} → a ≡ b → c ≡ d → (if empty then a else c) ≡ (if empty then b else d)
  chosen true h i = h
  chosen false h i = i

  mutual
    stmt_ends : (s : StmtTree) → is_terminating panics s ≡ is_terminating other s
    stmt_ends Empty = refl
    stmt_ends (tree.Declare v) = refl
    stmt_ends (Simple s) = simple_ends s
    stmt_ends (Return s es) = refl
    stmt_ends (Break s) = refl
    stmt_ends (Continue s) = refl
    stmt_ends (Block first ls last) = lines_end ls
    stmt_ends (If b) = branch_ends b
    stmt_ends (For k head first ls last) = refl

    branch_ends : (b : BranchTree) → is_branch_terminating panics b ≡ is_branch_terminating other b
    branch_ends (Branch k head first ls last otherwise) = both_end (lines_end ls) (else_ends otherwise)

    else_ends : (e : ElseTree) → is_else_terminating panics e ≡ is_else_terminating other e
    else_ends NoElse = refl
    else_ends (ElseBlock k first ls last) = lines_end ls
    else_ends (ElseIf k b) = branch_ends b

    pub lines_end : (ls : Lines) → are_terminating panics ls ≡ are_terminating other ls
    lines_end NoLines = refl
    lines_end (Line s semicolon more) = chosen (are_empty more) (stmt_ends s) (lines_end more)

module _ (at other : ℕ → Bool) (same : (n : ℕ) → at n ≡ other n) where
  names_alike : (e : ExprTree) → names_one at e ≡ names_one other e
  names_alike (Integer n span) = refl
  names_alike (Text t) = refl
  names_alike (Named x) = same x.span.start
  names_alike (Paren first e last) = names_alike e
  names_alike (Unary op span e) = refl
  names_alike (Binary a op span b) = refl
  names_alike (Select e dot x) = refl
  names_alike (Call e first items last) = refl
  names_alike (Literal n first items last) = refl
  names_alike (StructLiteral t first items last) = refl

  calls_alike : (e : ExprTree) → calls_one at e ≡ calls_one other e
  calls_alike (Integer n span) = refl
  calls_alike (Text t) = refl
  calls_alike (Named x) = refl
  calls_alike (Paren first e last) = calls_alike e
  calls_alike (Unary op span e) = refl
  calls_alike (Binary a op span b) = refl
  calls_alike (Select e dot x) = refl
  calls_alike (Call e first items last) = names_alike e
  calls_alike (Literal n first items last) = refl
  calls_alike (StructLiteral t first items last) = refl

  pub ends_alike : (ls : Lines) → are_terminating (calls_one at) ls ≡ are_terminating (calls_one other) ls
  ends_alike ls = lines_end (calls_one at) (calls_one other) calls_alike ls
