-- The last statement that is not empty, found from the front.
use Rattle.std.proofs.Common.{◌≡◌, ℕ, ◌+◌, ◌<◌, ◌≤◌, Bool, true, false, not, ◌&&◌, List, [], ◌∷◌, length, get_or, drop, refl, sym, ap, ◌∙◌}
use Rattle.std.specs.Prelude.{if◌then◌else◌}
use Rattle.std.proofs.lemmas.List.{drop_more, drop_all}
use Rattle.go_tree_nodes.specs.declared.stmts.«Line» as declared_line
use Rattle.go_tree_nodes.specs.declared.stmts.«Branch» as declared_branch
use Rattle.go_tree_nodes.specs.Trees as tree
use Rattle.go_tree_nodes.specs.Trees.{ExprTree, StmtTree, Lines, Empty, Simple, Return, Break, Continue, Block, If, For, NoLines, Line}
use Rattle.go_tree_nodes.specs.Shapes.{shape_stmt, shape_branch, shape_else, lines_of}
use Rattle.go_tree_nodes.proofs.ShapeLemmas.{branch_parts}
use Rattle.go_tree_nodes.specs.Counts.{is_empty}
use Rattle.go_local_core.specs.walks.Ends.{are_empty, is_terminating, is_branch_terminating, is_else_terminating, are_terminating}

-- what is known so far, and then the lines that are left
abbrev pub ends_with : (ExprTree → Bool) → Bool → Lines → Bool
ends_with panics so_far NoLines = so_far
ends_with panics so_far (Line s semicolon more) = ends_with panics (if is_empty s then so_far else is_terminating panics s) more

ends_are : (panics : ExprTree → Bool) (ls : Lines) (so_far : Bool) → ends_with panics so_far ls ≡ (if are_empty ls then so_far else are_terminating panics ls)
ends_are panics NoLines so_far = refl
ends_are panics (Line s semicolon more) so_far = ends_are panics more (if is_empty s then so_far else is_terminating panics s) ∙ by (is_empty s) (are_empty more)
  where
    by : (e m : Bool) → (if m then (if e then so_far else is_terminating panics s) else are_terminating panics more) ≡ (if e && m then so_far else (if m then is_terminating panics s else are_terminating panics more))
    by true true = refl
    by true false = refl
    by false true = refl
    by false false = refl

empty_ends_not : (panics : ExprTree → Bool) (s : StmtTree) → is_empty s ≡ true → is_terminating panics s ≡ false
empty_ends_not panics Empty h = refl
empty_ends_not panics (tree.Declare v) h = absurd (cc)
empty_ends_not panics (Simple s) h = absurd (cc)
empty_ends_not panics (Return s es) h = absurd (cc)
empty_ends_not panics (Break s) h = absurd (cc)
empty_ends_not panics (Continue s) h = absurd (cc)
empty_ends_not panics (Block first ls last) h = absurd (cc)
empty_ends_not panics (If b) h = absurd (cc)
empty_ends_not panics (For k head first ls last) h = absurd (cc)

-- nothing is known at first
pub ends_whole : (panics : ExprTree → Bool) (ls : Lines) → ends_with panics false ls ≡ are_terminating panics ls
ends_whole panics NoLines = refl
ends_whole panics (Line s semicolon more) = ends_are panics more (if is_empty s then false else is_terminating panics s) ∙ by (are_empty more) (is_empty s) refl
  where
    by : (m e : Bool) → is_empty s ≡ e → (if m then (if e then false else is_terminating panics s) else are_terminating panics more) ≡ (if m then is_terminating panics s else are_terminating panics more)
    by true true h = sym (empty_ends_not panics s h)
    by true false h = refl
    by false e h = refl

at_line : (ls : List declared_line.Line) (i : ℕ) (l : declared_line.Line) → i < length ls → l ≡ get_or ls i l → drop i ls ≡ l ∷ drop (i + 1) ls
at_line ls i l h is = drop_more ls i l h ∙ ap (λ y. y ∷ drop (i + 1) ls) (sym is)

pub empty_line : (panics : ExprTree → Bool) (all so_far e : Bool) (ls : List declared_line.Line) (i : ℕ) (l : declared_line.Line) → i < length ls → l ≡ get_or ls i l → ends_with panics so_far (lines_of (drop i ls)) ≡ all → e ≡ is_empty (shape_stmt l.stmt) → e ≡ true
    → ends_with panics so_far (lines_of (drop (i + 1) ls)) ≡ all
empty_line panics all so_far e ls i l h is before same empty =
    sym (ap (λ d. ends_with panics so_far (lines_of d)) (at_line ls i l h is) ∙ ap (λ b. ends_with panics (if b then so_far else is_terminating panics (shape_stmt l.stmt)) (lines_of (drop (i + 1) ls))) (sym same ∙ empty)) ∙ before

pub full_line : (panics : ExprTree → Bool) (all so_far e next : Bool) (ls : List declared_line.Line) (i : ℕ) (l : declared_line.Line) → i < length ls → l ≡ get_or ls i l → ends_with panics so_far (lines_of (drop i ls)) ≡ all → e ≡ is_empty (shape_stmt l.stmt) → e ≡ false → next ≡ is_terminating panics (shape_stmt l.stmt)
    → ends_with panics next (lines_of (drop (i + 1) ls)) ≡ all
full_line panics all so_far e next ls i l h is before same empty ends =
    ap (λ b. ends_with panics b (lines_of (drop (i + 1) ls))) ends
    ∙ (sym (ap (λ d. ends_with panics so_far (lines_of d)) (at_line ls i l h is) ∙ ap (λ b. ends_with panics (if b then so_far else is_terminating panics (shape_stmt l.stmt)) (lines_of (drop (i + 1) ls))) (sym same ∙ empty)) ∙ before)

pub no_line : (panics : ExprTree → Bool) (all so_far : Bool) (ls : List declared_line.Line) (i : ℕ) → length ls ≤ i → ends_with panics so_far (lines_of (drop i ls)) ≡ all → so_far ≡ all
no_line panics all so_far ls i h before = sym (ap (λ d. ends_with panics so_far (lines_of d)) (drop_all i ls h)) ∙ before

-- an `if`
pub branch_ends : (panics : ExprTree → Bool) (b : declared_branch.Branch)
    → is_branch_terminating panics (shape_branch b) ≡ (are_terminating panics (lines_of (declared_branch.out-Branch b).«then».items) && is_else_terminating panics (shape_else (declared_branch.out-Branch b).otherwise))
branch_ends panics b = ap (is_branch_terminating panics) (branch_parts b)

pub both_end : (panics : ExprTree → Bool) (b : declared_branch.Branch) (r e : Bool) → r ≡ are_terminating panics (lines_of (declared_branch.out-Branch b).«then».items) → r ≡ true → e ≡ is_else_terminating panics (shape_else (declared_branch.out-Branch b).otherwise) → e ≡ is_branch_terminating panics (shape_branch b)
both_end panics b r e h k i = i ∙ sym (branch_ends panics b ∙ ap (λ x. x && is_else_terminating panics (shape_else (declared_branch.out-Branch b).otherwise)) (sym h ∙ k))

pub then_ends_not : (panics : ExprTree → Bool) (b : declared_branch.Branch) (r : Bool) → r ≡ are_terminating panics (lines_of (declared_branch.out-Branch b).«then».items) → r ≡ false → r ≡ is_branch_terminating panics (shape_branch b)
then_ends_not panics b r h k = k ∙ sym (branch_ends panics b ∙ ap (λ x. x && is_else_terminating panics (shape_else (declared_branch.out-Branch b).otherwise)) (sym h ∙ k))

pub and_of : (a b x y : Bool) → a ≡ x → a ≡ true → b ≡ y → not b ≡ (x && not y)
and_of a b x y h k i = ap not i ∙ ap (λ z. z && not y) (sym k ∙ h)

pub and_not : (a x y : Bool) → a ≡ x → a ≡ false → a ≡ (x && y)
and_not a x y h k = k ∙ ap (λ z. z && y) (sym k ∙ h)
