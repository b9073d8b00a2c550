-- Loops over lines, and the trees that values of the program hold.
use Rattle.std.proofs.Common.{◌≡◌, ℕ, ◌+◌, ◌<◌, ◌≤◌, Bool, true, false, ◌||◌, List, ◌∷◌, ◌++◌, length, get_or, drop, Result, Ok, Err, sym, ap, ◌∙◌}
use Rattle.std.proofs.lemmas.List.{drop_more, drop_all, append_assoc, append-nil}
use Rattle.std.specs.Global.{Box}
use Rattle.std.specs.Result.{OnOk}
use Rattle.go_tree_nodes.specs.declared.stmts.«Line» as declared_line
use Rattle.go_tree_nodes.specs.declared.stmts.«Branch» as declared_branch
use Rattle.go_tree_nodes.specs.declared.stmts.Loop.{Loop, out-Loop}
use Rattle.go_tree_nodes.specs.declared.stmts.Stmt.{Stmt}
use Rattle.go_tree_nodes.specs.declared.stmts.Stmt.TheVariants as stmt
use Rattle.go_tree_nodes.specs.declared.stmts.Otherwise.{Otherwise}
use Rattle.go_tree_nodes.specs.declared.stmts.Otherwise.TheVariants as otherwise
use Rattle.go_tree_nodes.specs.Trees.{Lines, For}
use Rattle.go_tree_nodes.specs.Shapes.{shape_stmt, shape_branch, shape_else, shape_for, lines_of}
use Rattle.go_tree_nodes.proofs.ShapeLemmas.{loop_parts, branch_parts}
use Rattle.go_local_core.specs.declared.Fault.{Fault}
use Rattle.go_local_core.specs.walks.Ends.{has_break, branch_has_break, else_has_break, lines_have_break, loop_faults, branch_loop_faults, else_loop_faults, lines_loop_faults}

-- the trees

pub loop_is : (s : Stmt) (b : Box Loop) → s ≡ stmt.For b → shape_stmt s ≡ For (out-Loop b.value).keyword (shape_for (out-Loop b.value).head) (out-Loop b.value).«open» (lines_of (out-Loop b.value).body.items) (out-Loop b.value).close
loop_is s b is = ap shape_stmt is ∙ loop_parts b.value

-- what is left of the lines

at_line : (ls : List declared_line.Line) (i : ℕ) (l : declared_line.Line) → i < length ls → l ≡ get_or ls i l → drop i ls ≡ l ∷ drop (i + 1) ls
at_line ls i l h is = drop_more ls i l h ∙ ap (λ y. y ∷ drop (i + 1) ls) (sym is)

pub break_here : (all : Bool) (ls : List declared_line.Line) (i : ℕ) (l : declared_line.Line) (b : Bool) → i < length ls → l ≡ get_or ls i l → all ≡ lines_have_break (lines_of (drop i ls)) → b ≡ has_break (shape_stmt l.stmt) → all ≡ (b || lines_have_break (lines_of (drop (i + 1) ls)))
break_here all ls i l b h is rest here = rest ∙ (ap (λ d. lines_have_break (lines_of d)) (at_line ls i l h is) ∙ ap (λ c. c || lines_have_break (lines_of (drop (i + 1) ls))) (sym here))

pub no_break : (all : Bool) (ls : List declared_line.Line) (i : ℕ) → length ls ≤ i → all ≡ lines_have_break (lines_of (drop i ls)) → all ≡ false
no_break all ls i h rest = rest ∙ ap (λ d. lines_have_break (lines_of d)) (drop_all i ls h)

pub faults_here : (in_loop : Bool) (old now next : List Fault) (all : List Fault) (ls : List declared_line.Line) (i : ℕ) (l : declared_line.Line) → i < length ls → l ≡ get_or ls i l
    → old ++ all ≡ now ++ lines_loop_faults in_loop (lines_of (drop i ls)) → next ≡ now ++ loop_faults in_loop (shape_stmt l.stmt) → old ++ all ≡ next ++ lines_loop_faults in_loop (lines_of (drop (i + 1) ls))
faults_here in_loop old now next all ls i l h is rest here =
    rest ∙ (ap (λ d. now ++ lines_loop_faults in_loop (lines_of d)) (at_line ls i l h is)
    ∙ (sym (append_assoc now (loop_faults in_loop (shape_stmt l.stmt)) (lines_loop_faults in_loop (lines_of (drop (i + 1) ls)))) ∙ ap (λ f. f ++ lines_loop_faults in_loop (lines_of (drop (i + 1) ls))) (sym here)))

pub no_faults : (in_loop : Bool) (old now all : List Fault) (ls : List declared_line.Line) (i : ℕ) → length ls ≤ i → old ++ all ≡ now ++ lines_loop_faults in_loop (lines_of (drop i ls)) → now ≡ old ++ all
no_faults in_loop old now all ls i h rest = sym (rest ∙ (ap (λ d. now ++ lines_loop_faults in_loop (lines_of d)) (drop_all i ls h) ∙ append-nil now))

-- an `if`

abbrev then_lines : declared_branch.Branch → Lines
then_lines b = lines_of (declared_branch.out-Branch b).«then».items

abbrev other : declared_branch.Branch → Otherwise
other b = (declared_branch.out-Branch b).otherwise

pub break_in_then : (b : declared_branch.Branch) (r : Bool) → r ≡ lines_have_break (then_lines b) → r ≡ true → r ≡ branch_has_break (shape_branch b)
break_in_then b r h k = k ∙ sym (ap branch_has_break (branch_parts b) ∙ ap (λ x. x || else_has_break (shape_else (other b))) (sym h ∙ k))

pub break_in_else : (b : declared_branch.Branch) (r e : Bool) → r ≡ lines_have_break (then_lines b) → r ≡ false → e ≡ else_has_break (shape_else (other b)) → e ≡ branch_has_break (shape_branch b)
break_in_else b r e h k i = i ∙ sym (ap branch_has_break (branch_parts b) ∙ ap (λ x. x || else_has_break (shape_else (other b))) (sym h ∙ k))

pub faults_of_branch : {T E : Type 0} (r : Result T E) (in_loop : Bool) (b : declared_branch.Branch) (old mid new : List Fault) → mid ≡ old ++ lines_loop_faults in_loop (then_lines b) → OnOk r (new ≡ mid ++ else_loop_faults in_loop (shape_else (other b))) → OnOk r (new ≡ old ++ branch_loop_faults in_loop (shape_branch b))
faults_of_branch (Err x) in_loop b old mid new h k = tt
faults_of_branch (Ok x) in_loop b old mid new h k =
    k ∙ (ap (λ l. l ++ else_loop_faults in_loop (shape_else (other b))) h ∙ (append_assoc old (lines_loop_faults in_loop (then_lines b)) (else_loop_faults in_loop (shape_else (other b))) ∙ ap (λ t. old ++ branch_loop_faults in_loop t) (sym (branch_parts b))))
