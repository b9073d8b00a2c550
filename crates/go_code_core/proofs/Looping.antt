-- The code of loops and choices, from its end.
use Rattle.std.proofs.Common.{◌≡◌, ℕ, suc, ◌-◌, List, [], ◌∷◌, ◌++◌, length, refl, sym, ap, ◌∙◌, arith, append_assoc, length-append}
use Rattle.std.specs.Prelude.{Some}
use Rattle.go_tree_nodes.specs.declared.stmts.«Branch» as declared_branch
use Rattle.go_tree_nodes.specs.declared.stmts.Loop.{Loop, out-Loop}
use Rattle.go_tree_nodes.specs.Trees.{ExprTree, ForTree, Lines, ElseTree, NoElse, ElseBlock, ElseIf, Branch}
use Rattle.go_tree_nodes.specs.Shapes.{shape_branch, shape_else, shape_for, shape_if, shape_loop, lines_of}
use Rattle.go_tree_nodes.proofs.ShapeLemmas.{branch_parts, loop_parts}
use Rattle.go_constant_core.specs.text_core.declared.span.Span.{Span}
use Rattle.go_object_core.specs.declared.instructions.instruction.Distance.TheVariants as distances
use Rattle.go_object_core.specs.declared.instructions.instruction.Instruction.{Instruction}
use Rattle.go_object_core.specs.declared.instructions.instruction.Instruction.TheVariants as instructions
use Rattle.go_code_core.specs.declared.stmts.Marks.{Marks}
use Rattle.go_code_core.specs.Code.{Exits, before, branch_code, head_init, head_post, head_test, in_loop, init_code, jump, lines_code, round, some_simple_code, stmt_code, test_code}
use Rattle.go_code_core.specs.fragments.Names.{Frame}
use Rattle.go_code_core.specs.mirrors.Written.{IsMarked, else_code, exits_at}
use Rattle.go_code_core.proofs.Loops.{further}

abbrev open_jump : Instruction
open_jump = instructions.Jump (distances.Back 0)

abbrev marks_of : ℕ → ℕ → Marks
marks_of ends goes_on = record { ends = ends; goes_on = goes_on }

-- in front of what stands behind the body, and of the place of the jump back
in_turn : (p old c2 : List Instruction) (end goes_on : ℕ) → end ≡ length old → c2 ≡ p ++ open_jump ∷ old → goes_on ≡ length c2 → exits_at (length c2) (marks_of end goes_on) ≡ in_loop p
in_turn p old c2 end goes_on m e g =
    let many = ap length e ∙ length-append p (open_jump ∷ old) in
    let a : length c2 - end ≡ suc (length p) = omega (arith, m, many) in
    let b : length c2 - goes_on ≡ 0 = omega (arith, g) in
    ap (λ n. record { ends = n; goes_on = length c2 - goes_on }) a ∙ ap (λ n. record { ends = suc (length p); goes_on = n }) b

pub loop_made : (f : Frame) (x : Exits) (turns : Loop) (old c1 c2 c3 c4 c5 c6 : List Instruction) (end goes_on back : ℕ)
    → end ≡ length old → c1 ≡ open_jump ∷ old → c2 ≡ some_simple_code f (head_post (shape_for (out-Loop turns).head)) ++ c1 → goes_on ≡ length c2
    → c3 ≡ lines_code f (exits_at (length c2) (marks_of end goes_on)) (lines_of (out-Loop turns).body.items) ++ c2
    → c4 ≡ test_code f (head_test (shape_for (out-Loop turns).head)) (length c3 - end) ++ c3 → back ≡ length c4 - end
    → ((front rest : List Instruction) (i : Instruction) → c4 ≡ front ++ i ∷ rest → end ≡ length rest → c5 ≡ front ++ instructions.Jump (distances.Back back) ∷ rest)
    → c6 ≡ some_simple_code f (head_init (shape_for (out-Loop turns).head)) ++ c5
    → c6 ≡ stmt_code f x (shape_loop turns) ++ old
loop_made f x turns old c1 c2 c3 c4 c5 c6 end goes_on back m e1 e2 g e3 e4 k turn e6 =
    let head : ForTree = shape_for (out-Loop turns).head in
    let ls : Lines = lines_of (out-Loop turns).body.items in
    let p : List Instruction = some_simple_code f (head_post head) in
    let i : List Instruction = some_simple_code f (head_init head) in
    let b : List Instruction = lines_code f (in_loop p) ls in
    let rest : List Instruction = open_jump ∷ old in
    let full2 : c2 ≡ p ++ rest = e2 ∙ ap (λ l. p ++ l) e1 in
    let full3 : c3 ≡ b ++ c2 = e3 ∙ ap (λ y. lines_code f y ls ++ c2) (in_turn p old c2 end goes_on m full2 g) in
    let len2 = ap length full2 ∙ length-append p rest in
    let len3 = ap length full3 ∙ length-append b c2 in
    let both = length-append b p in
    let d3 : length c3 - end ≡ suc (length (b ++ p)) = omega (arith, m, len2, len3, both) in
    let t : List Instruction = test_code f (head_test head) (suc (length (b ++ p))) in
    let code : List Instruction = t ++ (b ++ p) in
    let full4 : c4 ≡ t ++ c3 = e4 ∙ ap (λ n. test_code f (head_test head) n ++ c3) d3 in
    let all4 : c4 ≡ code ++ rest =
    full4 ∙ (ap (λ l. t ++ l) (full3 ∙ ap (λ l. b ++ l) full2) ∙ (ap (λ l. t ++ l) (sym (append_assoc b p rest)) ∙ sym (append_assoc t (b ++ p) rest))) in
    let len4 = ap length all4 ∙ length-append code rest in
    let d4 : back ≡ suc (length code) = omega (arith, k, m, len4) in
    let full5 : c5 ≡ code ++ instructions.Jump (distances.Back (suc (length code))) ∷ old = turn code old open_jump all4 m ∙ ap (λ n. code ++ instructions.Jump (distances.Back n) ∷ old) d4 in
    let turned : code ++ instructions.Jump (distances.Back (suc (length code))) ∷ old ≡ round code ++ old = sym (append_assoc code (instructions.Jump (distances.Back (suc (length code))) ∷ []) old) in
    e6 ∙ (ap (λ l. i ++ l) (full5 ∙ turned) ∙ (sym (append_assoc i (round code) old) ∙ ap (λ s. stmt_code f x s ++ old) (sym (loop_parts turns))))

-- choices

regroup : (init test inside over outside old : List Instruction) → init ++ (test ++ (inside ++ (over ++ (outside ++ old)))) ≡ (init ++ (test ++ ((inside ++ over) ++ outside))) ++ old
regroup init test inside over outside old =
    ap (λ l. init ++ (test ++ l)) (sym (append_assoc inside over (outside ++ old)) ∙ sym (append_assoc (inside ++ over) outside old))
    ∙ (ap (λ l. init ++ l) (sym (append_assoc test ((inside ++ over) ++ outside) old)) ∙ sym (append_assoc init (test ++ ((inside ++ over) ++ outside)) old))

-- with what stands behind `else`
chosen : (f : Frame) (x : Exits) (i : List Instruction) (condition : ExprTree) (ls : Lines) (marks : Marks) (outside old c1 c2 c3 c4 : List Instruction) (mark : ℕ)
    → IsMarked (length old) marks → x ≡ exits_at (length old) marks → mark ≡ length (outside ++ old) → c1 ≡ jump (length outside) ++ (outside ++ old)
    → c2 ≡ lines_code f (exits_at (length c1) marks) ls ++ c1 → c3 ≡ test_code f (Some condition) (length c2 - mark) ++ c2 → c4 ≡ i ++ c3
    → c4 ≡ (i ++ (test_code f (Some condition) (length (lines_code f (before (suc (length outside)) x) ls ++ jump (length outside))) ++ ((lines_code f (before (suc (length outside)) x) ls ++ jump (length outside)) ++ outside))) ++ old
chosen f x i condition ls marks outside old c1 c2 c3 c4 mark h xs m e1 e2 e3 e4 =
    let j : List Instruction = jump (length outside) in
    let inside : List Instruction = lines_code f (before (suc (length outside)) x) ls in
    let place : exits_at (length c1) marks ≡ before (suc (length outside)) x =
    ap (λ l. exits_at (length l) marks) e1 ∙ (further (instructions.Jump (distances.Forward (length outside)) ∷ outside) old marks h ∙ ap (before (suc (length outside))) (sym xs)) in
    let full2 : c2 ≡ inside ++ (j ++ (outside ++ old)) = e2 ∙ (ap (λ y. lines_code f y ls ++ c1) place ∙ ap (λ l. inside ++ l) e1) in
    let len2 = ap length full2 ∙ length-append inside (j ++ (outside ++ old)) in
    let many = length-append inside j in
    let d : length c2 - mark ≡ length (inside ++ j) = omega (arith, m, len2, many) in
    e4 ∙ (ap (λ l. i ++ l) (e3 ∙ (ap (λ n. test_code f (Some condition) n ++ c2) d ∙ ap (λ l. test_code f (Some condition) (length (inside ++ j)) ++ l) full2))
    ∙ regroup i (test_code f (Some condition) (length (inside ++ j))) inside j outside old)

alone : (f : Frame) (i : List Instruction) (condition : ExprTree) (inside old c2 c3 c4 : List Instruction) (mark : ℕ)
    → mark ≡ length old → c2 ≡ inside ++ old → c3 ≡ test_code f (Some condition) (length c2 - mark) ++ c2 → c4 ≡ i ++ c3
    → c4 ≡ (i ++ (test_code f (Some condition) (length inside) ++ inside)) ++ old
alone f i condition inside old c2 c3 c4 mark m e2 e3 e4 =
    let len2 = ap length e2 ∙ length-append inside old in
    let d : length c2 - mark ≡ length inside = omega (arith, m, len2) in
    let t : List Instruction = test_code f (Some condition) (length inside) in
    e4 ∙ (ap (λ l. i ++ l) (e3 ∙ (ap (λ n. test_code f (Some condition) n ++ c2) d ∙ ap (λ l. t ++ l) e2))
    ∙ (ap (λ l. i ++ l) (sym (append_assoc t inside old)) ∙ sym (append_assoc i (t ++ inside) old)))

by_else : (f : Frame) (marks : Marks) (k : Span) (i : _) (condition : ExprTree) (first last : Span) (ls : Lines) (other : ElseTree) (old c1 c2 c3 c4 : List Instruction) (mark : ℕ)
    → IsMarked (length old) marks
    → mark ≡ length ((else_code f (exits_at (length old) marks) other).outside ++ old)
    → c1 ≡ (else_code f (exits_at (length old) marks) other).over ++ ((else_code f (exits_at (length old) marks) other).outside ++ old)
    → c2 ≡ lines_code f (exits_at (length c1) marks) ls ++ c1 → c3 ≡ test_code f (Some condition) (length c2 - mark) ++ c2 → c4 ≡ init_code f i ++ c3
    → c4 ≡ branch_code f (exits_at (length old) marks) (Branch k (record { init = i; condition = condition }) first ls last other) ++ old
by_else f marks k i condition first last ls NoElse old c1 c2 c3 c4 mark h m e1 e2 e3 e4 =
    let x : Exits = exits_at (length old) marks in
    alone f (init_code f i) condition (lines_code f x ls) old c2 c3 c4 mark m (e2 ∙ ap (λ l. lines_code f (exits_at (length l) marks) ls ++ l) e1) e3 e4
by_else f marks k i condition first last ls (ElseBlock k' first' others last') old c1 c2 c3 c4 mark h m e1 e2 e3 e4 =
    let x : Exits = exits_at (length old) marks in
    chosen f x (init_code f i) condition ls marks (lines_code f x others) old c1 c2 c3 c4 mark h refl m e1 e2 e3 e4
by_else f marks k i condition first last ls (ElseIf k' b) old c1 c2 c3 c4 mark h m e1 e2 e3 e4 =
    let x : Exits = exits_at (length old) marks in
    chosen f x (init_code f i) condition ls marks (branch_code f x b) old c1 c2 c3 c4 mark h refl m e1 e2 e3 e4

pub branch_made : (f : Frame) (marks : Marks) (b : declared_branch.Branch) (old c1 c2 c3 c4 : List Instruction) (mark : ℕ)
    → IsMarked (length old) marks
    → mark ≡ length ((else_code f (exits_at (length old) marks) (shape_else (declared_branch.out-Branch b).otherwise)).outside ++ old)
    → c1 ≡ (else_code f (exits_at (length old) marks) (shape_else (declared_branch.out-Branch b).otherwise)).over ++ ((else_code f (exits_at (length old) marks) (shape_else (declared_branch.out-Branch b).otherwise)).outside ++ old)
    → c2 ≡ lines_code f (exits_at (length c1) marks) (lines_of (declared_branch.out-Branch b).«then».items) ++ c1
    → c3 ≡ test_code f (Some (shape_if (declared_branch.out-Branch b).head).condition) (length c2 - mark) ++ c2
    → c4 ≡ init_code f (shape_if (declared_branch.out-Branch b).head).init ++ c3
    → c4 ≡ branch_code f (exits_at (length old) marks) (shape_branch b) ++ old
branch_made f marks b old c1 c2 c3 c4 mark h m e1 e2 e3 e4 =
    let o = declared_branch.out-Branch b in
    by_else f marks o.keyword (shape_if o.head).init (shape_if o.head).condition o.«open» o.close (lines_of o.«then».items) (shape_else o.otherwise) old c1 c2 c3 c4 mark h m e1 e2 e3 e4
    ∙ ap (λ t. branch_code f (exits_at (length old) marks) t ++ old) (sym (branch_parts b))

-- the jump over what stands behind `else`
pub over_else : (outside old c1 c2 : List Instruction) (end : ℕ) → end ≡ length old → c1 ≡ outside ++ old → c2 ≡ jump (length c1 - end) ++ c1 → c2 ≡ jump (length outside) ++ (outside ++ old)
over_else outside old c1 c2 end m e1 e2 =
    let many = ap length e1 ∙ length-append outside old in
    let d : length c1 - end ≡ length outside = omega (arith, m, many) in
    e2 ∙ (ap (λ n. jump n ++ c1) d ∙ ap (λ l. jump (length outside) ++ l) e1)
