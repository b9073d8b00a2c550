-- The machine follows statements.
use Rattle.std.proofs.Common.{◌≡◌, ℕ, zero, suc, pred, ◌+◌, ◌-◌, ◌≤◌, Bool, true, false, List, [], ◌∷◌, ◌++◌, length, ℤ, Option, Some, refl, ap, subst, arith, length-append, if◌then◌else◌}
use Rattle.std.specs.Prelude.{slice_get}
use Rattle.go_object_core.specs.declared.instructions.instruction.Distance.TheVariants as distances
use Rattle.go_object_core.specs.declared.instructions.instruction.Instruction.{Instruction}
use Rattle.go_object_core.specs.declared.instructions.instruction.Instruction.TheVariants as instructions
use Rattle.go_machine_core.specs.Programs.{LinkedOf}
use Rattle.go_machine_core.specs.Machine.{Frame, Machine, chosen}
use Rattle.go_meaning_laws.specs.source_meaning.Meaning.{Outcome, Done, Panicked, Unfinished, Nonsense, and_then, Variables, Calls, scene_of, Flow, Falls, Breaks, Continues, Returns, then_do, some_simple_meaning, init_meaning, test_meaning, loop_on, turns, stmt_meaning, branch_meaning, else_meaning, lines_meaning}
use Rattle.go_meaning_laws.proofs.SourceMeaningSteps.{Comes, Leads, Runs, here, flow_at, HasAt, has_front, has_back, stays, after, after_step, fewer, then_runs, step_to, step_at, moved, flow_runs, cells}
use Rattle.go_meaning_laws.proofs.SourceMeaningExprs.{Obeys}
use Rattle.go_meaning_laws.proofs.SourceMeaningSimples.{skip_runs, simple_runs, some_simple_runs, value_specs_runs, init_runs, tested, test_runs, returned_runs}
use Rattle.go_constant_core.specs.text_core.declared.span.Span.{Span}
use Rattle.go_tree_nodes.specs.Trees.{ExprTree, SimpleTree, ForTree, StmtTree, Empty, Declare, Simple, Return, Break, Continue, Block, If, For, BranchTree, Branch, NoElse, ElseBlock, ElseIf, Lines, NoLines, Line}
use Rattle.go_code_core.specs.Code.{head_init, head_test, head_post, some_simple_code, init_code, Exits, before, jump, test_code, loop_code, in_loop, stmt_code, branch_code, lines_code, frame_in}
use Rattle.go_meaning_laws.specs.source_meaning.Meaning.{SourceOf}
use Rattle.go_meaning_laws.specs.source_meaning.Whole.{linked_source}

module _ (program : List LinkedOf) (g : LinkedOf) (callers : List Frame) (b : ℕ) where
  -- what falls to one place comes to another
  falls_to : (p p' pb pc : ℕ) (stack : List ℤ) (c : Machine) (o : Outcome Flow) → Runs program (flow_at g callers p pb pc stack) b c o → ((values : Variables) (out : List ℕ) → Comes program (here g callers p stack (cells values) out) (here g callers p' stack (cells values) out)) → Runs program (flow_at g callers p' pb pc stack) b c o
  falls_to p p' pb pc stack c (Done (Falls values) out) r k = after program (flow_at g callers p' pb pc stack) b c (here g callers p stack (cells values) out) (Done (Falls values) out) r (k values out)
  falls_to p p' pb pc stack c (Done (Breaks values) out) r k = r
  falls_to p p' pb pc stack c (Done (Continues values) out) r k = r
  falls_to p p' pb pc stack c (Done (Returns vs) out) r k = r
  falls_to p p' pb pc stack c (Panicked value out) r k = r
  falls_to p p' pb pc stack c (Unfinished out) r k = r
  falls_to p p' pb pc stack c Nonsense r k = tt

  -- a loop: its test at p1, its body at p2, what stands behind its body at p3, and the jump back at p4
  module _ (test : Variables → List ℕ → Outcome Bool) (body post : Variables → List ℕ → Outcome Flow) (p1 p2 over p3 p4 p' pb pc : ℕ) (stack : List ℤ) (ends : p2 + over ≡ p')
      (tests : (values : Variables) (out : List ℕ) → Runs program (λ holds out. here g callers (chosen holds over p2) stack (cells values) out) b (here g callers p1 stack (cells values) out) (test values out))
      (bodies : (values : Variables) (out : List ℕ) → Runs program (flow_at g callers p3 p' p3 stack) b (here g callers p2 stack (cells values) out) (body values out))
      (posts : (values : Variables) (out : List ℕ) → Runs program (flow_at g callers p4 pb pc stack) b (here g callers p3 stack (cells values) out) (post values out))
      (back : (values : Variables) (out : List ℕ) → Leads program (here g callers p4 stack (cells values) out) (here g callers p1 stack (cells values) out)) where
    abbrev Turns : ℕ → ℕ → Type 0
    Turns m k = (values : Variables) (out : List ℕ) → Runs program (flow_at g callers p' pb pc stack) k (here g callers p1 stack (cells values) out) (turns m test body post values out)

    again : (m k : ℕ) → k ≤ b → Turns m (pred k) → (values : Variables) (out : List ℕ) → Runs program (flow_at g callers p' pb pc stack) k (here g callers p3 stack (cells values) out) (then_do (post values out) (turns m test body post))
    again m k le more values out =
        let room : k ≤ suc (pred k) = omega arith in
        flow_runs program g callers k p4 p' pb pc stack (here g callers p3 stack (cells values) out) (post values out) (turns m test body post)
        (fewer program (flow_at g callers p4 pb pc stack) k b (here g callers p3 stack (cells values) out) (post values out) le (posts values out))
        (λ values out. fewer program (flow_at g callers p' pb pc stack) k (suc (pred k)) (here g callers p4 stack (cells values) out) (turns m test body post values out) room
        (after_step program (flow_at g callers p' pb pc stack) (pred k) (here g callers p4 stack (cells values) out) (here g callers p1 stack (cells values) out) (turns m test body post values out) (back values out) (more values out)))

    behind_body : (m k : ℕ) → k ≤ b → Turns m (pred k) → (flow : Flow) (out : List ℕ) → Runs program (flow_at g callers p' pb pc stack) k (flow_at g callers p3 p' p3 stack flow out) (loop_on flow out (λ values out. then_do (post values out) (turns m test body post)))
    behind_body m k le more (Falls values) out = again m k le more values out
    behind_body m k le more (Breaks values) out = stays program _
    behind_body m k le more (Continues values) out = again m k le more values out
    behind_body m k le more (Returns vs) out = stays program _

    behind_test : (m k : ℕ) → k ≤ b → Turns m (pred k) → (values : Variables) (holds : Bool) (out : List ℕ) → Runs program (flow_at g callers p' pb pc stack) k (here g callers (chosen holds over p2) stack (cells values) out) (if holds then and_then (body values out) (λ flow out. loop_on flow out (λ values out. then_do (post values out) (turns m test body post))) else Done (Falls values) out)
    behind_test m k le more values true out =
        then_runs program (flow_at g callers p3 p' p3 stack) (flow_at g callers p' pb pc stack) k (here g callers p2 stack (cells values) out) (body values out) _
        (fewer program (flow_at g callers p3 p' p3 stack) k b (here g callers p2 stack (cells values) out) (body values out) le (bodies values out))
        (behind_body m k le more)
    behind_test m k le more values false out = moved program g callers (p2 + over) p' stack (cells values) out ends

    pub turns_run : (m k : ℕ) → k ≤ m → k ≤ b → Turns m k
    turns_run zero k le le' values out = (0, le, refl)
    turns_run (suc m) k le le' values out =
        let down : pred k ≤ m = omega arith in
        let down' : pred k ≤ b = omega arith in
        then_runs program (λ holds out. here g callers (chosen holds over p2) stack (cells values) out) (flow_at g callers p' pb pc stack) k (here g callers p1 stack (cells values) out) (test values out) _
        (fewer program (λ holds out. here g callers (chosen holds over p2) stack (cells values) out) k b (here g callers p1 stack (cells values) out) (test values out) le' (tests values out))
        (behind_test m k le' (turns_run m (pred k) down down') values)

module _ (program : List LinkedOf) (s : SourceOf) (calls : Calls) (callers : List Frame) (b below : ℕ) (room : b ≤ suc below) (obeys : Obeys program below calls) (n : ℕ) (enough : b ≤ n) where
  jump_runs : (q p p' : ℕ) (stack : List ℤ) (values : Variables) (out : List ℕ) → HasAt (linked_source s).code p (jump q) → p + 1 + q ≡ p' → Comes program (here (linked_source s) callers p stack (cells values) out) (here (linked_source s) callers p' stack (cells values) out)
  jump_runs q p p' stack values out has e = step_at program (linked_source s) callers p p' (p + 1 + q) stack (cells values) stack (cells values) out out (instructions.Jump (distances.Forward q)) has.0 e refl

  -- what is done first, a test, and what is done where it holds or fails
  test_then : (init : Option (Option SimpleTree × Span)) (e : ExprTree) (over : ℕ) (cr : List Instruction) (inner outer : Variables → List ℕ → Outcome Flow) (p p' pb pc : ℕ) (stack : List ℤ) (values : Variables) (out : List ℕ) → HasAt (linked_source s).code p (init_code (frame_in s.looks s.tree) init ++ (test_code (frame_in s.looks s.tree) (Some e) over ++ cr)) → p + length (init_code (frame_in s.looks s.tree) init ++ (test_code (frame_in s.looks s.tree) (Some e) over ++ cr)) ≡ p'
      → ((q : ℕ) → HasAt (linked_source s).code q cr → q + length cr ≡ p' → (values : Variables) (out : List ℕ) → Runs program (flow_at (linked_source s) callers p' pb pc stack) b (here (linked_source s) callers q stack (cells values) out) (inner values out))
      → ((q : ℕ) → HasAt (linked_source s).code q cr → q + length cr ≡ p' → (values : Variables) (out : List ℕ) → Runs program (flow_at (linked_source s) callers p' pb pc stack) b (here (linked_source s) callers (q + over) stack (cells values) out) (outer values out))
      → Runs program (flow_at (linked_source s) callers p' pb pc stack) b (here (linked_source s) callers p stack (cells values) out) (then_do (init_meaning (scene_of calls s) init values out) (λ values out. and_then (test_meaning (scene_of calls s) (Some e) values out) (λ holds out. if holds then inner values out else outer values out)))
  test_then init e over cr inner outer p p' pb pc stack values out has len ri ro =
      let ci = init_code (frame_in s.looks s.tree) init in
      let ct = test_code (frame_in s.looks s.tree) (Some e) over in
      let h = has_back (linked_source s).code p ci (ct ++ cr) has in
      let h2 = has_back (linked_source s).code (p + length ci) ct cr h in
      let ends : p + length ci + length ct + length cr ≡ p' = omega (arith, length-append ci (ct ++ cr), length-append ct cr) in
      flow_runs program (linked_source s) callers b (p + length ci) p' pb pc stack (here (linked_source s) callers p stack (cells values) out) (init_meaning (scene_of calls s) init values out) _
      (init_runs program s calls callers b below room obeys pb pc init p (p + length ci) stack values out (has_front (linked_source s).code p ci _ has) refl)
      (λ values out. then_runs program (tested program s calls callers b below room obeys (p + length ci + length ct) over stack values) (flow_at (linked_source s) callers p' pb pc stack) b (here (linked_source s) callers (p + length ci) stack (cells values) out) (test_meaning (scene_of calls s) (Some e) values out) _
      (test_runs program s calls callers b below room obeys over (Some e) (p + length ci) (p + length ci + length ct) stack values out (has_front (linked_source s).code (p + length ci) ct cr h) refl)
      (choice (p + length ci + length ct) values h2 ends))
    where
      choice : (q : ℕ) (values : Variables) → HasAt (linked_source s).code q cr → q + length cr ≡ p' → (holds : Bool) (out : List ℕ) → Runs program (flow_at (linked_source s) callers p' pb pc stack) b (here (linked_source s) callers (chosen holds over q) stack (cells values) out) (if holds then inner values out else outer values out)
      choice q values h ends true out = ri q h ends values out
      choice q values h ends false out = ro q h ends values out

  -- both parts of an `if`
  either_runs : (init : Option (Option SimpleTree × Span)) (e : ExprTree) (cl co : List Instruction) (inner outer : Variables → List ℕ → Outcome Flow) (p p' pb pc : ℕ) (stack : List ℤ) (values : Variables) (out : List ℕ) → HasAt (linked_source s).code p (init_code (frame_in s.looks s.tree) init ++ (test_code (frame_in s.looks s.tree) (Some e) (length (cl ++ jump (length co))) ++ ((cl ++ jump (length co)) ++ co))) → p + length (init_code (frame_in s.looks s.tree) init ++ (test_code (frame_in s.looks s.tree) (Some e) (length (cl ++ jump (length co))) ++ ((cl ++ jump (length co)) ++ co))) ≡ p'
      → ((q q' : ℕ) → HasAt (linked_source s).code q cl → q + length cl ≡ q' → q' + suc (length co) ≡ p' → (values : Variables) (out : List ℕ) → Runs program (flow_at (linked_source s) callers q' pb pc stack) b (here (linked_source s) callers q stack (cells values) out) (inner values out))
      → ((q : ℕ) → HasAt (linked_source s).code q co → q + length co ≡ p' → (values : Variables) (out : List ℕ) → Runs program (flow_at (linked_source s) callers p' pb pc stack) b (here (linked_source s) callers q stack (cells values) out) (outer values out))
      → Runs program (flow_at (linked_source s) callers p' pb pc stack) b (here (linked_source s) callers p stack (cells values) out) (then_do (init_meaning (scene_of calls s) init values out) (λ values out. and_then (test_meaning (scene_of calls s) (Some e) values out) (λ holds out. if holds then inner values out else outer values out)))
  either_runs init e cl co inner outer p p' pb pc stack values out has len ri ro =
      test_then init e (length (cl ++ jump (length co))) ((cl ++ jump (length co)) ++ co) inner outer p p' pb pc stack values out has len
      (λ q has len values out.
      let h = has_front (linked_source s).code q (cl ++ jump (length co)) co has in
      let ends : q + length cl + suc (length co) ≡ p' = omega (arith, length-append (cl ++ jump (length co)) co, length-append cl (jump (length co))) in
      let over : q + length cl + 1 + length co ≡ p' = omega arith in
      falls_to program (linked_source s) callers b (q + length cl) p' pb pc stack (here (linked_source s) callers q stack (cells values) out) (inner values out)
      (ri q (q + length cl) (has_front (linked_source s).code q cl (jump (length co)) h) refl ends values out)
      (λ values out. jump_runs (length co) (q + length cl) p' stack values out (has_back (linked_source s).code q cl (jump (length co)) h) over))
      (λ q has len values out.
      let ends : q + length (cl ++ jump (length co)) + length co ≡ p' = omega (arith, length-append (cl ++ jump (length co)) co) in
      ro (q + length (cl ++ jump (length co))) (has_back (linked_source s).code q (cl ++ jump (length co)) co has) ends values out)

  -- a loop behind its first statement
  loop_runs : (head : ForTree) (cb : List Instruction) (body : Variables → List ℕ → Outcome Flow) (p p' pb pc : ℕ) (stack : List ℤ) (values : Variables) (out : List ℕ)
      → HasAt (linked_source s).code p (some_simple_code (frame_in s.looks s.tree) (head_init head) ++ loop_code (frame_in s.looks s.tree) (head_test head) cb (some_simple_code (frame_in s.looks s.tree) (head_post head))) → p + length (some_simple_code (frame_in s.looks s.tree) (head_init head) ++ loop_code (frame_in s.looks s.tree) (head_test head) cb (some_simple_code (frame_in s.looks s.tree) (head_post head))) ≡ p'
      → ((q q' : ℕ) → HasAt (linked_source s).code q cb → q + length cb ≡ q' → q' + suc (length (some_simple_code (frame_in s.looks s.tree) (head_post head))) ≡ p' → (values : Variables) (out : List ℕ) → Runs program (flow_at (linked_source s) callers q' p' q' stack) b (here (linked_source s) callers q stack (cells values) out) (body values out))
      → Runs program (flow_at (linked_source s) callers p' pb pc stack) b (here (linked_source s) callers p stack (cells values) out) (then_do (some_simple_meaning (scene_of calls s) (head_init head) values out) (turns n (test_meaning (scene_of calls s) (head_test head)) body (some_simple_meaning (scene_of calls s) (head_post head))))
  loop_runs head cb body p p' pb pc stack values out has len rb =
      let ci = some_simple_code (frame_in s.looks s.tree) (head_init head) in
      let cp = some_simple_code (frame_in s.looks s.tree) (head_post head) in
      let ct = test_code (frame_in s.looks s.tree) (head_test head) (suc (length (cb ++ cp))) in
      let whole = ct ++ (cb ++ cp) in
      let back = instructions.Jump (distances.Back (suc (length whole))) ∷ [] in
      let p1 = p + length ci in
      let p2 = p1 + length ct in
      let p3 = p2 + length cb in
      let p4 = p3 + length cp in
      let h = has_back (linked_source s).code p ci _ has in
      let h1 = has_front (linked_source s).code p1 whole back h in
      let h2 = has_back (linked_source s).code p1 ct (cb ++ cp) h1 in
      let last = has_back (linked_source s).code p1 whole back h in
      let l1 : length (ci ++ (whole ++ back)) ≡ length ci + length (whole ++ back) = length-append ci (whole ++ back) in
      let l2 : length (whole ++ back) ≡ length whole + 1 = length-append whole back in
      let l3 : length whole ≡ length ct + length (cb ++ cp) = length-append ct (cb ++ cp) in
      let l4 : length (cb ++ cp) ≡ length cb + length cp = length-append cb cp in
      let at_last : p1 + length whole ≡ p4 = omega arith in
      let ends : p4 + 1 ≡ p' = omega arith in
      let over : p2 + suc (length (cb ++ cp)) ≡ p' = omega arith in
      let breaks : p3 + suc (length cp) ≡ p' = omega arith in
      let again : p4 + 1 - suc (length whole) ≡ p1 = omega arith in
      let is_last : slice_get (linked_source s).code p4 ≡ Some (instructions.Jump (distances.Back (suc (length whole)))) = subst (λ q. slice_get (linked_source s).code q ≡ Some (instructions.Jump (distances.Back (suc (length whole))))) at_last last.0 in
      flow_runs program (linked_source s) callers b p1 p' pb pc stack (here (linked_source s) callers p stack (cells values) out) (some_simple_meaning (scene_of calls s) (head_init head) values out) _
      (some_simple_runs program s calls callers b below room obeys pb pc (head_init head) p p1 stack values out (has_front (linked_source s).code p ci _ has) refl)
      (turns_run program (linked_source s) callers b (test_meaning (scene_of calls s) (head_test head)) body (some_simple_meaning (scene_of calls s) (head_post head)) p1 p2 (suc (length (cb ++ cp))) p3 p4 p' pb pc stack over
      (λ values out. test_runs program s calls callers b below room obeys (suc (length (cb ++ cp))) (head_test head) p1 p2 stack values out (has_front (linked_source s).code p1 ct _ h1) refl)
      (rb p2 p3 (has_front (linked_source s).code p2 cb cp h2) refl breaks)
      (λ values out. some_simple_runs program s calls callers b below room obeys pb pc (head_post head) p3 p4 stack values out (has_back (linked_source s).code p2 cb cp h2) refl)
      (λ values out. step_to program (linked_source s) callers p4 stack (cells values) out (instructions.Jump (distances.Back (suc (length whole)))) (here (linked_source s) callers p1 stack (cells values) out) is_last (ap (λ q. here (linked_source s) callers q stack (cells values) out) again))
      n b enough (omega arith))

  mutual
    pub stmt_runs : (t : StmtTree) (x : Exits) (p p' pb pc : ℕ) (stack : List ℤ) (values : Variables) (out : List ℕ) → HasAt (linked_source s).code p (stmt_code (frame_in s.looks s.tree) x t) → p + length (stmt_code (frame_in s.looks s.tree) x t) ≡ p' → p' + x.ends ≡ pb → p' + x.goes_on ≡ pc → Runs program (flow_at (linked_source s) callers p' pb pc stack) b (here (linked_source s) callers p stack (cells values) out) (stmt_meaning n (scene_of calls s) t values out)
    stmt_runs Empty x p p' pb pc stack values out has len eb ec = skip_runs program (linked_source s) callers b pb pc p p' stack values out len
    stmt_runs (Declare v) x p p' pb pc stack values out has len eb ec = value_specs_runs program s calls callers b below room obeys pb pc v.kind v.specs p p' stack values out has len
    stmt_runs (Simple t) x p p' pb pc stack values out has len eb ec = simple_runs program s calls callers b below room obeys pb pc t p p' stack values out has len
    stmt_runs (Return s' es) x p p' pb pc stack values out has len eb ec = returned_runs program s calls callers b below room obeys pb pc es p p' stack values out has
    stmt_runs (Break s') x p p' pb pc stack values out has len eb ec = jump_runs x.ends p pb stack values out has (omega arith)
    stmt_runs (Continue s') x p p' pb pc stack values out has len eb ec = jump_runs x.goes_on p pc stack values out has (omega arith)
    stmt_runs (Block first ls last) x p p' pb pc stack values out has len eb ec = lines_runs ls x p p' pb pc stack values out has len eb ec
    stmt_runs (If t) x p p' pb pc stack values out has len eb ec = branch_runs t x p p' pb pc stack values out has len eb ec
    stmt_runs (For k head first ls last) x p p' pb pc stack values out has len eb ec =
        loop_runs head (lines_code (frame_in s.looks s.tree) (in_loop (some_simple_code (frame_in s.looks s.tree) (head_post head))) ls) (lines_meaning n (scene_of calls s) ls) p p' pb pc stack values out has len
        (λ q q' has len breaks values out. lines_runs ls (in_loop (some_simple_code (frame_in s.looks s.tree) (head_post head))) q q' p' q' stack values out has len breaks (omega arith))

    branch_runs : (t : BranchTree) (x : Exits) (p p' pb pc : ℕ) (stack : List ℤ) (values : Variables) (out : List ℕ) → HasAt (linked_source s).code p (branch_code (frame_in s.looks s.tree) x t) → p + length (branch_code (frame_in s.looks s.tree) x t) ≡ p' → p' + x.ends ≡ pb → p' + x.goes_on ≡ pc → Runs program (flow_at (linked_source s) callers p' pb pc stack) b (here (linked_source s) callers p stack (cells values) out) (branch_meaning n (scene_of calls s) t values out)
    branch_runs (Branch k head first ls last NoElse) x p p' pb pc stack values out has len eb ec =
        test_then head.init head.condition (length (lines_code (frame_in s.looks s.tree) x ls)) (lines_code (frame_in s.looks s.tree) x ls) (lines_meaning n (scene_of calls s) ls) (else_meaning n (scene_of calls s) NoElse) p p' pb pc stack values out has len
        (λ q has len values out. lines_runs ls x q p' pb pc stack values out has len eb ec)
        (λ q has len values out. moved program (linked_source s) callers (q + length (lines_code (frame_in s.looks s.tree) x ls)) p' stack (cells values) out len)
    branch_runs (Branch k head first ls last (ElseBlock k' first' others last')) x p p' pb pc stack values out has len eb ec =
        let co = lines_code (frame_in s.looks s.tree) x others in
        let x' = before (suc (length co)) x in
        either_runs head.init head.condition (lines_code (frame_in s.looks s.tree) x' ls) co (lines_meaning n (scene_of calls s) ls) (else_meaning n (scene_of calls s) (ElseBlock k' first' others last')) p p' pb pc stack values out has len
        (λ q q' has len over values out. lines_runs ls x' q q' pb pc stack values out has len (omega (arith, over, eb)) (omega (arith, over, ec)))
        (λ q has len values out. lines_runs others x q p' pb pc stack values out has len eb ec)
    branch_runs (Branch k head first ls last (ElseIf k' t)) x p p' pb pc stack values out has len eb ec =
        let co = branch_code (frame_in s.looks s.tree) x t in
        let x' = before (suc (length co)) x in
        either_runs head.init head.condition (lines_code (frame_in s.looks s.tree) x' ls) co (lines_meaning n (scene_of calls s) ls) (else_meaning n (scene_of calls s) (ElseIf k' t)) p p' pb pc stack values out has len
        (λ q q' has len over values out. lines_runs ls x' q q' pb pc stack values out has len (omega (arith, over, eb)) (omega (arith, over, ec)))
        (λ q has len values out. branch_runs t x q p' pb pc stack values out has len eb ec)

    pub lines_runs : (ls : Lines) (x : Exits) (p p' pb pc : ℕ) (stack : List ℤ) (values : Variables) (out : List ℕ) → HasAt (linked_source s).code p (lines_code (frame_in s.looks s.tree) x ls) → p + length (lines_code (frame_in s.looks s.tree) x ls) ≡ p' → p' + x.ends ≡ pb → p' + x.goes_on ≡ pc → Runs program (flow_at (linked_source s) callers p' pb pc stack) b (here (linked_source s) callers p stack (cells values) out) (lines_meaning n (scene_of calls s) ls values out)
    lines_runs NoLines x p p' pb pc stack values out has len eb ec = skip_runs program (linked_source s) callers b pb pc p p' stack values out len
    lines_runs (Line t semicolon rest) x p p' pb pc stack values out has len eb ec =
        let cr = lines_code (frame_in s.looks s.tree) x rest in
        let x' = before (length cr) x in
        let ct = stmt_code (frame_in s.looks s.tree) x' t in
        let ends : p + length ct + length cr ≡ p' = omega (arith, length-append ct cr) in
        flow_runs program (linked_source s) callers b (p + length ct) p' pb pc stack (here (linked_source s) callers p stack (cells values) out) (stmt_meaning n (scene_of calls s) t values out) (lines_meaning n (scene_of calls s) rest)
        (stmt_runs t x' p (p + length ct) pb pc stack values out (has_front (linked_source s).code p ct cr has) refl (omega arith) (omega arith))
        (λ values out. lines_runs rest x (p + length ct) p' pb pc stack values out (has_back (linked_source s).code p ct cr has) ends eb ec)
