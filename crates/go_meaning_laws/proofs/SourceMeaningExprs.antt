-- The machine follows expressions.
use Rattle.std.proofs.Common.{◌≡◌, ℕ, suc, ◌+◌, ◌≤◌, Bool, true, false, List, [], ◌∷◌, ◌++◌, length, ℤ, pos, Option, Some, None, refl, sym, ap, ◌∙◌, subst, arith, length-append, if◌then◌else◌}
use Rattle.std.specs.Prelude.{slice_get}
use Rattle.go_object_core.specs.declared.instructions.instruction.Distance.TheVariants as distances
use Rattle.go_object_core.specs.declared.instructions.instruction.Instruction.{Instruction}
use Rattle.go_object_core.specs.declared.instructions.instruction.Instruction.TheVariants as instructions
use Rattle.go_object_core.specs.declared.instructions.letters.Word.{Word}
use Rattle.go_object_core.specs.declared.instructions.letters.Word.TheVariants as words
use Rattle.go_machine_core.specs.Programs.{LinkedOf}
use Rattle.go_machine_core.specs.Words.{bit, line_text}
use Rattle.go_meaning_laws.specs.source_meaning.Values.{Value, Number, Truth, Applied, Yields, Panics, Undefined, unary_applied, binary_applied, panicked_with, line_printed}
use Rattle.go_machine_core.specs.Machine.{Frame, Machine, act, stuck_unless, chosen, left, entered}
use Rattle.go_meaning_laws.specs.source_meaning.Meaning.{Outcome, Done, Nonsense, and_then, with_one, with_truth, if_some, if_yields, Variables, value_of, Calls, gives_one, second_truth, constant_value, constant_else, name_value, and_value, or_value, binary_meaning, fitting, called, call_meaning, Scene, scene_of, expr_meaning, receiver_meaning, items_meaning}
use Rattle.go_meaning_laws.specs.source_meaning.Meaning.{Panicked, Unfinished}
use Rattle.go_meaning_laws.proofs.SourceMeaningSteps.{Comes, Runs, here, pushed, gave, HasAt, has_front, has_back, stays, leads_comes, after, after_step, fewer, then_runs, step_to, step_at, moved, one_runs, with_one_runs, with_truth_runs, word, words_of, left_with, cells, pushed}
use Rattle.go_meaning_laws.proofs.SourceMeaningOperators.{ActsOnTwo, ActsOnOne, unary_acts, binary_acts}
use Rattle.go_meaning_laws.proofs.SourceMeaningVariables.{reads, pops, pushed_behind, is_truth, line_is, Every, every_then, every_one}
use Rattle.go_tree_nodes.specs.token_core.declared.kind.Operator.{Operator}
use Rattle.go_tree_nodes.specs.token_core.declared.kind.Operator.TheVariants as operators
use Rattle.go_tree_nodes.specs.Trees.{ExprTree, ItemTrees, Integer, Text, Named, Paren, Unary, Binary, Select, Call, Literal, StructLiteral, NoItems, Item}
use Rattle.go_tree_nodes.specs.Counts.{item_count}
use Rattle.go_code_core.specs.declared.fragments.names.ConstantWord.{ConstantWord}
use Rattle.go_code_core.specs.declared.fragments.names.ConstantWord.TheVariants as constants
use Rattle.go_code_core.specs.declared.fragments.names.Gives.{Gives}
use Rattle.go_code_core.specs.declared.fragments.names.Gives.TheVariants as gives
use Rattle.go_code_core.specs.declared.fragments.names.Meaning.{Meaning}
use Rattle.go_code_core.specs.declared.fragments.names.Meaning.TheVariants as meanings
use Rattle.go_code_core.specs.fragments.Constants.{folded}
use Rattle.go_code_core.specs.fragments.Fragment.{means_method}
use Rattle.go_code_core.specs.fragments.Names.{slot_of, callee_meaning}
use Rattle.go_code_core.specs.fragments.Operators.{unary_instruction, binary_instruction, some_instruction}
use Rattle.go_code_core.specs.Code.{word_value, push, constant_or, load, name_code, binary_code, letters, panic_end, call_end, expr_code, receiver_code, items_code, frame_in}
use Rattle.go_meaning_laws.specs.source_meaning.Meaning.{SourceOf}
use Rattle.go_meaning_laws.specs.source_meaning.Whole.{linked_source}
use Rattle.go_machine_core.specs.Programs.{callee_in}

abbrev pub and_code : List Instruction → List Instruction → List Instruction
and_code a b = binary_code operators.LogicalAnd a b

abbrev pub or_code : List Instruction → List Instruction → List Instruction
or_code a b = binary_code operators.LogicalOr a b

value_same : (v : ConstantWord) → word_value v ≡ word (constant_value v)
value_same (constants.Int z) = refl
value_same (constants.Bool false) = refl
value_same (constants.Bool true) = refl

-- how many operands a receiver is
abbrev pub receivers : Meaning → ℕ
receivers (meanings.Method g) = 1
receivers _ = 0

receiver_is : (m : Meaning) (o : Outcome (List Value)) (out : List ℕ) → Every (λ vs. length vs ≡ receivers m) (if means_method m then with_one o gives_one else Done [] out)
receiver_is (meanings.Method g) o out = every_one (λ vs. length vs ≡ 1) o gives_one (λ v out. refl)
receiver_is (meanings.Variable at w) o out = refl
receiver_is (meanings.Constant v) o out = refl
receiver_is (meanings.Function g) o out = refl
receiver_is (meanings.«Type» w) o out = refl
receiver_is meanings.Println o out = refl
receiver_is meanings.Panic o out = refl
receiver_is meanings.Other o out = refl

no_receiver : (m : Meaning) (out : List ℕ) → Every (λ (vs : List Value). length vs ≡ receivers m) (if means_method m then Nonsense else Done [] out)
no_receiver (meanings.Method g) out = tt
no_receiver (meanings.Variable at w) out = refl
no_receiver (meanings.Constant v) out = refl
no_receiver (meanings.Function g) out = refl
no_receiver (meanings.«Type» w) out = refl
no_receiver meanings.Println out = refl
no_receiver meanings.Panic out = refl
no_receiver meanings.Other out = refl

pub receiver_counts : (c : Scene) (e : ExprTree) (values : Variables) (out : List ℕ) → Every (λ vs. length vs ≡ receivers (callee_meaning c.frame.looks e)) (receiver_meaning c e values out)
receiver_counts c (Select e dot x) values out = receiver_is (c.frame.looks.meaning x.span.start) (expr_meaning c e values out) out
receiver_counts c (Paren first e last) values out = receiver_counts c e values out
receiver_counts c (Integer n s') values out = refl
receiver_counts c (Text t) values out = refl
receiver_counts c (Literal n first items last) values out = refl
receiver_counts c (StructLiteral t first items last) values out = refl
receiver_counts c (Named x) values out = no_receiver (c.frame.looks.meaning x.span.start) out
receiver_counts c (Unary op s' e) values out = refl
receiver_counts c (Binary a op s' b) values out = refl
receiver_counts c (Call e first items last) values out = refl

pub items_count : (c : Scene) (items : ItemTrees) (values : Variables) (out : List ℕ) → Every (λ vs. length vs ≡ item_count items) (items_meaning c items values out)
items_count c NoItems values out = refl
items_count c (Item key e comma rest) values out =
    every_one (λ vs. length vs ≡ suc (item_count rest)) (expr_meaning c e values out) _
    (λ v out. every_then (λ vs. length vs ≡ item_count rest) (λ vs. length vs ≡ suc (item_count rest)) (items_meaning c rest values out) _ (items_count c rest values out) (λ vs out h. ap suc h))

then_runs_where : {A B : Type 0} (program : List LinkedOf) (at : A → List ℕ → Machine) (at' : B → List ℕ → Machine) (b : ℕ) (c : Machine) (P : A → Type 0) (o : Outcome A) (go : A → List ℕ → Outcome B) → Runs program at b c o → Every P o → ((a : A) (out : List ℕ) → P a → Runs program at' b (at a out) (go a out)) → Runs program at' b c (and_then o go)
then_runs_where program at at' b c P (Done a out) go r q k = after program at' b c (at a out) (go a out) r (k a out q)
then_runs_where program at at' b c P (Panicked value out) go r q k = r
then_runs_where program at at' b c P (Unfinished out) go r q k = r
then_runs_where program at at' b c P Nonsense go r q k = tt

-- what is called does what its calls come to
abbrev pub Obeys : List LinkedOf → ℕ → Calls → Type 0
Obeys program b calls = (d : ℕ) (arguments : List Value) (callers : List Frame) (out : List ℕ) → Runs program (left_with callers) b (entered program d (words_of arguments) callers out) (calls d arguments out)

module _ (program : List LinkedOf) (g : LinkedOf) (callers : List Frame) (b : ℕ) where
  pub push_runs : (v : ℤ) (p p' : ℕ) (stack slots : List ℤ) (out : List ℕ) → HasAt g.code p (instructions.Push v ∷ []) → p + 1 ≡ p' → Comes program (here g callers p stack slots out) (here g callers p' (v ∷ stack) slots out)
  push_runs v p p' stack slots out has e = step_at program g callers p p' (p + 1) stack slots (v ∷ stack) slots out out (instructions.Push v) has.0 e refl

  word_runs : (v : ConstantWord) (p p' : ℕ) (stack slots : List ℤ) (out : List ℕ) → HasAt g.code p (push v) → p + 1 ≡ p' → Comes program (here g callers p stack slots out) (here g callers p' (word (constant_value v) ∷ stack) slots out)
  word_runs v p p' stack slots out has e = subst (λ z. Comes program (here g callers p stack slots out) (here g callers p' (z ∷ stack) slots out)) (value_same v) (push_runs (word_value v) p p' stack slots out has e)

  constant_runs : (v : Option ConstantWord) (code : List Instruction) (o : Outcome (List Value)) (p p' : ℕ) (stack slots : List ℤ) (out : List ℕ) → HasAt g.code p (constant_or v code) → p + length (constant_or v code) ≡ p' → (HasAt g.code p code → p + length code ≡ p' → Runs program (gave g callers p' stack slots) b (here g callers p stack slots out) o) → Runs program (gave g callers p' stack slots) b (here g callers p stack slots out) (constant_else v out o)
  constant_runs (Some v) code o p p' stack slots out has e k = word_runs v p p' stack slots out has e
  constant_runs None code o p p' stack slots out has e k = k has e

  load_runs : (slot : Option ℕ) (n : ℕ) (v : ℤ) (p p' : ℕ) (stack slots : List ℤ) (out : List ℕ) → HasAt g.code p (load slot) → p + length (load slot) ≡ p' → slot ≡ Some n → slice_get slots n ≡ Some v → Comes program (here g callers p stack slots out) (here g callers p' (v ∷ stack) slots out)
  load_runs None n v p p' stack slots out has e is at = absurd (cc is)
  load_runs (Some m) n v p p' stack slots out has e is at =
      let same : m ≡ n = cc is in
      let here_v : slice_get slots m ≡ Some v = subst (λ k. slice_get slots k ≡ Some v) (sym same) at in
      step_at program g callers p p' (p + 1) stack slots (v ∷ stack) slots out out (instructions.Load m) has.0 e (ap (λ o. stuck_unless o out (λ x. here g callers (p + 1) (x ∷ stack) slots out)) here_v)

  variable_runs : (ds : List (Option ℕ)) (at : ℕ) (o : Option Value) (p p' : ℕ) (stack : List ℤ) (values : Variables) (out : List ℕ) → HasAt g.code p (load (slot_of ds at)) → p + length (load (slot_of ds at)) ≡ p' → value_of ds values at ≡ o → Runs program (gave g callers p' stack (cells values)) b (here g callers p stack (cells values) out) (if_some o (λ v. gives_one v out))
  variable_runs ds at None p p' stack values out has e is = tt
  variable_runs ds at (Some v) p p' stack values out has e is =
      let r = reads ds values 0 at v is in
      let same : 0 + r.slot ≡ r.slot = omega arith in
      load_runs (slot_of ds at) r.slot (word v) p p' stack (cells values) out has e (r.is_slot ∙ ap Some same) r.has

  name_runs : (ds : List (Option ℕ)) (m : Meaning) (p p' : ℕ) (stack : List ℤ) (values : Variables) (out : List ℕ) → HasAt g.code p (name_code ds m) → p + length (name_code ds m) ≡ p' → Runs program (gave g callers p' stack (cells values)) b (here g callers p stack (cells values) out) (name_value ds m values out)
  name_runs ds (meanings.Variable at w) p p' stack values out has e = variable_runs ds at (value_of ds values at) p p' stack values out has e refl
  name_runs ds (meanings.Constant v) p p' stack values out has e = word_runs v p p' stack (cells values) out has e
  name_runs ds (meanings.Function r) p p' stack values out has e = tt
  name_runs ds (meanings.Method r) p p' stack values out has e = tt
  name_runs ds (meanings.«Type» w) p p' stack values out has e = tt
  name_runs ds meanings.Println p p' stack values out has e = tt
  name_runs ds meanings.Panic p p' stack values out has e = tt
  name_runs ds meanings.Other p p' stack values out has e = tt

  -- an operator on two words
  pub result_runs : {B : Type 0} (at : B → List ℕ → Machine) (a : Applied) (i : Option Instruction) (x y : ℤ) → ActsOnTwo a i x y → (p p' : ℕ) (stack slots : List ℤ) (out : List ℕ) → HasAt g.code p (some_instruction i) → p + length (some_instruction i) ≡ p' → (go : Value → Outcome B) → ((v : Value) → Runs program at b (here g callers p' (word v ∷ stack) slots out) (go v)) → Runs program at b (here g callers p (y ∷ x ∷ stack) slots out) (if_yields a out go)
  result_runs at (Yields v) None x y acts p p' stack slots out has e go k = absurd acts
  result_runs at Panics None x y acts p p' stack slots out has e go k = absurd acts
  result_runs at (Yields v) (Some i) x y acts p p' stack slots out has e go k =
      after program at b (here g callers p (y ∷ x ∷ stack) slots out) (here g callers p' (word v ∷ stack) slots out) (go v)
      (step_at program g callers p p' (p + 1) (y ∷ x ∷ stack) slots (word v ∷ stack) slots out out i has.0 e (acts program g p stack slots callers out)) (k v)
  result_runs at Panics (Some i) x y acts p p' stack slots out has e go k =
      leads_comes program _ _ (step_to program g callers p (y ∷ x ∷ stack) slots out i _ has.0 (acts program g p stack slots callers out))
  result_runs at Undefined i x y acts p p' stack slots out has e go k = tt

  two_runs : (op : Operator) (ca cb : List Instruction) (oa : Outcome (List Value)) (ob : List ℕ → Outcome (List Value)) (p p' : ℕ) (stack slots : List ℤ) (out : List ℕ) → HasAt g.code p (ca ++ (cb ++ some_instruction (binary_instruction op))) → p + length (ca ++ (cb ++ some_instruction (binary_instruction op))) ≡ p'
      → Runs program (gave g callers (p + length ca) stack slots) b (here g callers p stack slots out) oa
      → ((x : ℤ) (out : List ℕ) → Runs program (gave g callers (p + length ca + length cb) (x ∷ stack) slots) b (here g callers (p + length ca) (x ∷ stack) slots out) (ob out))
      → Runs program (gave g callers p' stack slots) b (here g callers p stack slots out) (with_one oa (λ x out. with_one (ob out) (λ y out. if_yields (binary_applied op x y) out (λ v. gives_one v out))))
  two_runs op ca cb oa ob p p' stack slots out has e ra rb =
      let ci = some_instruction (binary_instruction op) in
      let p1 = p + length ca in
      let p2 = p1 + length cb in
      let last = has_back g.code p1 cb ci (has_back g.code p ca (cb ++ ci) has) in
      let ends : p2 + length ci ≡ p' = omega (arith, length-append ca (cb ++ ci), length-append cb ci) in
      with_one_runs program g callers (gave g callers p' stack slots) b (here g callers p stack slots out) p1 stack slots oa _ ra
      (λ x out. with_one_runs program g callers (gave g callers p' stack slots) b (here g callers p1 (word x ∷ stack) slots out) p2 (word x ∷ stack) slots (ob out) _ (rb (word x) out)
      (λ y out. result_runs (gave g callers p' stack slots) (binary_applied op x y) (binary_instruction op) (word x) (word y) (binary_acts op x y) p2 p' stack slots out last ends _ (λ v. stays program _)))

  one_acts : (a : Applied) (i : Option Instruction) (x : ℤ) → ActsOnOne a i x → (p p' : ℕ) (stack slots : List ℤ) (out : List ℕ) → HasAt g.code p (some_instruction i) → p + length (some_instruction i) ≡ p' → Runs program (gave g callers p' stack slots) b (here g callers p (x ∷ stack) slots out) (if_yields a out (λ v. gives_one v out))
  one_acts (Yields v) None x acts p p' stack slots out has e =
      let ends : p ≡ p' = omega arith in
      subst (λ z. Comes program (here g callers p (x ∷ stack) slots out) (here g callers p' (z ∷ stack) slots out)) acts (moved program g callers p p' (x ∷ stack) slots out ends)
  one_acts (Yields v) (Some i) x acts p p' stack slots out has e =
      step_at program g callers p p' (p + 1) (x ∷ stack) slots (word v ∷ stack) slots out out i has.0 e (acts program g p stack slots callers out)
  one_acts Panics i x acts p p' stack slots out has e = absurd acts
  one_acts Undefined i x acts p p' stack slots out has e = tt

  unary_runs : (op : Operator) (ce : List Instruction) (o : Outcome (List Value)) (p p' : ℕ) (stack slots : List ℤ) (out : List ℕ) → HasAt g.code p (ce ++ some_instruction (unary_instruction op)) → p + length (ce ++ some_instruction (unary_instruction op)) ≡ p'
      → Runs program (gave g callers (p + length ce) stack slots) b (here g callers p stack slots out) o
      → Runs program (gave g callers p' stack slots) b (here g callers p stack slots out) (with_one o (λ x out. if_yields (unary_applied op x) out (λ v. gives_one v out)))
  unary_runs op ce o p p' stack slots out has e r =
      let ci = some_instruction (unary_instruction op) in
      let p1 = p + length ce in
      let ends : p1 + length ci ≡ p' = omega (arith, length-append ce ci) in
      with_one_runs program g callers (gave g callers p' stack slots) b (here g callers p stack slots out) p1 stack slots o _ r
      (λ x out. one_acts (unary_applied op x) (unary_instruction op) (word x) (unary_acts op x) p1 p' stack slots out (has_back g.code p ce ci has) ends)

  -- a jump where a truth fails
  pub fails_runs : (n : ℕ) (t : Bool) (p : ℕ) (stack slots : List ℤ) (out : List ℕ) → HasAt g.code p (instructions.JumpFalse n ∷ []) → Comes program (here g callers p (bit t ∷ stack) slots out) (here g callers (chosen t n (p + 1)) stack slots out)
  fails_runs n t p stack slots out has =
      leads_comes program _ _ (step_to program g callers p (bit t ∷ stack) slots out (instructions.JumpFalse n) (here g callers (chosen t n (p + 1)) stack slots out) has.0 (ap (λ t. here g callers (chosen t n (p + 1)) stack slots out) (is_truth t)))

  -- `&&` and `||`

  -- the second operand, of which a truth is wanted
  second_runs : (o : Outcome (List Value)) (p q p' : ℕ) (stack slots : List ℤ) (out : List ℕ) → Runs program (gave g callers q stack slots) b (here g callers p stack slots out) o → ((v : ℤ) (out : List ℕ) → Comes program (here g callers q (v ∷ stack) slots out) (here g callers p' (v ∷ stack) slots out)) → Runs program (gave g callers p' stack slots) b (here g callers p stack slots out) (second_truth o)
  second_runs o p q p' stack slots out r k = with_truth_runs program g callers (gave g callers p' stack slots) b (here g callers p stack slots out) q stack slots o _ r (λ t out. k (bit t) out)

  and_runs : (ca cb : List Instruction) (oa : Outcome (List Value)) (ob : List ℕ → Outcome (List Value)) (p p' : ℕ) (stack slots : List ℤ) (out : List ℕ) → HasAt g.code p (and_code ca cb) → p + length (and_code ca cb) ≡ p'
      → Runs program (gave g callers (p + length ca) stack slots) b (here g callers p stack slots out) oa
      → ((out : List ℕ) → Runs program (gave g callers (p + length ca + 1 + length cb) stack slots) b (here g callers (p + length ca + 1) stack slots out) (ob out))
      → Runs program (gave g callers p' stack slots) b (here g callers p stack slots out) (with_truth oa (λ x out. and_value x out (ob out)))
  and_runs ca cb oa ob p p' stack slots out has e ra rb =
      with_truth_runs program g callers (gave g callers p' stack slots) b (here g callers p stack slots out) (p + length ca) stack slots oa _ ra
      (λ t out. after program (gave g callers p' stack slots) b (here g callers (p + length ca) (bit t ∷ stack) slots out) (here g callers (chosen t (length cb + 1) (p + length ca + 1)) stack slots out) (and_value t out (ob out))
      (fails_runs (length cb + 1) t (p + length ca) stack slots out (h.0, tt))
      (choice t out))
    where
      h : HasAt g.code (p + length ca) (instructions.JumpFalse (length cb + 1) ∷ (cb ++ instructions.Jump (distances.Forward 1) ∷ (instructions.Push (pos 0) ∷ [])))
      h = has_back g.code p ca _ has

      choice : (t : Bool) (out : List ℕ) → Runs program (gave g callers p' stack slots) b (here g callers (chosen t (length cb + 1) (p + length ca + 1)) stack slots out) (and_value t out (ob out))
      choice true out =
          let h2 = has_back g.code (p + length ca + 1) cb (instructions.Jump (distances.Forward 1) ∷ (instructions.Push (pos 0) ∷ [])) h.1 in
          let ends : p + length ca + 1 + length cb + 1 + 1 ≡ p' = omega (arith, e, length-append ca (instructions.JumpFalse (length cb + 1) ∷ (cb ++ instructions.Jump (distances.Forward 1) ∷ (instructions.Push (pos 0) ∷ []))), length-append cb (instructions.Jump (distances.Forward 1) ∷ (instructions.Push (pos 0) ∷ []))) in
          second_runs (ob out) (p + length ca + 1) (p + length ca + 1 + length cb) p' stack slots out (rb out)
          (λ v out. step_at program g callers (p + length ca + 1 + length cb) p' (p + length ca + 1 + length cb + 1 + 1) (v ∷ stack) slots (v ∷ stack) slots out out (instructions.Jump (distances.Forward 1)) h2.0 ends refl)
      choice false out =
          let h2 = has_back g.code (p + length ca + 1) cb (instructions.Jump (distances.Forward 1) ∷ (instructions.Push (pos 0) ∷ [])) h.1 in
          let at : p + length ca + 1 + length cb + 1 ≡ p + length ca + 1 + (length cb + 1) = omega arith in
          let ends : p + length ca + 1 + (length cb + 1) + 1 ≡ p' = omega (arith, e, length-append ca (instructions.JumpFalse (length cb + 1) ∷ (cb ++ instructions.Jump (distances.Forward 1) ∷ (instructions.Push (pos 0) ∷ []))), length-append cb (instructions.Jump (distances.Forward 1) ∷ (instructions.Push (pos 0) ∷ []))) in
          push_runs (pos 0) (p + length ca + 1 + (length cb + 1)) p' stack slots out (subst (λ n. HasAt g.code n (instructions.Push (pos 0) ∷ [])) at h2.1) ends

  or_runs : (ca cb : List Instruction) (oa : Outcome (List Value)) (ob : List ℕ → Outcome (List Value)) (p p' : ℕ) (stack slots : List ℤ) (out : List ℕ) → HasAt g.code p (or_code ca cb) → p + length (or_code ca cb) ≡ p'
      → Runs program (gave g callers (p + length ca) stack slots) b (here g callers p stack slots out) oa
      → ((out : List ℕ) → Runs program (gave g callers (p + length ca + 1 + 1 + 1 + length cb) stack slots) b (here g callers (p + length ca + 1 + 1 + 1) stack slots out) (ob out))
      → Runs program (gave g callers p' stack slots) b (here g callers p stack slots out) (with_truth oa (λ x out. or_value x out (ob out)))
  or_runs ca cb oa ob p p' stack slots out has e ra rb =
      with_truth_runs program g callers (gave g callers p' stack slots) b (here g callers p stack slots out) (p + length ca) stack slots oa _ ra
      (λ t out. after program (gave g callers p' stack slots) b (here g callers (p + length ca) (bit t ∷ stack) slots out) (here g callers (chosen t 2 (p + length ca + 1)) stack slots out) (or_value t out (ob out))
      (fails_runs 2 t (p + length ca) stack slots out (h.0, tt))
      (choice t out))
    where
      h : HasAt g.code (p + length ca) (instructions.JumpFalse 2 ∷ (instructions.Push (pos 1) ∷ (instructions.Jump (distances.Forward (length cb)) ∷ cb)))
      h = has_back g.code p ca _ has

      ends : p + length ca + 1 + 1 + 1 + length cb ≡ p'
      ends = omega (arith, e, length-append ca (instructions.JumpFalse 2 ∷ (instructions.Push (pos 1) ∷ (instructions.Jump (distances.Forward (length cb)) ∷ cb))))

      choice : (t : Bool) (out : List ℕ) → Runs program (gave g callers p' stack slots) b (here g callers (chosen t 2 (p + length ca + 1)) stack slots out) (or_value t out (ob out))
      choice true out =
          after program (gave g callers p' stack slots) b (here g callers (p + length ca + 1) stack slots out) (here g callers (p + length ca + 1 + 1) (pos 1 ∷ stack) slots out) (gives_one (Truth true) out)
          (push_runs (pos 1) (p + length ca + 1) (p + length ca + 1 + 1) stack slots out (h.1.0, tt) refl)
          (step_at program g callers (p + length ca + 1 + 1) p' (p + length ca + 1 + 1 + 1 + length cb) (pos 1 ∷ stack) slots (pos 1 ∷ stack) slots out out (instructions.Jump (distances.Forward (length cb))) h.1.1.0 ends refl)
      choice false out =
          let at : p + length ca + 1 + 2 ≡ p + length ca + 1 + 1 + 1 = omega arith in
          subst (λ n. Runs program (gave g callers p' stack slots) b (here g callers n stack slots out) (second_truth (ob out))) (sym at)
          (second_runs (ob out) (p + length ca + 1 + 1 + 1) (p + length ca + 1 + 1 + 1 + length cb) p' stack slots out (rb out) (λ v out. moved program g callers (p + length ca + 1 + 1 + 1 + length cb) p' (v ∷ stack) slots out ends))

-- calls, and whole expressions, in a function of the source; a call is a step, so what is called may have one step less
module _ (program : List LinkedOf) (s : SourceOf) (calls : Calls) (callers : List Frame) (b below : ℕ) (room : b ≤ suc below) (obeys : Obeys program below calls) where
  fits : (r : Gives) (p p' : ℕ) (stack slots : List ℤ) (vs : List Value) (out : List ℕ) → p ≡ p' → Runs program (gave (linked_source s) callers p' stack slots) b (left (record { function = linked_source s; place = p; stack = stack; slots = slots } ∷ callers) (words_of vs) out) (fitting r vs out)
  fits (gives.One w) p p' stack slots [] out e = tt
  fits (gives.One w) p p' stack slots (v ∷ []) out e = moved program (linked_source s) callers p p' (word v ∷ stack) slots out e
  fits (gives.One w) p p' stack slots (v ∷ u ∷ vs) out e = tt
  fits gives.Nothing p p' stack slots [] out e = moved program (linked_source s) callers p p' stack slots out e
  fits gives.Nothing p p' stack slots (v ∷ vs) out e = tt
  fits gives.Other p p' stack slots vs out e = tt

  called_runs : (reference n : ℕ) (d : Option ℕ) (r : Gives) (vs : List Value) (p p' : ℕ) (stack slots : List ℤ) (out : List ℕ) → HasAt (linked_source s).code p (instructions.Call reference n ∷ []) → p + 1 ≡ p' → n ≡ length vs → callee_in (slice_get s.callees reference) ≡ d → Runs program (gave (linked_source s) callers p' stack slots) b (gave (linked_source s) callers p stack slots vs out) (called calls d r vs out)
  called_runs reference n None r vs p p' stack slots out has e many is = tt
  called_runs reference n (Some d) r vs p p' stack slots out has e many is =
      then_runs program (left_with (waiting ∷ callers)) (gave (linked_source s) callers p' stack slots) b (gave (linked_source s) callers p stack slots vs out) (calls d vs out) _
      (fewer program (left_with (waiting ∷ callers)) b (suc below) (gave (linked_source s) callers p stack slots vs out) (calls d vs out) room
      (after_step program (left_with (waiting ∷ callers)) below (gave (linked_source s) callers p stack slots vs out) (entered program d (words_of vs) (waiting ∷ callers) out) (calls d vs out)
      (step_to program (linked_source s) callers p (pushed vs stack) slots out (instructions.Call reference n) (entered program d (words_of vs) (waiting ∷ callers) out) has.0 enters)
      (obeys d vs (waiting ∷ callers) out)))
      (λ results out. fits r (p + 1) p' stack slots results out e)
    where
      waiting : Frame
      waiting = record { function = linked_source s; place = p + 1; stack = stack; slots = slots }

      enters : act program (Some (instructions.Call reference n)) (record { function = linked_source s; place = p; stack = pushed vs stack; slots = slots }) callers out ≡ entered program d (words_of vs) (record { function = linked_source s; place = p + 1; stack = stack; slots = slots } ∷ callers) out
      enters =
          ap (λ o. stuck_unless o out (λ taken. stuck_unless (callee_in (slice_get s.callees reference)) out (λ d. entered program d taken.0 (record { function = linked_source s; place = p + 1; stack = taken.1; slots = slots } ∷ callers) out))) (pops vs stack n many)
          ∙ ap (λ o. stuck_unless o out (λ d. entered program d (words_of vs) (record { function = linked_source s; place = p + 1; stack = stack; slots = slots } ∷ callers) out)) is

  println_runs : (items : ItemTrees) (line : Option (List ℕ)) (vs : List Value) (p p' : ℕ) (stack slots : List ℤ) (out : List ℕ) → HasAt (linked_source s).code p (instructions.Println (letters (frame_in s.looks s.tree) items) ∷ []) → p + 1 ≡ p' → line_printed (letters (frame_in s.looks s.tree) items) vs ≡ line → Runs program (gave (linked_source s) callers p' stack slots) b (gave (linked_source s) callers p stack slots vs out) (if_some line (λ line. Done [] (out ++ line)))
  println_runs items None vs p p' stack slots out has e is = tt
  println_runs items (Some line) vs p p' stack slots out has e is =
      let r = line_is (letters (frame_in s.looks s.tree) items) vs line is in
      step_at program (linked_source s) callers p p' (p + 1) (pushed vs stack) slots stack slots out (out ++ line) (instructions.Println (letters (frame_in s.looks s.tree) items)) has.0 e
      (ap (λ o. stuck_unless o out (λ taken. stuck_unless (line_text (letters (frame_in s.looks s.tree) items) taken.0) out (λ line. here (linked_source s) callers (p + 1) taken.1 slots (out ++ line)))) (pops vs stack _ r.many)
      ∙ ap (λ o. stuck_unless o out (λ line. here (linked_source s) callers (p + 1) stack slots (out ++ line))) r.is)

  -- `panic` of one value
  panic_runs : (ws : List Word) (vs : List Value) (p p' : ℕ) (stack slots : List ℤ) (out : List ℕ) → HasAt (linked_source s).code p (panic_end ws) → Runs program (gave (linked_source s) callers p' stack slots) b (gave (linked_source s) callers p stack slots vs out) (if_some (panicked_with ws vs) (λ value. Panicked value out))
  panic_runs [] vs p p' stack slots out has = tt
  panic_runs (w ∷ []) [] p p' stack slots out has = tt
  panic_runs (words.Int ∷ []) (Number x ∷ []) p p' stack slots out has = leads_comes program _ _ (step_to program (linked_source s) callers p (x ∷ stack) slots out (instructions.Panic words.Int) _ has.0 refl)
  panic_runs (words.Int ∷ []) (Truth t ∷ []) p p' stack slots out has = tt
  panic_runs (words.Bool ∷ []) (Number x ∷ []) p p' stack slots out has = tt
  panic_runs (words.Bool ∷ []) (Truth true ∷ []) p p' stack slots out has = leads_comes program _ _ (step_to program (linked_source s) callers p (bit true ∷ stack) slots out (instructions.Panic words.Bool) _ has.0 refl)
  panic_runs (words.Bool ∷ []) (Truth false ∷ []) p p' stack slots out has = leads_comes program _ _ (step_to program (linked_source s) callers p (bit false ∷ stack) slots out (instructions.Panic words.Bool) _ has.0 refl)
  panic_runs (w ∷ []) (v ∷ u ∷ vs) p p' stack slots out has = tt
  panic_runs (w ∷ x ∷ ws) vs p p' stack slots out has = tt

  end_runs : (m : Meaning) (reference : ℕ) (items : ItemTrees) (vs : List Value) (p p' : ℕ) (stack slots : List ℤ) (out : List ℕ) → HasAt (linked_source s).code p (call_end (frame_in s.looks s.tree) m reference items) → p + length (call_end (frame_in s.looks s.tree) m reference items) ≡ p' → length vs ≡ receivers m + item_count items → Runs program (gave (linked_source s) callers p' stack slots) b (gave (linked_source s) callers p stack slots vs out) (call_meaning calls (frame_in s.looks s.tree) m (callee_in (slice_get s.callees reference)) items vs out)
  end_runs (meanings.Function r) reference items vs p p' stack slots out has e many = called_runs reference (item_count items) (callee_in (slice_get s.callees reference)) r vs p p' stack slots out has e (omega (arith, many)) refl
  end_runs (meanings.Method r) reference items vs p p' stack slots out has e many = called_runs reference (suc (item_count items)) (callee_in (slice_get s.callees reference)) r vs p p' stack slots out has e (omega (arith, many)) refl
  end_runs (meanings.«Type» w) reference items vs p p' stack slots out has e many =
      let ends : p ≡ p' = omega arith in
      one_runs program (linked_source s) callers (gave (linked_source s) callers p' stack slots) b p stack slots vs out _ (λ v. moved program (linked_source s) callers p p' (word v ∷ stack) slots out ends)
  end_runs meanings.Println reference items vs p p' stack slots out has e many = println_runs items (line_printed (letters (frame_in s.looks s.tree) items) vs) vs p p' stack slots out has e refl
  end_runs meanings.Panic reference items vs p p' stack slots out has e many = panic_runs (letters (frame_in s.looks s.tree) items) vs p p' stack slots out has
  end_runs (meanings.Variable at w) reference items vs p p' stack slots out has e many = tt
  end_runs (meanings.Constant v) reference items vs p p' stack slots out has e many = tt
  end_runs meanings.Other reference items vs p p' stack slots out has e many = tt

  binary_runs : (op : Operator) (ca cb : List Instruction) (oa : Outcome (List Value)) (ob : List ℕ → Outcome (List Value)) (p p' : ℕ) (stack slots : List ℤ) (out : List ℕ) → HasAt (linked_source s).code p (binary_code op ca cb) → p + length (binary_code op ca cb) ≡ p'
      → (HasAt (linked_source s).code p ca → Runs program (gave (linked_source s) callers (p + length ca) stack slots) b (here (linked_source s) callers p stack slots out) oa)
      → ((q : ℕ) (stack : List ℤ) (out : List ℕ) → HasAt (linked_source s).code q cb → Runs program (gave (linked_source s) callers (q + length cb) stack slots) b (here (linked_source s) callers q stack slots out) (ob out))
      → Runs program (gave (linked_source s) callers p' stack slots) b (here (linked_source s) callers p stack slots out) (binary_meaning op oa ob)
  binary_runs operators.LogicalAnd ca cb oa ob p p' stack slots out has e ra rb =
      let h = has_back (linked_source s).code p ca _ has in
      and_runs program (linked_source s) callers b ca cb oa ob p p' stack slots out has e (ra (has_front (linked_source s).code p ca _ has))
      (λ out. rb (p + length ca + 1) stack out (has_front (linked_source s).code (p + length ca + 1) cb _ h.1))
  binary_runs operators.LogicalOr ca cb oa ob p p' stack slots out has e ra rb =
      let h = has_back (linked_source s).code p ca _ has in
      or_runs program (linked_source s) callers b ca cb oa ob p p' stack slots out has e (ra (has_front (linked_source s).code p ca _ has))
      (λ out. rb (p + length ca + 1 + 1 + 1) stack out h.1.1.1)
  binary_runs op ca cb oa ob p p' stack slots out has e ra rb =
      two_runs program (linked_source s) callers b op ca cb oa ob p p' stack slots out has e (ra (has_front (linked_source s).code p ca _ has))
      (λ x out. rb (p + length ca) (x ∷ stack) out (has_front (linked_source s).code (p + length ca) cb _ (has_back (linked_source s).code p ca _ has)))

  receiver_choice : (t : Bool) (code : List Instruction) (o : Outcome (List Value)) (p p' : ℕ) (stack slots : List ℤ) (out : List ℕ) → HasAt (linked_source s).code p (if t then code else []) → p + length (if t then code else []) ≡ p' → (HasAt (linked_source s).code p code → p + length code ≡ p' → Runs program (gave (linked_source s) callers p' stack slots) b (here (linked_source s) callers p stack slots out) o) → Runs program (gave (linked_source s) callers p' stack slots) b (here (linked_source s) callers p stack slots out) (if t then with_one o gives_one else Done [] out)
  receiver_choice true code o p p' stack slots out has e k = with_one_runs program (linked_source s) callers (gave (linked_source s) callers p' stack slots) b (here (linked_source s) callers p stack slots out) p' stack slots o gives_one (k has e) (λ v out. stays program _)
  receiver_choice false code o p p' stack slots out has e k = let ends : p ≡ p' = omega arith in moved program (linked_source s) callers p p' stack slots out ends

  nothing_runs : (t : Bool) (p p' : ℕ) (stack slots : List ℤ) (out : List ℕ) → p + 0 ≡ p' → Runs program (gave (linked_source s) callers p' stack slots) b (here (linked_source s) callers p stack slots out) (if t then Nonsense else Done [] out)
  nothing_runs true p p' stack slots out e = tt
  nothing_runs false p p' stack slots out e = let ends : p ≡ p' = omega arith in moved program (linked_source s) callers p p' stack slots out ends

  -- the parts of a call
  call_runs : (m : Meaning) (reference : ℕ) (items : ItemTrees) (cr ci : List Instruction) (r : Outcome (List Value)) (is : List ℕ → Outcome (List Value)) (p p' : ℕ) (stack slots : List ℤ) (out : List ℕ) → HasAt (linked_source s).code p (cr ++ (ci ++ call_end (frame_in s.looks s.tree) m reference items)) → p + length (cr ++ (ci ++ call_end (frame_in s.looks s.tree) m reference items)) ≡ p'
      → Every (λ vs. length vs ≡ receivers m) r
      → ((out : List ℕ) → Every (λ vs. length vs ≡ item_count items) (is out))
      → (HasAt (linked_source s).code p cr → Runs program (gave (linked_source s) callers (p + length cr) stack slots) b (here (linked_source s) callers p stack slots out) r)
      → ((q : ℕ) (stack : List ℤ) (out : List ℕ) → HasAt (linked_source s).code q ci → Runs program (gave (linked_source s) callers (q + length ci) stack slots) b (here (linked_source s) callers q stack slots out) (is out))
      → Runs program (gave (linked_source s) callers p' stack slots) b (here (linked_source s) callers p stack slots out)
      (and_then r (λ receiver out. and_then (is out) (λ vs out. call_meaning calls (frame_in s.looks s.tree) m (callee_in (slice_get s.callees reference)) items (receiver ++ vs) out)))
  call_runs m reference items cr ci r is p p' stack slots out has e counts_r counts_i rr ri =
      then_runs_where program (gave (linked_source s) callers (p + length cr) stack slots) (gave (linked_source s) callers p' stack slots) b (here (linked_source s) callers p stack slots out) (λ vs. length vs ≡ receivers m) r _ (rr (has_front (linked_source s).code p cr _ has)) counts_r
      (λ us out many_r. then_runs_where program (gave (linked_source s) callers (p + length cr + length ci) (pushed us stack) slots) (gave (linked_source s) callers p' stack slots) b (here (linked_source s) callers (p + length cr) (pushed us stack) slots out) (λ vs. length vs ≡ item_count items) (is out) _ (ri (p + length cr) (pushed us stack) out (has_front (linked_source s).code (p + length cr) ci _ h)) (counts_i out)
      (λ vs out many. subst (λ st. Runs program (gave (linked_source s) callers p' stack slots) b (here (linked_source s) callers (p + length cr + length ci) st slots out) (call_meaning calls (frame_in s.looks s.tree) m (callee_in (slice_get s.callees reference)) items (us ++ vs) out)) (sym (pushed_behind us vs stack))
      (end_runs m reference items (us ++ vs) (p + length cr + length ci) p' stack slots out (has_back (linked_source s).code (p + length cr) ci _ h) ends (omega (arith, many, many_r, length-append us vs)))))
    where
      h : HasAt (linked_source s).code (p + length cr) (ci ++ call_end (frame_in s.looks s.tree) m reference items)
      h = has_back (linked_source s).code p cr _ has

      ends : p + length cr + length ci + length (call_end (frame_in s.looks s.tree) m reference items) ≡ p'
      ends = omega (arith, e, length-append cr (ci ++ call_end (frame_in s.looks s.tree) m reference items), length-append ci (call_end (frame_in s.looks s.tree) m reference items))

  items_both : (ce cs : List Instruction) (o : Outcome (List Value)) (is : List ℕ → Outcome (List Value)) (p p' : ℕ) (stack slots : List ℤ) (out : List ℕ) → HasAt (linked_source s).code p (ce ++ cs) → p + length (ce ++ cs) ≡ p'
      → (HasAt (linked_source s).code p ce → Runs program (gave (linked_source s) callers (p + length ce) stack slots) b (here (linked_source s) callers p stack slots out) o)
      → ((q q' : ℕ) (stack : List ℤ) (out : List ℕ) → HasAt (linked_source s).code q cs → q + length cs ≡ q' → Runs program (gave (linked_source s) callers q' stack slots) b (here (linked_source s) callers q stack slots out) (is out))
      → Runs program (gave (linked_source s) callers p' stack slots) b (here (linked_source s) callers p stack slots out) (with_one o (λ v out. and_then (is out) (λ vs out. Done (v ∷ vs) out)))
  items_both ce cs o is p p' stack slots out has e ro ri =
      let ends : p + length ce + length cs ≡ p' = omega (arith, length-append ce cs) in
      with_one_runs program (linked_source s) callers (gave (linked_source s) callers p' stack slots) b (here (linked_source s) callers p stack slots out) (p + length ce) stack slots o _ (ro (has_front (linked_source s).code p ce _ has))
      (λ v out. then_runs program (gave (linked_source s) callers p' (word v ∷ stack) slots) (gave (linked_source s) callers p' stack slots) b (here (linked_source s) callers (p + length ce) (word v ∷ stack) slots out) (is out) _ (ri (p + length ce) p' (word v ∷ stack) out (has_back (linked_source s).code p ce _ has) ends)
      (λ vs out. stays program _))

  mutual
    pub expr_runs : (e : ExprTree) (p p' : ℕ) (stack : List ℤ) (values : Variables) (out : List ℕ) → HasAt (linked_source s).code p (expr_code (frame_in s.looks s.tree) e) → p + length (expr_code (frame_in s.looks s.tree) e) ≡ p' → Runs program (gave (linked_source s) callers p' stack (cells values)) b (here (linked_source s) callers p stack (cells values) out) (expr_meaning (scene_of calls s) e values out)
    expr_runs (Integer n s') p p' stack values out has e = constant_runs program (linked_source s) callers b (folded s.looks (Integer n s')) [] Nonsense p p' stack (cells values) out has e (λ has e. tt)
    expr_runs (Text t) p p' stack values out has e = tt
    expr_runs (Literal n first items last) p p' stack values out has e = tt
    expr_runs (StructLiteral t first items last) p p' stack values out has e = tt
    expr_runs (Named x) p p' stack values out has e = name_runs program (linked_source s) callers b (frame_in s.looks s.tree).slots (s.looks.meaning x.span.start) p p' stack values out has e
    expr_runs (Paren first t last) p p' stack values out has e = expr_runs t p p' stack values out has e
    expr_runs (Unary op s' t) p p' stack values out has e =
        constant_runs program (linked_source s) callers b (folded s.looks (Unary op s' t)) _ _ p p' stack (cells values) out has e
        (λ has e. unary_runs program (linked_source s) callers b op (expr_code (frame_in s.looks s.tree) t) (expr_meaning (scene_of calls s) t values out) p p' stack (cells values) out has e
        (expr_runs t p (p + length (expr_code (frame_in s.looks s.tree) t)) stack values out (has_front (linked_source s).code p (expr_code (frame_in s.looks s.tree) t) _ has) refl))
    expr_runs (Binary x op s' y) p p' stack values out has e =
        constant_runs program (linked_source s) callers b (folded s.looks (Binary x op s' y)) _ _ p p' stack (cells values) out has e
        (λ has e. binary_runs op (expr_code (frame_in s.looks s.tree) x) (expr_code (frame_in s.looks s.tree) y) (expr_meaning (scene_of calls s) x values out) (expr_meaning (scene_of calls s) y values) p p' stack (cells values) out has e
        (λ has. expr_runs x p (p + length (expr_code (frame_in s.looks s.tree) x)) stack values out has refl)
        (λ q stack out has. expr_runs y q (q + length (expr_code (frame_in s.looks s.tree) y)) stack values out has refl))
    expr_runs (Select t dot x) p p' stack values out has e = name_runs program (linked_source s) callers b (frame_in s.looks s.tree).slots (s.looks.meaning x.span.start) p p' stack values out has e
    expr_runs (Call t first items last) p p' stack values out has e =
        constant_runs program (linked_source s) callers b (folded s.looks (Call t first items last)) _ _ p p' stack (cells values) out has e
        (λ has e.
        call_runs (callee_meaning s.looks t) (s.looks.reference first.start) items (receiver_code (frame_in s.looks s.tree) t) (items_code (frame_in s.looks s.tree) items) (receiver_meaning (scene_of calls s) t values out) (items_meaning (scene_of calls s) items values) p p' stack (cells values) out has e
        (receiver_counts (scene_of calls s) t values out)
        (λ out. items_count (scene_of calls s) items values out)
        (λ has. receiver_runs t p (p + length (receiver_code (frame_in s.looks s.tree) t)) stack values out has refl)
        (λ q stack out has. items_runs items q (q + length (items_code (frame_in s.looks s.tree) items)) stack values out has refl))

    receiver_runs : (e : ExprTree) (p p' : ℕ) (stack : List ℤ) (values : Variables) (out : List ℕ) → HasAt (linked_source s).code p (receiver_code (frame_in s.looks s.tree) e) → p + length (receiver_code (frame_in s.looks s.tree) e) ≡ p' → Runs program (gave (linked_source s) callers p' stack (cells values)) b (here (linked_source s) callers p stack (cells values) out) (receiver_meaning (scene_of calls s) e values out)
    receiver_runs (Select t dot x) p p' stack values out has e =
        receiver_choice (means_method (s.looks.meaning x.span.start)) (expr_code (frame_in s.looks s.tree) t) (expr_meaning (scene_of calls s) t values out) p p' stack (cells values) out has e
        (λ has e. expr_runs t p p' stack values out has e)
    receiver_runs (Paren first t last) p p' stack values out has e = receiver_runs t p p' stack values out has e
    receiver_runs (Integer n s') p p' stack values out has e = nothing_runs false p p' stack (cells values) out e
    receiver_runs (Text t) p p' stack values out has e = nothing_runs false p p' stack (cells values) out e
    receiver_runs (Literal n first items last) p p' stack values out has e = nothing_runs false p p' stack (cells values) out e
    receiver_runs (StructLiteral t first items last) p p' stack values out has e = nothing_runs false p p' stack (cells values) out e
    receiver_runs (Named x) p p' stack values out has e = nothing_runs (means_method (s.looks.meaning x.span.start)) p p' stack (cells values) out e
    receiver_runs (Unary op s' t) p p' stack values out has e = nothing_runs false p p' stack (cells values) out e
    receiver_runs (Binary x op s' y) p p' stack values out has e = nothing_runs false p p' stack (cells values) out e
    receiver_runs (Call t first items last) p p' stack values out has e = nothing_runs false p p' stack (cells values) out e

    items_runs : (items : ItemTrees) (p p' : ℕ) (stack : List ℤ) (values : Variables) (out : List ℕ) → HasAt (linked_source s).code p (items_code (frame_in s.looks s.tree) items) → p + length (items_code (frame_in s.looks s.tree) items) ≡ p' → Runs program (gave (linked_source s) callers p' stack (cells values)) b (here (linked_source s) callers p stack (cells values) out) (items_meaning (scene_of calls s) items values out)
    items_runs NoItems p p' stack values out has e = nothing_runs false p p' stack (cells values) out e
    items_runs (Item key t comma rest) p p' stack values out has e =
        items_both (expr_code (frame_in s.looks s.tree) t) (items_code (frame_in s.looks s.tree) rest) (expr_meaning (scene_of calls s) t values out) (items_meaning (scene_of calls s) rest values) p p' stack (cells values) out has e
        (λ has. expr_runs t p (p + length (expr_code (frame_in s.looks s.tree) t)) stack values out has refl)
        (λ q q' stack out has e. items_runs rest q q' stack values out has e)
