-- The machine follows simple statements and declarations.
use Rattle.std.proofs.Common.{◌≡◌, ℕ, suc, ◌+◌, ◌≤◌, Bool, true, false, List, [], ◌∷◌, ◌++◌, length, ℤ, pos, Option, Some, None, refl, sym, ap, ◌∙◌, subst, arith, length-append, if◌then◌else◌}
use Rattle.std.specs.Prelude.{slice_get, slice_set}
use Rattle.go_object_core.specs.declared.instructions.instruction.Instruction.{Instruction}
use Rattle.go_object_core.specs.declared.instructions.instruction.Instruction.TheVariants as instructions
use Rattle.go_machine_core.specs.Programs.{LinkedOf}
use Rattle.go_machine_core.specs.Words.{bit}
use Rattle.go_machine_core.specs.Machine.{Frame as MachineFrame, Machine, stuck_unless, chosen, left}
use Rattle.go_meaning_laws.specs.source_meaning.Values.{Value, Number, binary_applied, step_binary, update_binary}
use Rattle.go_meaning_laws.specs.source_meaning.Meaning.{Outcome, with_one, if_some, if_yields, Variables, value_of, assigned, zero_value, some_type_word, Calls, gives_one, scene_of, expr_meaning, Flow, falls, assign_to, one_meaning, assign_one, declare_one, update_meaning, let_go, Goal, ToVariable, ToNothing, Elsewhere, meant_goal, goal_of, declared_goal, init_meaning, value_specs_meaning, simple_meaning, some_simple_meaning, initial_meaning, value_spec_meaning, value_lines_meaning, test_meaning, returned}
use Rattle.go_meaning_laws.proofs.SourceMeaningSteps.{Comes, Runs, here, gave, flow_at, HasAt, has_front, has_back, leads_comes, after, then_runs, step_to, step_at, moved, one_runs, with_one_runs, with_truth_runs, flow_runs, word, cells}
use Rattle.go_meaning_laws.proofs.SourceMeaningOperators.{ActsOnTwo, binary_acts, IsOf, step_is, update_is}
use Rattle.go_meaning_laws.proofs.SourceMeaningVariables.{reads, writes}
use Rattle.go_meaning_laws.proofs.SourceMeaningExprs.{Obeys, push_runs, result_runs, fails_runs, expr_runs}
use Rattle.go_tree_nodes.specs.token_core.declared.kind.Operator.{Operator}
use Rattle.go_object_core.specs.declared.instructions.letters.Word.{Word}
use Rattle.go_object_core.specs.declared.instructions.letters.Word.TheVariants as words
use Rattle.go_constant_core.specs.text_core.Text.{is_blank}
use Rattle.go_constant_core.specs.text_core.declared.span.Span.{Span}
use Rattle.go_tree_nodes.specs.declared.names.Ident.{Ident}
use Rattle.go_tree_nodes.specs.declared.decls.ValueKind.{ValueKind}
use Rattle.go_tree_nodes.specs.declared.decls.ValueKind.TheVariants as value_kinds
use Rattle.go_tree_nodes.specs.Trees.{TypeTree, Separated, One, Then, ExprTree, Integer, Text, Named, Paren, Unary, Binary, Select, Call, Literal, StructLiteral, ValueSpecTree, Specs, Single, Group, SimpleTree, Alone, Step, Assign, Update, Define}
use Rattle.go_code_core.specs.declared.fragments.names.Gives.{Gives}
use Rattle.go_code_core.specs.declared.fragments.names.Gives.TheVariants as gives
use Rattle.go_code_core.specs.declared.fragments.names.Meaning.{Meaning}
use Rattle.go_code_core.specs.declared.fragments.names.Meaning.TheVariants as meanings
use Rattle.go_code_core.specs.declared.fragments.targets.Target.{Target}
use Rattle.go_code_core.specs.declared.fragments.targets.Target.TheVariants as targets
use Rattle.go_code_core.specs.fragments.Fragment.{expr_gives}
use Rattle.go_code_core.specs.fragments.Names.{Frame, slot_of, slot_target, meant_target, slot_assigned, declared_slot}
use Rattle.go_code_core.specs.fragments.Operators.{step_operator, update_operator, some_instruction}
use Rattle.go_code_core.specs.Code.{store, dropped, updated, one_code, stored, declared_code, simple_code, some_simple_code, initial_code, init_code, value_spec_code, value_lines_code, value_specs_code, test_code, returned_code, expr_code, frame_in}
use Rattle.go_meaning_laws.specs.source_meaning.Meaning.{SourceOf}
use Rattle.go_meaning_laws.specs.source_meaning.Whole.{linked_source}

abbrev pub store_in : Option ℕ → List Instruction
store_in slot = store (slot_target slot)

abbrev pub updated_in : Option ℕ → List Instruction → Option Instruction → List Instruction
updated_in slot value op = updated (slot_target slot) value op

-- what is assigned to, by its slot
abbrev pub slot_goal : List (Option ℕ) → Goal → Target
slot_goal ds (ToVariable at) = slot_target (slot_of ds at)
slot_goal ds ToNothing = targets.Blank
slot_goal ds Elsewhere = targets.Other

meant_is : (ds : List (Option ℕ)) (m : Meaning) → meant_target ds m ≡ slot_goal ds (meant_goal m)
meant_is ds (meanings.Variable at w) = refl
meant_is ds (meanings.Constant v) = refl
meant_is ds (meanings.Function r) = refl
meant_is ds (meanings.Method r) = refl
meant_is ds (meanings.«Type» w) = refl
meant_is ds meanings.Println = refl
meant_is ds meanings.Panic = refl
meant_is ds meanings.Other = refl

choice_is : (ds : List (Option ℕ)) (t : Target) (g : Goal) → t ≡ slot_goal ds g → (blank : Bool) → (if blank then targets.Blank else t) ≡ slot_goal ds (if blank then ToNothing else g)
choice_is ds t g e true = refl
choice_is ds t g e false = e

pub assigned_is : (f : Frame) (e : ExprTree) → slot_assigned f e ≡ slot_goal f.slots (goal_of f.looks e)
assigned_is f (Named x) = choice_is f.slots (meant_target f.slots (f.looks.meaning x.span.start)) (meant_goal (f.looks.meaning x.span.start)) (meant_is f.slots (f.looks.meaning x.span.start)) (is_blank x.name)
assigned_is f (Paren first e last) = assigned_is f e
assigned_is f (Integer n s) = refl
assigned_is f (Text t) = refl
assigned_is f (Unary op s e) = refl
assigned_is f (Binary a op s b) = refl
assigned_is f (Select e dot x) = refl
assigned_is f (Call e first items last) = refl
assigned_is f (Literal n first items last) = refl
assigned_is f (StructLiteral t first items last) = refl

pub declared_is : (f : Frame) (x : Ident) → declared_slot f x ≡ slot_goal f.slots (declared_goal x)
declared_is f x = choice_is f.slots (slot_target (slot_of f.slots x.span.start)) (ToVariable x.span.start) refl (is_blank x.name)

module _ (program : List LinkedOf) (g : LinkedOf) (callers : List MachineFrame) (b : ℕ) (pb pc : ℕ) where
  -- a value is stored in the slot of its variable
  stored_runs : (ds : List (Option ℕ)) (at : ℕ) (v : Value) (values : Variables) (o : Option Variables) (slot : Option ℕ) (p p' : ℕ) (stack : List ℤ) (out : List ℕ) → assigned ds values at v ≡ o → slot_of ds at ≡ slot → HasAt g.code p (store_in slot) → p + length (store_in slot) ≡ p' → Runs program (flow_at g callers p' pb pc stack) b (here g callers p (word v ∷ stack) (cells values) out) (falls o out)
  stored_runs ds at v values None slot p p' stack out is at_slot has e = tt
  stored_runs ds at v values (Some values') None p p' stack out is at_slot has e = let w = writes ds values 0 at v values' is in absurd (cc (at_slot, w.is_slot))
  stored_runs ds at v values (Some values') (Some m) p p' stack out is at_slot has e =
      let w = writes ds values 0 at v values' is in
      let same : m ≡ 0 + w.slot = cc (at_slot, w.is_slot) in
      let same' : w.slot ≡ m = omega arith in
      let old : slice_get (cells values) m ≡ Some w.old = subst (λ k. slice_get (cells values) k ≡ Some w.old) same' w.has in
      let sets : slice_set (cells values) m (word v) ≡ cells values' = subst (λ k. slice_set (cells values) k (word v) ≡ cells values') same' w.sets in
      step_at program g callers p p' (p + 1) (word v ∷ stack) (cells values) stack (cells values') out out (instructions.Store m) has.0 e
      (ap (λ o. stuck_unless o out (λ old. here g callers (p + 1) stack (slice_set (cells values) m (word v)) out)) old ∙ ap (λ l. here g callers (p + 1) stack l out) sets)

  store_runs : (ds : List (Option ℕ)) (t : Goal) (v : Value) (p p' : ℕ) (stack : List ℤ) (values : Variables) (out : List ℕ) → HasAt g.code p (store (slot_goal ds t)) → p + length (store (slot_goal ds t)) ≡ p' → Runs program (flow_at g callers p' pb pc stack) b (here g callers p (word v ∷ stack) (cells values) out) (assign_to ds t v values out)
  store_runs ds (ToVariable at) v p p' stack values out has e = stored_runs ds at v values (assigned ds values at v) (slot_of ds at) p p' stack out refl refl has e
  store_runs ds ToNothing v p p' stack values out has e = step_at program g callers p p' (p + 1) (word v ∷ stack) (cells values) stack (cells values) out out instructions.Drop has.0 e refl
  store_runs ds Elsewhere v p p' stack values out has e = tt

  -- an operator on the variable's value and another one, and the result stored
  update_in_runs : (ds : List (Option ℕ)) (at : ℕ) (o : Option Value) (slot : Option ℕ) (op : Option Operator) (i : Option Instruction) → IsOf op i → (cv : List Instruction) (value : List ℕ → Outcome (List Value)) (p p' : ℕ) (stack : List ℤ) (values : Variables) (out : List ℕ) → value_of ds values at ≡ o → slot_of ds at ≡ slot → HasAt g.code p (updated_in slot cv i) → p + length (updated_in slot cv i) ≡ p'
      → ((q : ℕ) (stack : List ℤ) → HasAt g.code q cv → Runs program (gave g callers (q + length cv) stack (cells values)) b (here g callers q stack (cells values) out) (value out))
      → Runs program (flow_at g callers p' pb pc stack) b (here g callers p stack (cells values) out) (if_some o (λ x. if_some op (λ op. with_one (value out) (λ y out. if_yields (binary_applied op x y) out (λ v. falls (assigned ds values at v) out)))))
  update_in_runs ds at None slot op i is_of cv value p p' stack values out is at_slot has e k = tt
  update_in_runs ds at (Some x) slot None i is_of cv value p p' stack values out is at_slot has e k = tt
  update_in_runs ds at (Some x) None (Some op) i is_of cv value p p' stack values out is at_slot has e k = let r = reads ds values 0 at x is in absurd (cc (at_slot, r.is_slot))
  update_in_runs ds at (Some x) (Some m) (Some op) i is_of cv value p p' stack values out is at_slot has e k =
      let r = reads ds values 0 at x is in
      let same : m ≡ 0 + r.slot = cc (at_slot, r.is_slot) in
      let same' : r.slot ≡ m = omega arith in
      let old : slice_get (cells values) m ≡ Some (word x) = subst (λ k. slice_get (cells values) k ≡ Some (word x)) same' r.has in
      let ci = some_instruction i in
      let h = has_back g.code (p + 1) cv (ci ++ instructions.Store m ∷ []) has.1 in
      let p1 = p + 1 + length cv in
      let p2 = p1 + length ci in
      let ends : p2 + 1 ≡ p' = omega (arith, length-append cv (ci ++ instructions.Store m ∷ []), length-append ci (instructions.Store m ∷ [])) in
      after program (flow_at g callers p' pb pc stack) b (here g callers p stack (cells values) out) (here g callers (p + 1) (word x ∷ stack) (cells values) out) _
      (leads_comes program _ _ (step_to program g callers p stack (cells values) out (instructions.Load m) (here g callers (p + 1) (word x ∷ stack) (cells values) out) has.0 (ap (λ o. stuck_unless o out (λ x. here g callers (p + 1) (x ∷ stack) (cells values) out)) old)))
      (with_one_runs program g callers (flow_at g callers p' pb pc stack) b (here g callers (p + 1) (word x ∷ stack) (cells values) out) p1 (word x ∷ stack) (cells values) (value out) _ (k (p + 1) (word x ∷ stack) (has_front g.code (p + 1) cv _ has.1))
      (λ y out. result_runs program g callers b (flow_at g callers p' pb pc stack) (binary_applied op x y) i (word x) (word y) (subst (λ i. ActsOnTwo (binary_applied op x y) i (word x) (word y)) (sym is_of) (binary_acts op x y)) p1 p2 stack (cells values) out (has_front g.code p1 ci _ h) refl _
      (λ v. stored_runs ds at v values (assigned ds values at v) (Some m) p2 p' stack out refl at_slot (has_back g.code p1 ci (instructions.Store m ∷ []) h) ends)))

  update_runs : (ds : List (Option ℕ)) (t : Goal) (op : Option Operator) (i : Option Instruction) → IsOf op i → (cv : List Instruction) (value : List ℕ → Outcome (List Value)) (p p' : ℕ) (stack : List ℤ) (values : Variables) (out : List ℕ) → HasAt g.code p (updated (slot_goal ds t) cv i) → p + length (updated (slot_goal ds t) cv i) ≡ p'
      → ((q : ℕ) (stack : List ℤ) → HasAt g.code q cv → Runs program (gave g callers (q + length cv) stack (cells values)) b (here g callers q stack (cells values) out) (value out))
      → Runs program (flow_at g callers p' pb pc stack) b (here g callers p stack (cells values) out) (update_meaning ds t op value values out)
  update_runs ds (ToVariable at) op i is_of cv value p p' stack values out has e k = update_in_runs ds at (value_of ds values at) (slot_of ds at) op i is_of cv value p p' stack values out refl refl has e k
  update_runs ds ToNothing op i is_of cv value p p' stack values out has e k = tt
  update_runs ds Elsewhere op i is_of cv value p p' stack values out has e k = tt

  let_go_runs : (r : Gives) (vs : List Value) (p p' : ℕ) (stack : List ℤ) (values : Variables) (out : List ℕ) → HasAt g.code p (dropped r) → p + length (dropped r) ≡ p' → Runs program (flow_at g callers p' pb pc stack) b (gave g callers p stack (cells values) vs out) (let_go r vs values out)
  let_go_runs (gives.One w) vs p p' stack values out has e = one_runs program g callers (flow_at g callers p' pb pc stack) b p stack (cells values) vs out _ (λ v. step_at program g callers p p' (p + 1) (word v ∷ stack) (cells values) stack (cells values) out out instructions.Drop has.0 e refl)
  let_go_runs gives.Nothing [] p p' stack values out has e = let ends : p ≡ p' = omega arith in moved program g callers p p' stack (cells values) out ends
  let_go_runs gives.Nothing (v ∷ vs) p p' stack values out has e = tt
  let_go_runs gives.Other vs p p' stack values out has e = tt

  -- nothing is done
  pub skip_runs : (p p' : ℕ) (stack : List ℤ) (values : Variables) (out : List ℕ) → p + 0 ≡ p' → Comes program (here g callers p stack (cells values) out) (here g callers p' stack (cells values) out)
  skip_runs p p' stack values out e = let ends : p ≡ p' = omega arith in moved program g callers p p' stack (cells values) out ends

module _ (program : List LinkedOf) (s : SourceOf) (calls : Calls) (callers : List MachineFrame) (b below : ℕ) (room : b ≤ suc below) (obeys : Obeys program below calls) where
  one_expr_runs : (es : Separated ExprTree) (p p' : ℕ) (stack : List ℤ) (values : Variables) (out : List ℕ) → HasAt (linked_source s).code p (one_code (frame_in s.looks s.tree) es) → p + length (one_code (frame_in s.looks s.tree) es) ≡ p' → Runs program (gave (linked_source s) callers p' stack (cells values)) b (here (linked_source s) callers p stack (cells values) out) (one_meaning (scene_of calls s) es values out)
  one_expr_runs (One e) p p' stack values out has len = expr_runs program s calls callers b below room obeys e p p' stack values out has len
  one_expr_runs (Then e comma more) p p' stack values out has len = tt

  assign_runs : (pb pc : ℕ) (ts : Separated ExprTree) (v : Value) (p p' : ℕ) (stack : List ℤ) (values : Variables) (out : List ℕ) → HasAt (linked_source s).code p (stored (frame_in s.looks s.tree) ts) → p + length (stored (frame_in s.looks s.tree) ts) ≡ p' → Runs program (flow_at (linked_source s) callers p' pb pc stack) b (here (linked_source s) callers p (word v ∷ stack) (cells values) out) (assign_one (scene_of calls s) ts v values out)
  assign_runs pb pc (One e) v p p' stack values out has len =
      let is = assigned_is (frame_in s.looks s.tree) e in
      store_runs program (linked_source s) callers b pb pc (frame_in s.looks s.tree).slots (goal_of s.looks e) v p p' stack values out (subst (λ (t : Target). HasAt (linked_source s).code p (store t)) is has) (subst (λ (t : Target). p + length (store t) ≡ p') is len)
  assign_runs pb pc (Then e comma more) v p p' stack values out has len = tt

  declare_runs : (pb pc : ℕ) (xs : Separated Ident) (v : Value) (p p' : ℕ) (stack : List ℤ) (values : Variables) (out : List ℕ) → HasAt (linked_source s).code p (declared_code (frame_in s.looks s.tree) xs) → p + length (declared_code (frame_in s.looks s.tree) xs) ≡ p' → Runs program (flow_at (linked_source s) callers p' pb pc stack) b (here (linked_source s) callers p (word v ∷ stack) (cells values) out) (declare_one (scene_of calls s) xs v values out)
  declare_runs pb pc (One x) v p p' stack values out has len =
      let is = declared_is (frame_in s.looks s.tree) x in
      store_runs program (linked_source s) callers b pb pc (frame_in s.looks s.tree).slots (declared_goal x) v p p' stack values out (subst (λ (t : Target). HasAt (linked_source s).code p (store t)) is has) (subst (λ (t : Target). p + length (store t) ≡ p') is len)
  declare_runs pb pc (Then x comma more) v p p' stack values out has len = tt

  -- a value, and code that takes it
  taken_runs : (pb pc : ℕ) (cv ct : List Instruction) (o : Outcome (List Value)) (go : Value → List ℕ → Outcome Flow) (p p' : ℕ) (stack : List ℤ) (values : Variables) (out : List ℕ) → HasAt (linked_source s).code p (cv ++ ct) → p + length (cv ++ ct) ≡ p'
      → (HasAt (linked_source s).code p cv → Runs program (gave (linked_source s) callers (p + length cv) stack (cells values)) b (here (linked_source s) callers p stack (cells values) out) o)
      → ((q : ℕ) (v : Value) (out : List ℕ) → HasAt (linked_source s).code q ct → q + length ct ≡ p' → Runs program (flow_at (linked_source s) callers p' pb pc stack) b (here (linked_source s) callers q (word v ∷ stack) (cells values) out) (go v out))
      → Runs program (flow_at (linked_source s) callers p' pb pc stack) b (here (linked_source s) callers p stack (cells values) out) (with_one o go)
  taken_runs pb pc cv ct o go p p' stack values out has len ro rt =
      let ends : p + length cv + length ct ≡ p' = omega (arith, length-append cv ct) in
      with_one_runs program (linked_source s) callers (flow_at (linked_source s) callers p' pb pc stack) b (here (linked_source s) callers p stack (cells values) out) (p + length cv) stack (cells values) o go (ro (has_front (linked_source s).code p cv ct has))
      (λ v out. rt (p + length cv) v out (has_back (linked_source s).code p cv ct has) ends)

  pub simple_runs : (pb pc : ℕ) (t : SimpleTree) (p p' : ℕ) (stack : List ℤ) (values : Variables) (out : List ℕ) → HasAt (linked_source s).code p (simple_code (frame_in s.looks s.tree) t) → p + length (simple_code (frame_in s.looks s.tree) t) ≡ p' → Runs program (flow_at (linked_source s) callers p' pb pc stack) b (here (linked_source s) callers p stack (cells values) out) (simple_meaning (scene_of calls s) t values out)
  simple_runs pb pc (Alone e) p p' stack values out has len =
      let ce = expr_code (frame_in s.looks s.tree) e in
      let cd = dropped (expr_gives (frame_in s.looks s.tree) e) in
      let ends : p + length ce + length cd ≡ p' = omega (arith, length-append ce cd) in
      then_runs program (gave (linked_source s) callers (p + length ce) stack (cells values)) (flow_at (linked_source s) callers p' pb pc stack) b (here (linked_source s) callers p stack (cells values) out) (expr_meaning (scene_of calls s) e values out) _
      (expr_runs program s calls callers b below room obeys e p (p + length ce) stack values out (has_front (linked_source s).code p ce cd has) refl)
      (λ vs out. let_go_runs program (linked_source s) callers b pb pc (expr_gives (frame_in s.looks s.tree) e) vs (p + length ce) p' stack values out (has_back (linked_source s).code p ce cd has) ends)
  simple_runs pb pc (Step e op s') p p' stack values out has len =
      let is = assigned_is (frame_in s.looks s.tree) e in
      update_runs program (linked_source s) callers b pb pc (frame_in s.looks s.tree).slots (goal_of s.looks e) (step_binary op) (step_operator op) (step_is op) (instructions.Push (pos 1) ∷ []) (λ out. gives_one (Number (pos 1)) out) p p' stack values out
      (subst (λ (t : Target). HasAt (linked_source s).code p (updated t (instructions.Push (pos 1) ∷ []) (step_operator op))) is has) (subst (λ (t : Target). p + length (updated t (instructions.Push (pos 1) ∷ []) (step_operator op)) ≡ p') is len)
      (λ q stack has. step_at program (linked_source s) callers q (q + 1) (q + 1) stack (cells values) (pos 1 ∷ stack) (cells values) out out (instructions.Push (pos 1)) has.0 refl refl)
  simple_runs pb pc (Assign ts s' es) p p' stack values out has len =
      taken_runs pb pc (one_code (frame_in s.looks s.tree) es) (stored (frame_in s.looks s.tree) ts) (one_meaning (scene_of calls s) es values out) _ p p' stack values out has len
      (λ has. one_expr_runs es p (p + length (one_code (frame_in s.looks s.tree) es)) stack values out has refl)
      (λ q v out has len. assign_runs pb pc ts v q p' stack values out has len)
  simple_runs pb pc (Update t op s' e) p p' stack values out has len =
      update_runs program (linked_source s) callers b pb pc (frame_in s.looks s.tree).slots (goal_of s.looks t) (update_binary op) (update_operator op) (update_is op) (expr_code (frame_in s.looks s.tree) e) (expr_meaning (scene_of calls s) e values) p p' stack values out
      (subst (λ (g : Target). HasAt (linked_source s).code p (updated g (expr_code (frame_in s.looks s.tree) e) (update_operator op))) (assigned_is (frame_in s.looks s.tree) t) has) (subst (λ (g : Target). p + length (updated g (expr_code (frame_in s.looks s.tree) e) (update_operator op)) ≡ p') (assigned_is (frame_in s.looks s.tree) t) len)
      (λ q stack has. expr_runs program s calls callers b below room obeys e q (q + length (expr_code (frame_in s.looks s.tree) e)) stack values out has refl)
  simple_runs pb pc (Define xs s' es) p p' stack values out has len =
      taken_runs pb pc (one_code (frame_in s.looks s.tree) es) (declared_code (frame_in s.looks s.tree) xs) (one_meaning (scene_of calls s) es values out) _ p p' stack values out has len
      (λ has. one_expr_runs es p (p + length (one_code (frame_in s.looks s.tree) es)) stack values out has refl)
      (λ q v out has len. declare_runs pb pc xs v q p' stack values out has len)

  pub some_simple_runs : (pb pc : ℕ) (t : Option SimpleTree) (p p' : ℕ) (stack : List ℤ) (values : Variables) (out : List ℕ) → HasAt (linked_source s).code p (some_simple_code (frame_in s.looks s.tree) t) → p + length (some_simple_code (frame_in s.looks s.tree) t) ≡ p' → Runs program (flow_at (linked_source s) callers p' pb pc stack) b (here (linked_source s) callers p stack (cells values) out) (some_simple_meaning (scene_of calls s) t values out)
  some_simple_runs pb pc None p p' stack values out has len = skip_runs program (linked_source s) callers b pb pc p p' stack values out len
  some_simple_runs pb pc (Some t) p p' stack values out has len = simple_runs pb pc t p p' stack values out has len

  zero_runs : (o : Option Word) (p p' : ℕ) (stack : List ℤ) (values : Variables) (out : List ℕ) → HasAt (linked_source s).code p (instructions.Push (pos 0) ∷ []) → p + 1 ≡ p' → Runs program (gave (linked_source s) callers p' stack (cells values)) b (here (linked_source s) callers p stack (cells values) out) (if_some o (λ w. gives_one (zero_value w) out))
  zero_runs None p p' stack values out has len = tt
  zero_runs (Some words.Int) p p' stack values out has len = push_runs program (linked_source s) callers b (pos 0) p p' stack (cells values) out has len
  zero_runs (Some words.Bool) p p' stack values out has len = push_runs program (linked_source s) callers b (pos 0) p p' stack (cells values) out has len

  initial_runs : (t : Option TypeTree) (vs : Option (Span × Separated ExprTree)) (p p' : ℕ) (stack : List ℤ) (values : Variables) (out : List ℕ) → HasAt (linked_source s).code p (initial_code (frame_in s.looks s.tree) vs) → p + length (initial_code (frame_in s.looks s.tree) vs) ≡ p' → Runs program (gave (linked_source s) callers p' stack (cells values)) b (here (linked_source s) callers p stack (cells values) out) (initial_meaning (scene_of calls s) t vs values out)
  initial_runs t None p p' stack values out has len = zero_runs (some_type_word s.looks t) p p' stack values out has len
  initial_runs t (Some v) p p' stack values out has len = one_expr_runs v.1 p p' stack values out has len

  value_spec_runs : (pb pc : ℕ) (kind : ValueKind) (v : ValueSpecTree) (p p' : ℕ) (stack : List ℤ) (values : Variables) (out : List ℕ) → HasAt (linked_source s).code p (value_spec_code (frame_in s.looks s.tree) kind v) → p + length (value_spec_code (frame_in s.looks s.tree) kind v) ≡ p' → Runs program (flow_at (linked_source s) callers p' pb pc stack) b (here (linked_source s) callers p stack (cells values) out) (value_spec_meaning (scene_of calls s) kind v values out)
  value_spec_runs pb pc value_kinds.Const v p p' stack values out has len = skip_runs program (linked_source s) callers b pb pc p p' stack values out len
  value_spec_runs pb pc value_kinds.Var v p p' stack values out has len =
      taken_runs pb pc (initial_code (frame_in s.looks s.tree) v.values) (declared_code (frame_in s.looks s.tree) v.names) (initial_meaning (scene_of calls s) v.type_expr v.values values out) _ p p' stack values out has len
      (λ has. initial_runs v.type_expr v.values p (p + length (initial_code (frame_in s.looks s.tree) v.values)) stack values out has refl)
      (λ q x out has len. declare_runs pb pc v.names x q p' stack values out has len)

  pub value_lines_runs : (pb pc : ℕ) (kind : ValueKind) (vs : List (ValueSpecTree × Option Span)) (p p' : ℕ) (stack : List ℤ) (values : Variables) (out : List ℕ) → HasAt (linked_source s).code p (value_lines_code (frame_in s.looks s.tree) kind vs) → p + length (value_lines_code (frame_in s.looks s.tree) kind vs) ≡ p' → Runs program (flow_at (linked_source s) callers p' pb pc stack) b (here (linked_source s) callers p stack (cells values) out) (value_lines_meaning (scene_of calls s) kind vs values out)
  value_lines_runs pb pc kind [] p p' stack values out has len = skip_runs program (linked_source s) callers b pb pc p p' stack values out len
  value_lines_runs pb pc kind (l ∷ vs) p p' stack values out has len =
      let cv = value_spec_code (frame_in s.looks s.tree) kind l.0 in
      let cs = value_lines_code (frame_in s.looks s.tree) kind vs in
      let ends : p + length cv + length cs ≡ p' = omega (arith, length-append cv cs) in
      flow_runs program (linked_source s) callers b (p + length cv) p' pb pc stack (here (linked_source s) callers p stack (cells values) out) (value_spec_meaning (scene_of calls s) kind l.0 values out) (value_lines_meaning (scene_of calls s) kind vs)
      (value_spec_runs pb pc kind l.0 p (p + length cv) stack values out (has_front (linked_source s).code p cv cs has) refl)
      (λ values out. value_lines_runs pb pc kind vs (p + length cv) p' stack values out (has_back (linked_source s).code p cv cs has) ends)

  pub value_specs_runs : (pb pc : ℕ) (kind : ValueKind) (vs : Specs ValueSpecTree) (p p' : ℕ) (stack : List ℤ) (values : Variables) (out : List ℕ) → HasAt (linked_source s).code p (value_specs_code (frame_in s.looks s.tree) kind vs) → p + length (value_specs_code (frame_in s.looks s.tree) kind vs) ≡ p' → Runs program (flow_at (linked_source s) callers p' pb pc stack) b (here (linked_source s) callers p stack (cells values) out) (value_specs_meaning (scene_of calls s) kind vs values out)
  value_specs_runs pb pc kind (Single v) p p' stack values out has len = value_spec_runs pb pc kind v p p' stack values out has len
  value_specs_runs pb pc kind (Group first ls last) p p' stack values out has len = value_lines_runs pb pc kind ls p p' stack values out has len

  pub init_runs : (pb pc : ℕ) (t : Option (Option SimpleTree × Span)) (p p' : ℕ) (stack : List ℤ) (values : Variables) (out : List ℕ) → HasAt (linked_source s).code p (init_code (frame_in s.looks s.tree) t) → p + length (init_code (frame_in s.looks s.tree) t) ≡ p' → Runs program (flow_at (linked_source s) callers p' pb pc stack) b (here (linked_source s) callers p stack (cells values) out) (init_meaning (scene_of calls s) t values out)
  init_runs pb pc None p p' stack values out has len = skip_runs program (linked_source s) callers b pb pc p p' stack values out len
  init_runs pb pc (Some t) p p' stack values out has len = some_simple_runs pb pc t.0 p p' stack values out has len

  -- a test leads over what is behind it where it fails
  abbrev pub tested : ℕ → ℕ → List ℤ → Variables → Bool → List ℕ → Machine
  tested p n stack values holds out = here (linked_source s) callers (chosen holds n p) stack (cells values) out

  pub test_runs : (n : ℕ) (t : Option ExprTree) (p p' : ℕ) (stack : List ℤ) (values : Variables) (out : List ℕ) → HasAt (linked_source s).code p (test_code (frame_in s.looks s.tree) t n) → p + length (test_code (frame_in s.looks s.tree) t n) ≡ p' → Runs program (tested p' n stack values) b (here (linked_source s) callers p stack (cells values) out) (test_meaning (scene_of calls s) t values out)
  test_runs n None p p' stack values out has len = let ends : p ≡ p' = omega arith in moved program (linked_source s) callers p p' stack (cells values) out ends
  test_runs n (Some e) p p' stack values out has len =
      let ce = expr_code (frame_in s.looks s.tree) e in
      let h = has_back (linked_source s).code p ce (instructions.JumpFalse n ∷ []) has in
      let ends : p + length ce + 1 ≡ p' = omega (arith, length-append ce (instructions.JumpFalse n ∷ [])) in
      with_truth_runs program (linked_source s) callers (tested p' n stack values) b (here (linked_source s) callers p stack (cells values) out) (p + length ce) stack (cells values) (expr_meaning (scene_of calls s) e values out) _
      (expr_runs program s calls callers b below room obeys e p (p + length ce) stack values out (has_front (linked_source s).code p ce _ has) refl)
      (λ t out. subst (λ q. Comes program (here (linked_source s) callers (p + length ce) (bit t ∷ stack) (cells values) out) (tested q n stack values t out)) ends (fails_runs program (linked_source s) callers b n t (p + length ce) stack (cells values) out (h.0, tt)))

  pub returned_runs : (pb pc : ℕ) (es : Option (Separated ExprTree)) (p p' : ℕ) (stack : List ℤ) (values : Variables) (out : List ℕ) → HasAt (linked_source s).code p (returned_code (frame_in s.looks s.tree) es) → Runs program (flow_at (linked_source s) callers p' pb pc stack) b (here (linked_source s) callers p stack (cells values) out) (returned (scene_of calls s) es values out)
  returned_runs pb pc None p p' stack values out has = leads_comes program _ _ (step_to program (linked_source s) callers p stack (cells values) out (instructions.Return false) (left callers [] out) has.0 refl)
  returned_runs pb pc (Some es) p p' stack values out has =
      let ce = one_code (frame_in s.looks s.tree) es in
      let h = has_back (linked_source s).code p ce (instructions.Return true ∷ []) has in
      with_one_runs program (linked_source s) callers (flow_at (linked_source s) callers p' pb pc stack) b (here (linked_source s) callers p stack (cells values) out) (p + length ce) stack (cells values) (one_meaning (scene_of calls s) es values out) _
      (one_expr_runs es p (p + length ce) stack values out (has_front (linked_source s).code p ce _ has) refl)
      (λ v out. leads_comes program _ _ (step_to program (linked_source s) callers (p + length ce) (word v ∷ stack) (cells values) out (instructions.Return true) (left callers (word v ∷ []) out) h.0 refl))
