-- How the machine gets from one state to another, and how outcomes follow one another.
use Rattle.std.proofs.Common.{◌≡◌, ℕ, suc, ◌+◌, ◌<◌, ◌≤◌, List, [], ◌∷◌, ◌++◌, length, map, Bool, ℤ, pos, Option, Some, None, refl, ap, ◌∙◌, subst, arith, append_assoc, length-append}
use Rattle.std.specs.Prelude.{slice_get}
use Rattle.go_object_core.specs.declared.instructions.instruction.Instruction.{Instruction}
use Rattle.go_machine_core.specs.Programs.{LinkedOf}
use Rattle.go_machine_core.specs.Words.{bit}
use Rattle.go_machine_core.specs.Machine.{Frame, Panicked as PanickedRun, Spent, Machine, At, Over, act, run_from, left}
use Rattle.go_meaning_laws.specs.source_meaning.Values.{Value, Number, Truth}
use Rattle.go_meaning_laws.specs.source_meaning.Meaning.{Outcome, Done, Panicked, Unfinished, Nonsense, and_then, just_one, with_one, just_truth, with_truth, Variables, Flow, Falls, Breaks, Continues, Returns, flow_on, then_do}

-- the machine comes from one state to another, in some steps or none
pub record Comes (program : List LinkedOf) (c c' : Machine) : Type 0 where
  pub by : (k : ℕ) → (j : ℕ) × (k ≤ j) × (run_from program j c ≡ run_from program k c')

-- the same in one step or more
pub record Leads (program : List LinkedOf) (c c' : Machine) : Type 0 where
  pub by : (k : ℕ) → (j : ℕ) × (k < j) × (run_from program j c ≡ run_from program k c')

-- from a state the machine does what an outcome says: it comes to where the outcome's value is, or it panics, or it makes at least so many steps up to
-- the same output
abbrev pub Runs : {A : Type 0} → List LinkedOf → (A → List ℕ → Machine) → ℕ → Machine → Outcome A → Type 0
Runs program at b c (Done a out) = Comes program c (at a out)
Runs program at b c (Panicked value out) = Comes program c (Over (PanickedRun value out))
Runs program at b c (Unfinished out) = (j : ℕ) × (b ≤ j) × (run_from program j c ≡ Spent out)
Runs program at b c Nonsense = Unit {0}

-- the running function g at a place, with operands and slots
abbrev pub here : LinkedOf → List Frame → ℕ → List ℤ → List ℤ → List ℕ → Machine
here g callers p stack slots out = At (record { function = g; place = p; stack = stack; slots = slots }) callers out

-- the word that a value is
abbrev pub word : Value → ℤ
word (Number x) = x
word (Truth b) = bit b

abbrev pub words_of : List Value → List ℤ
words_of vs = map word vs

-- the word in the slot of a variable: 0 before its declaration is done
abbrev pub cell : Option Value → ℤ
cell None = pos 0
cell (Some v) = word v

abbrev pub cells : Variables → List ℤ
cells values = map cell values

abbrev pub pushed : List Value → List ℤ → List ℤ
pushed [] stack = stack
pushed (v ∷ vs) stack = pushed vs (word v ∷ stack)

-- the same with some values on the stack
abbrev pub gave : LinkedOf → List Frame → ℕ → List ℤ → List ℤ → List Value → List ℕ → Machine
gave g callers p stack slots vs out = here g callers p (pushed vs stack) slots out

-- the running function is left with some values
abbrev pub left_with : List Frame → List Value → List ℕ → Machine
left_with callers vs out = left callers (words_of vs) out

-- where a flow leads
abbrev pub flow_at : LinkedOf → List Frame → ℕ → ℕ → ℕ → List ℤ → Flow → List ℕ → Machine
flow_at g callers p pb pc stack (Falls values) out = here g callers p stack (cells values) out
flow_at g callers p pb pc stack (Breaks values) out = here g callers pb stack (cells values) out
flow_at g callers p pb pc stack (Continues values) out = here g callers pc stack (cells values) out
flow_at g callers p pb pc stack (Returns vs) out = left_with callers vs out

-- instructions that stand in code at a place

abbrev pub HasAt : List Instruction → ℕ → List Instruction → Type 0
HasAt code p [] = Unit {0}
HasAt code p (i ∷ is) = (slice_get code p ≡ Some i) × HasAt code (p + 1) is

pub has_front : (code : List Instruction) (p : ℕ) (a b : List Instruction) → HasAt code p (a ++ b) → HasAt code p a
has_front code p [] b h = tt
has_front code p (i ∷ a) b h = (h.0, has_front code (p + 1) a b h.1)

pub has_back : (code : List Instruction) (p : ℕ) (a b : List Instruction) → HasAt code p (a ++ b) → HasAt code (p + length a) b
has_back code p [] b h = let e : p ≡ p + 0 = omega arith in subst (λ n. HasAt code n b) e h
has_back code p (i ∷ a) b h =
    let e : p + 1 + length a ≡ p + length (i ∷ a) = omega arith in
    subst (λ n. HasAt code n b) e (has_back code (p + 1) a b h.1)

slice_get_front : (pre is : List Instruction) (i : Instruction) → slice_get (pre ++ i ∷ is) (length pre) ≡ Some i
slice_get_front [] is i = refl
slice_get_front (j ∷ pre) is i = slice_get_front pre is i

pub has_all : (is pre : List Instruction) → HasAt (pre ++ is) (length pre) is
has_all [] pre = tt
has_all (i ∷ is) pre =
    let n : length (pre ++ i ∷ []) ≡ length pre + 1 = omega (arith, length-append pre (i ∷ [])) in
    let rest = has_all is (pre ++ i ∷ []) in
    let rest' = subst (λ l. HasAt l (length (pre ++ i ∷ [])) is) (append_assoc pre (i ∷ []) is) rest in
    (slice_get_front pre is i, subst (λ m. HasAt (pre ++ i ∷ is) m is) n rest')

module _ (program : List LinkedOf) where
  pub stays : (c : Machine) → Comes program c c
  stays c = record { by = λ k. (k, omega arith, refl) }

  pub leads_comes : (c c' : Machine) → Leads program c c' → Comes program c c'
  leads_comes c c' l = record { by = λ k. let a = l.by k in (a.0, omega (arith, a.1), a.2) }

  pub comes_on : (c c1 c2 : Machine) → Comes program c c1 → Comes program c1 c2 → Comes program c c2
  comes_on c c1 c2 l m = record { by = λ k. let b = m.by k in let a = l.by b.0 in (a.0, omega (arith, a.1, b.1), a.2 ∙ b.2) }

  pub after : {A : Type 0} (at : A → List ℕ → Machine) (b : ℕ) (c c1 : Machine) (o : Outcome A) → Comes program c c1 → Runs program at b c1 o → Runs program at b c o
  after at b c c1 (Done a out) l r = comes_on c c1 (at a out) l r
  after at b c c1 (Panicked value out) l r = comes_on c c1 (Over (PanickedRun value out)) l r
  after at b c c1 (Unfinished out) l r = let a = l.by r.0 in (a.0, omega (arith, a.1, r.1), a.2 ∙ r.2)
  after at b c c1 Nonsense l r = tt

  pub after_step : {A : Type 0} (at : A → List ℕ → Machine) (b : ℕ) (c c1 : Machine) (o : Outcome A) → Leads program c c1 → Runs program at b c1 o → Runs program at (suc b) c o
  after_step at b c c1 (Done a out) l r = comes_on c c1 (at a out) (leads_comes c c1 l) r
  after_step at b c c1 (Panicked value out) l r = comes_on c c1 (Over (PanickedRun value out)) (leads_comes c c1 l) r
  after_step at b c c1 (Unfinished out) l r = let a = l.by r.0 in (a.0, omega (arith, a.1, r.1), a.2 ∙ r.2)
  after_step at b c c1 Nonsense l r = tt

  pub fewer : {A : Type 0} (at : A → List ℕ → Machine) (m n : ℕ) (c : Machine) (o : Outcome A) → m ≤ n → Runs program at n c o → Runs program at m c o
  fewer at m n c (Done a out) le r = r
  fewer at m n c (Panicked value out) le r = r
  fewer at m n c (Unfinished out) le r = (r.0, omega (arith, le, r.1), r.2)
  fewer at m n c Nonsense le r = tt

  pub then_runs : {A B : Type 0} (at : A → List ℕ → Machine) (at' : B → List ℕ → Machine) (b : ℕ) (c : Machine) (o : Outcome A) (go : A → List ℕ → Outcome B) → Runs program at b c o → ((a : A) (out : List ℕ) → Runs program at' b (at a out) (go a out)) → Runs program at' b c (and_then o go)
  then_runs at at' b c (Done a out) go r k = after at' b c (at a out) (go a out) r (k a out)
  then_runs at at' b c (Panicked value out) go r k = r
  then_runs at at' b c (Unfinished out) go r k = r
  then_runs at at' b c Nonsense go r k = tt

  -- a run that is at its end, said of an equal outcome
  pub runs_same : {A : Type 0} (at : A → List ℕ → Machine) (b : ℕ) (c : Machine) (o o' : Outcome A) → o ≡ o' → Runs program at b c o → Runs program at b c o'
  runs_same at b c o o' e r = subst (λ x. Runs program at b c x) e r

module _ (program : List LinkedOf) (g : LinkedOf) (callers : List Frame) where
  -- one instruction
  pub step_to : (p : ℕ) (stack slots : List ℤ) (out : List ℕ) (i : Instruction) (c : Machine) → slice_get g.code p ≡ Some i → act program (Some i) (record { function = g; place = p; stack = stack; slots = slots }) callers out ≡ c → Leads program (here g callers p stack slots out) c
  step_to p stack slots out i c h e =
      record { by = λ k. (suc k, omega arith, ap (λ o. run_from program k (act program o (record { function = g; place = p; stack = stack; slots = slots }) callers out)) h ∙ ap (λ x. run_from program k x) e) }

  -- the same, and on to the same place under another name
  pub step_at : (p p' q : ℕ) (stack slots stack' slots' : List ℤ) (out out' : List ℕ) (i : Instruction) → slice_get g.code p ≡ Some i → q ≡ p' → act program (Some i) (record { function = g; place = p; stack = stack; slots = slots }) callers out ≡ here g callers q stack' slots' out' → Comes program (here g callers p stack slots out) (here g callers p' stack' slots' out')
  step_at p p' q stack slots stack' slots' out out' i h e a =
      leads_comes program _ _ (step_to p stack slots out i (here g callers p' stack' slots' out') h (a ∙ ap (λ n. here g callers n stack' slots' out') e))

  pub moved : (p p' : ℕ) (stack slots : List ℤ) (out : List ℕ) → p ≡ p' → Comes program (here g callers p stack slots out) (here g callers p' stack slots out)
  moved p p' stack slots out e = record { by = λ k. (k, omega arith, ap (λ n. run_from program k (here g callers n stack slots out)) e) }

  pub one_runs : {B : Type 0} (at : B → List ℕ → Machine) (b p : ℕ) (stack slots : List ℤ) (vs : List Value) (out : List ℕ) (go : Value → Outcome B) → ((v : Value) → Runs program at b (here g callers p (word v ∷ stack) slots out) (go v)) → Runs program at b (gave g callers p stack slots vs out) (just_one vs go)
  one_runs at b p stack slots [] out go k = tt
  one_runs at b p stack slots (v ∷ []) out go k = k v
  one_runs at b p stack slots (v ∷ w ∷ vs) out go k = tt

  -- one value, and what is done with it
  pub with_one_runs : {B : Type 0} (at : B → List ℕ → Machine) (b : ℕ) (c : Machine) (p : ℕ) (stack slots : List ℤ) (o : Outcome (List Value)) (go : Value → List ℕ → Outcome B) → Runs program (gave g callers p stack slots) b c o → ((v : Value) (out : List ℕ) → Runs program at b (here g callers p (word v ∷ stack) slots out) (go v out)) → Runs program at b c (with_one o go)
  with_one_runs at b c p stack slots o go r k =
      then_runs program (gave g callers p stack slots) at b c o _ r (λ vs out. one_runs at b p stack slots vs out (λ v. go v out) (λ v. k v out))

  truth_runs : {B : Type 0} (at : B → List ℕ → Machine) (b p : ℕ) (stack slots : List ℤ) (v : Value) (out : List ℕ) (go : Bool → Outcome B) → ((t : Bool) → Runs program at b (here g callers p (bit t ∷ stack) slots out) (go t)) → Runs program at b (here g callers p (word v ∷ stack) slots out) (just_truth v go)
  truth_runs at b p stack slots (Number x) out go k = tt
  truth_runs at b p stack slots (Truth t) out go k = k t

  -- one truth, and what is done with it
  pub with_truth_runs : {B : Type 0} (at : B → List ℕ → Machine) (b : ℕ) (c : Machine) (p : ℕ) (stack slots : List ℤ) (o : Outcome (List Value)) (go : Bool → List ℕ → Outcome B) → Runs program (gave g callers p stack slots) b c o → ((t : Bool) (out : List ℕ) → Runs program at b (here g callers p (bit t ∷ stack) slots out) (go t out)) → Runs program at b c (with_truth o go)
  with_truth_runs at b c p stack slots o go r k =
      with_one_runs at b c p stack slots o _ r (λ v out. truth_runs at b p stack slots v out (λ t. go t out) (λ t. k t out))

  -- statements one behind another
  pub flow_runs : (b p1 p2 pb pc : ℕ) (stack : List ℤ) (c : Machine) (o : Outcome Flow) (go : Variables → List ℕ → Outcome Flow) → Runs program (flow_at g callers p1 pb pc stack) b c o → ((values : Variables) (out : List ℕ) → Runs program (flow_at g callers p2 pb pc stack) b (here g callers p1 stack (cells values) out) (go values out)) → Runs program (flow_at g callers p2 pb pc stack) b c (then_do o go)
  flow_runs b p1 p2 pb pc stack c o go r k = then_runs program (flow_at g callers p1 pb pc stack) (flow_at g callers p2 pb pc stack) b c o _ r cases
    where
      cases : (flow : Flow) (out : List ℕ) → Runs program (flow_at g callers p2 pb pc stack) b (flow_at g callers p1 pb pc stack flow out) (flow_on flow out go)
      cases (Falls values) out = k values out
      cases (Breaks values) out = stays program _
      cases (Continues values) out = stays program _
      cases (Returns vs) out = stays program _
