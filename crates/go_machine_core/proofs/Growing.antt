-- What is printed stays printed, a run that is over stays as it is, and only a run that did all its steps spent them.
use Rattle.std.proofs.Common.{◌≡◌, ℕ, zero, suc, ◌+◌, ◌≤◌, true, false, List, [], ◌∷◌, ◌++◌, ℤ, Option, Some, None, refl, sym, ap, ◌∙◌, arith, append_assoc, append-nil}
use Rattle.std.specs.Prelude.{slice_get, length}
use Rattle.go_object_core.specs.declared.instructions.instruction.Instruction.{Instruction}
use Rattle.go_object_core.specs.declared.instructions.instruction.Instruction.TheVariants as instructions
use Rattle.go_machine_core.specs.Programs.{LinkedOf, callee}
use Rattle.go_machine_core.specs.Words.{line_text, sum, difference, product, quotient, remainder, equal, differs, less, at_most, greater, at_least}
use Rattle.go_machine_core.specs.Machine.{Frame, Run, Ended, Panicked, Spent, Stuck, Machine, At, Over, on_one, resulting, on_two, popped, stuck_unless, left, entered, all_begun, starting, started, act, step, run_from}
use Rattle.go_machine_core.specs.Laws.{printed, steps_on, Goes, SpentMeansAllSteps, BudgetsAgree}

abbrev pub printed_by : Machine → List ℕ
printed_by (At f callers out) = out
printed_by (Over run) = printed run

abbrev pub Begins : List ℕ → List ℕ → Type 0
Begins a b = (more : List ℕ) × (b ≡ a ++ more)

-- a machine that is over has spent nothing
abbrev pub IsNotSpent : Machine → Type 0
IsNotSpent (At f callers out) = Unit {0}
IsNotSpent (Over (Ended out)) = Unit {0}
IsNotSpent (Over (Panicked value out)) = Unit {0}
IsNotSpent (Over (Spent out)) = ⊥
IsNotSpent (Over (Stuck out)) = Unit {0}

abbrev pub Follows : List ℕ → Machine → Type 0
Follows out c = Begins out (printed_by c) × IsNotSpent c

begins_here : (out : List ℕ) → Begins out out
begins_here out = ([], sym (append-nil out))

begins_on : (a b c : List ℕ) → Begins a b → Begins b c → Begins a c
begins_on a b c p q = (p.0 ++ q.0, q.1 ∙ ap (λ l. l ++ q.0) p.1 ∙ append_assoc a p.0 q.0)

here : (out : List ℕ) → Begins out out × Unit {0}
here out = (begins_here out, tt)

one_grows : (out : List ℕ) (stack : List ℤ) (go : ℤ → List ℤ → Machine) → ((v : ℤ) (rest : List ℤ) → Follows out (go v rest)) → Follows out (on_one stack out go)
one_grows out [] go k = here out
one_grows out (v ∷ rest) go k = k v rest

some_grows : {A : Type 0} (out : List ℕ) (o : Option A) (go : A → Machine) → ((a : A) → Follows out (go a)) → Follows out (stuck_unless o out go)
some_grows out None go k = here out
some_grows out (Some a) go k = k a

result_grows : (out : List ℕ) (r : Option ℤ) (go : ℤ → Machine) → ((v : ℤ) → Follows out (go v)) → Follows out (resulting r out go)
result_grows out None go k = here out
result_grows out (Some v) go k = k v

two_grows : (op : ℤ → ℤ → Option ℤ) (stack : List ℤ) (f : Frame) (callers : List Frame) (out : List ℕ) → Follows out (on_two op stack f callers out)
two_grows op [] f callers out = here out
two_grows op (y ∷ []) f callers out = here out
two_grows op (y ∷ x ∷ stack) f callers out = result_grows out (op x y) _ (λ v. here out)

left_grows : (callers : List Frame) (vs : List ℤ) (out : List ℕ) → Follows out (left callers vs out)
left_grows [] vs out = here out
left_grows (f ∷ callers) [] out = here out
left_grows (f ∷ callers) (v ∷ vs) out = here out

entered_grows : (program : List LinkedOf) (n : ℕ) (arguments : List ℤ) (callers : List Frame) (out : List ℕ) → Follows out (entered program n arguments callers out)
entered_grows program n arguments callers out = some_grows out (slice_get program n) _ (λ g. here out)

act_grows : (program : List LinkedOf) (i : Option Instruction) (f : Frame) (callers : List Frame) (out : List ℕ) → Follows out (act program i f callers out)
act_grows program None f callers out = here out
act_grows program (Some (instructions.Push k)) f callers out = here out
act_grows program (Some (instructions.Load s)) f callers out = some_grows out (slice_get f.slots s) _ (λ v. here out)
act_grows program (Some (instructions.Store s)) f callers out = one_grows out f.stack _ (λ v rest. some_grows out (slice_get f.slots s) _ (λ old. here out))
act_grows program (Some instructions.Drop) f callers out = one_grows out f.stack _ (λ v rest. here out)
act_grows program (Some instructions.Neg) f callers out = one_grows out f.stack _ (λ v rest. here out)
act_grows program (Some instructions.Not) f callers out = one_grows out f.stack _ (λ v rest. here out)
act_grows program (Some instructions.Add) f callers out = two_grows sum f.stack f callers out
act_grows program (Some instructions.Sub) f callers out = two_grows difference f.stack f callers out
act_grows program (Some instructions.Mul) f callers out = two_grows product f.stack f callers out
act_grows program (Some instructions.Div) f callers out = two_grows quotient f.stack f callers out
act_grows program (Some instructions.Rem) f callers out = two_grows remainder f.stack f callers out
act_grows program (Some instructions.Eq) f callers out = two_grows equal f.stack f callers out
act_grows program (Some instructions.Ne) f callers out = two_grows differs f.stack f callers out
act_grows program (Some instructions.Lt) f callers out = two_grows less f.stack f callers out
act_grows program (Some instructions.Le) f callers out = two_grows at_most f.stack f callers out
act_grows program (Some instructions.Gt) f callers out = two_grows greater f.stack f callers out
act_grows program (Some instructions.Ge) f callers out = two_grows at_least f.stack f callers out
act_grows program (Some (instructions.Jump d)) f callers out = here out
act_grows program (Some (instructions.JumpFalse n)) f callers out = one_grows out f.stack _ (λ v rest. here out)
act_grows program (Some (instructions.Call r n)) f callers out = some_grows out (popped n [] f.stack) _ (λ taken. some_grows out (callee f.function r) _ (λ g. entered_grows program g taken.0 _ out))
act_grows program (Some (instructions.Return false)) f callers out = left_grows callers [] out
act_grows program (Some (instructions.Return true)) f callers out = one_grows out f.stack _ (λ v rest. left_grows callers (v ∷ []) out)
act_grows program (Some (instructions.Println ws)) f callers out = some_grows out (popped (length ws) [] f.stack) _ (λ taken. some_grows out (line_text ws taken.0) _ (λ line. ((line, refl), tt)))
act_grows program (Some (instructions.Panic w)) f callers out = one_grows out f.stack _ (λ v rest. here out)
act_grows program (Some instructions.Outside) f callers out = here out

step_follows : (program : List LinkedOf) (f : Frame) (callers : List Frame) (out : List ℕ) → Follows out (step program f callers out)
step_follows program f callers out = act_grows program (slice_get f.function.code f.place) f callers out

module _ (program : List LinkedOf) where
  run_grows : (m : ℕ) (c : Machine) → Begins (printed_by c) (printed (run_from program m c))
  run_grows m (Over run) = begins_here (printed run)
  run_grows zero (At f callers out) = begins_here out
  run_grows (suc m) (At f callers out) = begins_on out _ _ (step_follows program f callers out).0 (run_grows m (step program f callers out))

  -- what was printed by a number of steps is the beginning of what more print
  pub more_prints : (m n : ℕ) (c : Machine) → m ≤ n → Begins (printed (run_from program m c)) (printed (run_from program n c))
  more_prints m n (Over run) le = begins_here (printed run)
  more_prints zero n (At f callers out) le = run_grows n (At f callers out)
  more_prints (suc m) zero (At f callers out) le = absurd (omega arith)
  more_prints (suc m) (suc n) (At f callers out) le = more_prints m n (step program f callers out) (omega arith)

  abbrev pub IsOver : Run → Type 0
  IsOver (Ended out) = Unit {0}
  IsOver (Panicked value out) = Unit {0}
  IsOver (Spent out) = ⊥
  IsOver (Stuck out) = Unit {0}

  -- more steps change nothing of a run that is over
  pub longer : (m n : ℕ) (c : Machine) → m ≤ n → IsOver (run_from program m c) → run_from program n c ≡ run_from program m c
  longer m n (Over run) le over = refl
  longer zero n (At f callers out) le over = absurd over
  longer (suc m) zero (At f callers out) le over = absurd (omega arith)
  longer (suc m) (suc n) (At f callers out) le over = longer m n (step program f callers out) (omega arith) over

  goes : (run later : Run) → (IsOver run → later ≡ run) → Begins (printed run) (printed later) → Goes run later
  goes (Ended out) later same more = same tt
  goes (Panicked value out) later same more = same tt
  goes (Spent out) later same more = more
  goes (Stuck out) later same more = same tt

  pub budgets : (m k : ℕ) (c : Machine) → Goes (run_from program m c) (run_from program (m + k) c)
  budgets m k c =
      let le : m ≤ m + k = omega arith in
      goes (run_from program m c) (run_from program (m + k) c) (longer m (m + k) c le) (more_prints m (m + k) c le)

  abbrev IsAt : Machine → List ℕ → Type 0
  IsAt c out = (frame : Frame) × (callers : List Frame) × (c ≡ At frame callers out)

  over_stays : (n : ℕ) (run : Run) → steps_on program n (Over run) ≡ Over run
  over_stays zero run = refl
  over_stays (suc n) run = over_stays n run

  pub spent : (n : ℕ) (c : Machine) (out : List ℕ) → IsNotSpent c → run_from program n c ≡ Spent out → IsAt (steps_on program n c) out
  spent n (Over (Ended o)) out fine e = cc
  spent n (Over (Panicked value o)) out fine e = cc
  spent n (Over (Spent o)) out fine e = absurd fine
  spent n (Over (Stuck o)) out fine e = cc
  spent zero (At f callers o) out fine e =
      let same : o ≡ out = cc in
      (f, callers, ap (λ l. At f callers l) same)
  spent (suc n) (At f callers o) out fine e = spent n (step program f callers o) out (step_follows program f callers o).1 e

  starting_fine : (o : Option (List Frame)) → IsNotSpent (stuck_unless o [] starting)
  starting_fine None = tt
  starting_fine (Some []) = tt
  starting_fine (Some (f ∷ fs)) = tt

  pub started_fine : (starts : List ℕ) → IsNotSpent (started program starts)
  started_fine starts = starting_fine (all_begun program starts)

pub spent_means_all_steps : SpentMeansAllSteps
spent_means_all_steps program starts steps out e = spent program steps (started program starts) out (started_fine program starts) e

pub budgets_agree : BudgetsAgree
budgets_agree program starts steps more = budgets program steps more (started program starts)
