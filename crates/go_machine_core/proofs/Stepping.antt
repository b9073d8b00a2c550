-- A place that is beyond all code, and the functions that are to run.
use Rattle.std.proofs.Common.{◌≡◌, ℕ, zero, suc, ◌+◌, ◌-◌, ◌^◌, ◌<◌, ◌≤◌, List, [], ◌∷◌, map, get_or, length, ℤ, Option, Some, None, refl, sym, ap, ◌∙◌, arith, ⊎_elim}
use Rattle.std.specs.Prelude.{slice_get, option_map, Result, Ok, Err, IfOk, string_bytes}
use Rattle.std.specs.declared.alloc.AllocError.{AllocError}
use Rattle.go_machine_core.specs.declared.state.End.{End}
use Rattle.go_machine_core.specs.declared.state.State.{State}
use Rattle.std.proofs.lemmas.Bool.{cases_lt}
use Rattle.std.proofs.lemmas.Option.{slice_get_past}
use Rattle.go_machine_core.specs.declared.linked.Linked.{Linked}
use Rattle.go_object_core.specs.declared.instructions.instruction.Instruction.{Instruction}
use Rattle.go_object_core.specs.declared.instructions.instruction.Instruction.TheVariants as instructions
use Rattle.go_machine_core.specs.Programs.{LinkedOf, linked_shown}
use Rattle.go_machine_core.specs.Words.{is_true}
use Rattle.go_machine_core.specs.Machine.{Frame as MachineFrame, at_place, on_one, jumped, chosen, begun, act, step, run_from, with_first, all_begun}
use Rattle.go_machine_core.specs.mirrors.Shown.{numbered, frame_shown, frames_shown, from_state, after, within, acts, acted}

module _ (program : List LinkedOf) (f : MachineFrame) (callers : List MachineFrame) (out : List ℕ) (small : length f.function.code ≤ 2 ^ 64 - 1) where
  beyond : (p q : ℕ) (stack : List ℤ) → length f.function.code ≤ p → length f.function.code ≤ q → (k : ℕ) → run_from program k (at_place f p stack callers out) ≡ run_from program k (at_place f q stack callers out)
  beyond p q stack hp hq zero = refl
  beyond p q stack hp hq (suc k) =
      ap (λ i. run_from program k (act program i (record f { place = p; stack = stack }) callers out)) (slice_get_past f.function.code p hp)
      ∙ sym (ap (λ i. run_from program k (act program i (record f { place = q; stack = stack }) callers out)) (slice_get_past f.function.code q hq))

  within_same : (p : ℕ) (stack : List ℤ) (k : ℕ) → run_from program k (at_place f (within p) stack callers out) ≡ run_from program k (at_place f p stack callers out)
  within_same p stack k =
      ⊎_elim
      (λ lt. let same : within p ≡ p = omega arith in ap (λ q. run_from program k (at_place f q stack callers out)) same)
      (λ le. beyond (within p) p stack (omega arith) (omega arith) k)
      (cases_lt p (2 ^ 64 - 1))

  false_same : (n : ℕ) (stack : List ℤ) (k : ℕ) → run_from program k (on_one stack out (λ v rest. at_place f (within (chosen (is_true v) n (f.place + 1))) rest callers out)) ≡ run_from program k (on_one stack out (λ v rest. at_place f (chosen (is_true v) n (f.place + 1)) rest callers out))
  false_same n [] k = refl
  false_same n (v ∷ rest) k = within_same (chosen (is_true v) n (f.place + 1)) rest k

  pub acts_same : (i : Instruction) (k : ℕ) → run_from program k (acts program i f callers out) ≡ run_from program k (act program (Some i) f callers out)
  acts_same (instructions.Jump d) k = within_same (jumped d (f.place + 1)) f.stack k
  acts_same (instructions.JumpFalse n) k = false_same n f.stack k
  acts_same _ k = refl

module _ (program : List LinkedOf) where
  nothing_first : (o : Option LinkedOf) → with_first o None ≡ None
  nothing_first None = refl
  nothing_first (Some g) = refl

  none_there : (o : Option LinkedOf) → None ≡ option_map (λ g. begun g []) o → o ≡ None
  none_there None e = refl
  none_there (Some g) e = cc

  pub none_begun : (ns : List ℕ) (n : ℕ) → n < length ns → None ≡ option_map (λ g. begun g []) (slice_get program (get_or ns n 0)) → all_begun program ns ≡ None
  none_begun [] n lt e = absurd (omega arith)
  none_begun (m ∷ ns) zero lt e = ap (λ o. with_first o (all_begun program ns)) (none_there (slice_get program m) e)
  none_begun (m ∷ ns) (suc n) lt e = ap (λ o. with_first (slice_get program m) o) (none_begun ns n (omega arith) e) ∙ nothing_first (slice_get program m)

-- what an instruction came to, seen from its place
pub through : (program : List Linked) (old new : State) (r : Result (Option End) AllocError) (i : Instruction) → length (numbered program old.frame.function).code ≤ 2 ^ 64 - 1 → Some i ≡ slice_get (numbered program old.frame.function).code old.frame.place
    → IfOk r (λ end. after program end new ≡ acted program i old)
    → IfOk r (λ end. (k : ℕ) → run_from (map linked_shown program) k (after program end new) ≡ run_from (map linked_shown program) k (from_state program old (step (map linked_shown program))))
through program old new (Ok end) i small e h =
    λ k. ap (λ c. run_from (map linked_shown program) k c) h
    ∙ acts_same (map linked_shown program) (frame_shown program old.frame) (frames_shown program old.callers) (string_bytes old.output) small i k
    ∙ ap (λ o. run_from (map linked_shown program) k (act (map linked_shown program) o (frame_shown program old.frame) (frames_shown program old.callers) (string_bytes old.output))) e
through program old new (Err x) i small e h = tt
