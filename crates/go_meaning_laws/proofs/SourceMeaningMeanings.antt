-- The code does what the source means.
use Rattle.std.proofs.Common.{◌≡◌, ℕ, ◌+◌, ◌-◌, ◌≤◌, List, [], ◌∷◌, refl, sym, ap, ◌∙◌, subst, arith}
use Rattle.go_machine_core.specs.declared.state.PanicValue.{PanicValue}
use Rattle.go_machine_core.specs.Machine.{Frame, Run, Ended, Panicked as PanickedRun, Spent, Stuck, left, stuck_unless, starting, started, machine}
use Rattle.go_machine_core.specs.Laws.{printed, Goes, BudgetsAgree}
use Rattle.go_meaning_laws.specs.source_meaning.Meaning.{Outcome, Done, Panicked, Unfinished, Nonsense}
use Rattle.go_meaning_laws.specs.source_meaning.Whole.{calls_of, meaning}
use Rattle.go_meaning_laws.specs.source_meaning.Laws.{Begins, Prints, HasMeaning, DoesWhatItMeans, MeantCodeMeansTheSource}
use Rattle.go_meaning_laws.proofs.SourceMeaningSteps.{Runs}
use Rattle.go_meaning_laws.proofs.SourceMeaningFunctions.{calls_obey, at_end, all_run}
use Rattle.go_meaning_laws.specs.source_meaning.Meaning.{SourceOf}
use Rattle.go_meaning_laws.specs.source_meaning.Whole.{code_of_program}

-- the start is where a function would go on that the first ones wait for
starts : (frames : List Frame) → starting frames ≡ left frames [] []
starts [] = refl
starts (f ∷ fs) = refl

module _ (agree : BudgetsAgree) (program : List SourceOf) (ds : List ℕ) (h : HasMeaning program ds) where
  start_is : left h.frames [] [] ≡ started (code_of_program program) ds
  start_is = sym (ap (λ o. stuck_unless o [] starting) h.all_there ∙ starts h.frames)

  runs : (n : ℕ) → Runs (code_of_program program) at_end n (started (code_of_program program) ds) (meaning program ds n)
  runs n = subst (λ c. Runs (code_of_program program) at_end n c (meaning program ds n)) start_is (all_run (code_of_program program) n (calls_of n program n) (calls_obey program n n n (omega arith) (omega arith)) ds h.frames [] h.all_there)

  runs_of : (n : ℕ) (o : Outcome (Unit {0})) → meaning program ds n ≡ o → Runs (code_of_program program) at_end n (started (code_of_program program) ds) o
  runs_of n o e = subst (λ x. Runs (code_of_program program) at_end n (started (code_of_program program) ds) x) e (runs n)

  -- what the source means with as many turns as steps, beside what the machine does in these steps
  abbrev Beside : ℕ → Outcome (Unit {0}) → Type 0
  Beside m (Done a out) = (j : ℕ) × (m ≤ j) × (machine (code_of_program program) ds j ≡ Ended out)
  Beside m (Panicked value out) = (j : ℕ) × (m ≤ j) × (machine (code_of_program program) ds j ≡ PanickedRun value out)
  Beside m (Unfinished out) = (j : ℕ) × (m ≤ j) × (machine (code_of_program program) ds j ≡ Spent out)
  Beside m Nonsense = ⊥

  beside_of : (m : ℕ) (o : Outcome (Unit {0})) → meaning program ds m ≡ o → Runs (code_of_program program) at_end m (started (code_of_program program) ds) o → Beside m o
  beside_of m (Done a out) e r = let x = r.by m in (x.0, x.1, x.2)
  beside_of m (Panicked value out) e r = let x = r.by m in (x.0, x.1, x.2)
  beside_of m (Unfinished out) e r = r
  beside_of m Nonsense e r = h.meant m e

  beside : (m : ℕ) → Beside m (meaning program ds m)
  beside m = beside_of m (meaning program ds m) refl (runs m)

  -- what the machine does in more steps
  goes_on : (m j : ℕ) (r r' : Run) → m ≤ j → machine (code_of_program program) ds m ≡ r → machine (code_of_program program) ds j ≡ r' → Goes r r'
  goes_on m j r r' le e e' =
      let all : m + (j - m) ≡ j = omega (arith, le) in
      let go = subst (λ n. Goes (machine (code_of_program program) ds m) (machine (code_of_program program) ds n)) all (agree (code_of_program program) ds m (j - m)) in
      subst (λ x. Goes x r') e (subst (λ x. Goes (machine (code_of_program program) ds m) x) e' go)

  end_means : (m : ℕ) (out : List ℕ) (o : Outcome (Unit {0})) → machine (code_of_program program) ds m ≡ Ended out → Beside m o → o ≡ Done tt out
  end_means m out (Done a out') e x = let same = goes_on m x.0 (Ended out) (Ended out') x.1 e x.2 in ap (λ r. Done tt (printed r)) same
  end_means m out (Panicked value out') e x = let same = goes_on m x.0 (Ended out) (PanickedRun value out') x.1 e x.2 in absurd (cc same)
  end_means m out (Unfinished out') e x = let same = goes_on m x.0 (Ended out) (Spent out') x.1 e x.2 in absurd (cc same)
  end_means m out Nonsense e x = absurd x

  -- what a run panicked with, if it did
  abbrev with_panic : Run → Outcome (Unit {0})
  with_panic (Ended out) = Nonsense
  with_panic (PanickedRun value out) = Panicked value out
  with_panic (Spent out) = Nonsense
  with_panic (Stuck out) = Nonsense

  panic_means : (m : ℕ) (value : PanicValue) (out : List ℕ) (o : Outcome (Unit {0})) → machine (code_of_program program) ds m ≡ PanickedRun value out → Beside m o → o ≡ Panicked value out
  panic_means m value out (Done a out') e x = let same = goes_on m x.0 (PanickedRun value out) (Ended out') x.1 e x.2 in absurd (cc same)
  panic_means m value out (Panicked value' out') e x = let same = goes_on m x.0 (PanickedRun value out) (PanickedRun value' out') x.1 e x.2 in ap with_panic same
  panic_means m value out (Unfinished out') e x = let same = goes_on m x.0 (PanickedRun value out) (Spent out') x.1 e x.2 in absurd (cc same)
  panic_means m value out Nonsense e x = absurd x

  not_stuck : (m : ℕ) (out : List ℕ) (o : Outcome (Unit {0})) → machine (code_of_program program) ds m ≡ Stuck out → Beside m o → ⊥
  not_stuck m out (Done a out') e x = let same = goes_on m x.0 (Stuck out) (Ended out') x.1 e x.2 in cc same
  not_stuck m out (Panicked value out') e x = let same = goes_on m x.0 (Stuck out) (PanickedRun value out') x.1 e x.2 in cc same
  not_stuck m out (Unfinished out') e x = let same = goes_on m x.0 (Stuck out) (Spent out') x.1 e x.2 in cc same
  not_stuck m out Nonsense e x = x

  spent_means : (m : ℕ) (out : List ℕ) (o : Outcome (Unit {0})) → machine (code_of_program program) ds m ≡ Spent out → Beside m o → (text : List ℕ) × Prints o text × Begins out text
  spent_means m out (Done a out') e x = (out', refl, goes_on m x.0 (Spent out) (Ended out') x.1 e x.2)
  spent_means m out (Panicked value out') e x = (out', refl, goes_on m x.0 (Spent out) (PanickedRun value out') x.1 e x.2)
  spent_means m out (Unfinished out') e x = (out', refl, goes_on m x.0 (Spent out) (Spent out') x.1 e x.2)
  spent_means m out Nonsense e x = absurd x

  does : DoesWhatItMeans program ds
  does = record {
    ends = λ n out e. let r = runs_of n (Done tt out) e in let x = r.by 0 in (x.0, x.2);
    ends_only = λ m out e. (m, end_means m out (meaning program ds m) e (beside m));
    panics = λ n value out e. let r = runs_of n (Panicked value out) e in let x = r.by 0 in (x.0, x.2);
    panics_only = λ m value out e. (m, panic_means m value out (meaning program ds m) e (beside m));
    never_stuck = λ m out e. not_stuck m out (meaning program ds m) e (beside m);
    goes_on = λ n out e. runs_of n (Unfinished out) e;
    goes_on_only = λ m out e. let x = spent_means m out (meaning program ds m) e (beside m) in (m, omega arith, x.0, x.1, x.2);
  }

pub meant_code_means : BudgetsAgree → MeantCodeMeansTheSource
meant_code_means agree program ds h = does agree program ds h
