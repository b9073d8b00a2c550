-- What is told of a change, by the facts of it.
use Rattle.std.proofs.Common.{◌≡◌, List, None, Option, Some, sym, ℕ}
use Rattle.std.specs.Option.{option_map}
use Rattle.std.specs.Prelude.{Err, IfOk, MatchOption, Ok, Result, ⊤}
use Rattle.go_diagnostic_core.specs.declared.suggesting.Fitting.{Fitting}
use Rattle.go_diagnostic_core.specs.mirrors.Fittings.{fitting_text}

pub change_said : (said : Option Fitting) (help : Option (List ℕ)) (M : Type 0) → M → option_map fitting_text said ≡ help → MatchOption said ⊤ (λ f. M × (help ≡ Some (fitting_text f)))
change_said None help M m e = tt
change_said (Some x) help M m e = (m, sym e)

with_fact_of : (said : Option Fitting) (F M : Type 0) (H : Fitting → Type 0) → F → MatchOption said ⊤ (λ f. M × H f) → MatchOption said ⊤ (λ f. F × M × H f)
with_fact_of None F M H fact h = tt
with_fact_of (Some x) F M H fact h = (fact, h.0, h.1)

pub with_fact : {E : Type 0} (r : Result (Option Fitting) E) (F M : Type 0) (H : Fitting → Type 0) → F → IfOk r (λ said. MatchOption said ⊤ (λ f. M × H f)) → IfOk r (λ said. MatchOption said ⊤ (λ f. F × M × H f))
with_fact (Ok said) F M H fact h = with_fact_of said F M H fact h
with_fact (Err e) F M H fact h = tt
