use Rattle.std.proofs.Common.{◌≡◌, ◌<◌, ℕ, true}
use Rattle.go_judge_core.specs.Misfits.{fits_number}
use Rattle.go_judge_core.proofs.fitting.first_misfit.Given as goal

abbrev pub invariant-loop-number : goal.invariant-loop-number
invariant-loop-number g l = (n : ℕ) → n < l.number → fits_number (g.E.TypeLooks.types l.env) l.values l.wanted n ≡ true
