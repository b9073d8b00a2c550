use Rattle.std.proofs.Common.{◌≡◌, ◌++◌, drop}
use Rattle.std.specs.Prelude.{filter}
use Rattle.go_summary_core.specs.shown.Shown.{texts}
use Rattle.go_summary_core.specs.Views.{faces_told}
use Rattle.go_candidate_core.specs.fitting.Fitting.{fits_alone}
use Rattle.go_candidate_core.proofs.fitting.alone.fitting_alone.Given as goal

abbrev pub invariant-loop-name : goal.invariant-loop-name
invariant-loop-name l =
    texts l.kept.items ++ filter (fits_alone l.fn.scopes (faces_told l.fn.reached) l.fn.stand) (texts (drop l.name-index l.fn.names)) ≡ filter (fits_alone l.fn.scopes (faces_told l.fn.reached) l.fn.stand) (texts l.fn.names)
