use Rattle.std.proofs.Common.{List, subst, sym, ℕ}
use Rattle.go_diagnostic_core.specs.Near.{IsSuggested}
use Rattle.go_diagnostic_core.specs.Suggestions.{AreImportablePaths}
use Rattle.go_diagnostic_core.proofs.suggesting.fitting_import.Goals as goal

pub returns : goal.returns
returns c =
    subst (λ found. (paths : List (List ℕ)) × AreImportablePaths c.args.snapshot.now c.args.path.now paths × IsSuggested c.args.spelled.now paths found)
    (sym c.as_fitting.ensures) c.in_ok-found.ensures
