use Rattle.std.proofs.Common.{List, subst, sym, ℕ}
use Rattle.go_diagnostic_core.specs.Near.{IsSuggested}
use Rattle.go_diagnostic_core.specs.Suggestions.{AreNamesFor}
use Rattle.go_diagnostic_core.proofs.suggesting.fitting_name.Goals as goal

pub returns : goal.returns
returns c =
    subst (λ found. (names : List (List ℕ)) × AreNamesFor c.args.snapshot.now c.args.path.now c.args.file.now c.args.offset names × IsSuggested c.args.spelled.now names found)
    (sym c.as_fitting.ensures) c.in_ok-found.ensures
