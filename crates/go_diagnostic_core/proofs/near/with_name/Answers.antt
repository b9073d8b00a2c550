use Rattle.std.proofs.Common.{ℕ, subst}
use Rattle.std.specs.Prelude.{MatchOption}
use Rattle.go_diagnostic_core.specs.Near.{IsNear}
use Rattle.go_diagnostic_core.specs.mirrors.Nears.{near_shown}
use Rattle.go_diagnostic_core.proofs.Best.{with_found}
use Rattle.go_diagnostic_core.proofs.near.with_name.Goals as goal

pub returns-in-Some : goal.returns-in-Some
returns-in-Some c =
    let spelled = c.args.spelled.now in
    let name = c.args.name.now in
    let near = subst (λ found. MatchOption found ((far : ℕ) → IsNear spelled name far → ⊥) (IsNear spelled name)) c.in-Some.is c.in_ok-far.ensures in
    λ names b. with_found spelled names name c.in-Some.far (near_shown c.args.best) _ c.nearer.ensures near b
