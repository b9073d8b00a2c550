use Rattle.std.proofs.lemmas.Result.{IfOk-weaker}
use Rattle.std.proofs.Common.{◌≡◌, rules, string_bytes}
use Rattle.go_recovery_core.specs.standin.Blanks.{all_blanked}
use Rattle.go_recovery_core.proofs.StandinTried.{kept}
use Rattle.go_recovery_core.proofs.standin.standing.tried.Goals as goal

pub returns-in-Ok : goal.returns-in-Ok
returns-in-Ok c =
    let same : string_bytes c.in-Ok.blank ≡ all_blanked c.args.parts.now c.args.text.now = search rules in
    IfOk-weaker c.standing.result _ _ (λ s h. kept c.args.text.now (string_bytes c.in-Ok.blank) c.args.parts.now s same h) c.standing.ensures
