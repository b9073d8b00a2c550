use Rattle.std.proofs.lemmas.Result.{IfOk-weaker}
use Rattle.go_recovery_core.proofs.StandinJudged.{file_is}
use Rattle.go_recovery_core.proofs.standin.judge.is_file.Goals as goal

pub returns-in-Ok : goal.returns-in-Ok
returns-in-Ok c = IfOk-weaker c.parses.result _ _ (λ b h. file_is c.args.bytes.now c.in-Ok.text.now b c.in-Ok.ensures.cases.0 c.in-Ok.ensures.cases.1 h) c.parses.ensures
