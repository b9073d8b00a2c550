use Rattle.std.proofs.Common.{◌<◌, length, subst, sym}
use Rattle.go_judge_core.proofs.Opened.{stays_open}
use Rattle.go_judge_core.proofs.judging.declare_local.Goals as goal

pub returns-in-Ok : goal.returns-in-Ok
returns-in-Ok c = subst (λ s. 0 < length s.open_blocks) (sym c.in-Ok.ensures.ok.1) (stays_open c.args.scopes.now.open_blocks _ c.requires)
