use Rattle.std.proofs.Common.{rules, subst}
use Rattle.go_sched_core.specs.Service.{submit_rule}
use Rattle.go_board_core.specs.submit_core.Trees.{TreeModel}
use Rattle.go_hall_core.specs.Kept.{IsRefusal, Kept}
use Rattle.go_hall_core.proofs.Refusals.{submit_refusal, submit_refused}
use Rattle.go_hall_core.proofs.state.HallState.submit.Goals as goal

pub returns-in-Err-clause-err : goal.returns-in-Err-clause-err
returns-in-Err-clause-err c =
    let refusal = submit_refusal c.self.inside.core c.args.id c.in-Ok-Ok.again c.in-Err.reply c.self.inside.core c.self.inside.stopped c.refused.result c.in-Err.ensures.err.0 c.refused.ensures in
    let mine = subst (λ (x : TreeModel). IsRefusal c.self.inside.stopped (submit_rule c.self.inside.core c.args.id x) c.refused.result) c.in-Ok-Ok.ensures' refusal in
    (search rules, subst (λ (k : Kept). IsRefusal k.stopped (submit_rule k.service c.args.id c.args.tree) c.refused.result) c.self.view_is mine)

pub refused-requires : goal.refused-requires
refused-requires c = let is = submit_refused c.self.inside.core c.args.id c.in-Ok-Ok.again c.in-Err.reply c.self.inside.core c.in-Err.ensures.err.0 c.in-Err.ensures.err.1 in (is.0, is.1)
