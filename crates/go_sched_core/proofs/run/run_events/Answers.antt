use Rattle.std.proofs.Common.{◌≡◌, List, [], ◌∷◌, ◌++◌, sym, ap, ◌∙◌, subst}
use Rattle.go_sched_core.specs.declared.event.Reply.{Reply}
use Rattle.go_sched_core.specs.Service.{empty}
use Rattle.go_sched_core.specs.Steps.{Run}
use Rattle.go_sched_core.proofs.Runs.{run_more}
use Rattle.go_sched_core.proofs.run.run_events.Goals as goal

pub loop-event-preserved : goal.loop-event-preserved
loop-event-preserved c =
    let es = c.loop-event.yielded ++ c.in-Some.event ∷ [] in
    let same = c.push_reserved.ensures.items ∙ ap (λ l. l ++ c.step.result ∷ []) c.reserve.ensures.items in
    subst (λ (rs : List Reply). Run empty es rs c.step.new.self) (sym same) (run_more empty c.loop-event.yielded c.loop-event.replies.items c.loop-event.core c.in-Some.event c.step.result c.step.new.self c.loop-event.invariant c.step.ensures.step)
