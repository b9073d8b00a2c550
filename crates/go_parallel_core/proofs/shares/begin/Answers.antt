use Rattle.std.proofs.Common.{◌≡◌, List, sym, ap, subst, IfOk}
use Rattle.std.proofs.Crossing.{crosses}
use denote.Param.Send.{sendable}
use Rattle.go_summary_core.specs.Summaries.{SummaryModel}
use Rattle.go_parallel_core.specs.Seen.{IsDoneOf}
use Rattle.go_parallel_core.specs.Told.{AreAllTold}
use Rattle.go_parallel_core.proofs.Crossing.{given}
use Rattle.go_parallel_core.proofs.Cutting.{InputList}
use Rattle.go_parallel_core.proofs.Seeing.{beside_done}
use Rattle.go_parallel_core.proofs.shares.begin.Goals as goal

pub spawn_with-requires-send-F : goal.spawn_with-requires-send-F
spawn_with-requires-send-F g c κs within = search (given, crosses, sendable) depth 40

pub spawn_with-requires-send-T : goal.spawn_with-requires-send-T
spawn_with-requires-send-T g c κs within = search (given, crosses, sendable) depth 40

pub spawn_with-requires-clause-keeps : goal.spawn_with-requires-clause-keeps
spawn_with-requires-clause-keeps g c κs within r gave =
    subst (λ (v : InputList). IfOk r (λ d. IsDoneOf c.given_for-given.result.sight.value v.items d.parts.items d.sight)) (sym c.given_for-given.ensures.inputs)
    (subst (λ (ss : List SummaryModel). IfOk r (λ d. IsDoneOf ss c.args.inputs.items d.parts.items d.sight)) (sym c.given_for-given.ensures.sight) gave)

pub returns-in_ok-done-in-Err-clause-sound : goal.returns-in_ok-done-in-Err-clause-sound
returns-in_ok-done-in-Err-clause-sound g c =
    let made = c.in_ok-done-in-Err.done in
    let refused = c.in-Err.refused.value in
    let seen : refused.2 ≡ c.args.sight = ap (λ f. f.2) c.in-Err.ensures.err in
    beside_done c.args.batch.now.parts refused.2 refused.1.items made.parts.items made.sight (subst (AreAllTold c.args.batch.now.parts) (sym seen) c.requires.told) c.in_ok-done-in-Err.ensures
