use Rattle.std.proofs.Common.{◌≡◌, ◌+◌, ◌++◌, ◌∷◌, [], ℕ, List, Result, Ok, Err, Some, set, refl, sym, ap, ◌∙◌, subst, arith}
use Rattle.std.specs.Prelude.{IfOk}
use Rattle.go_batch_core.specs.declared.slot.Slot.TheVariants.{Taken, Finished}
use Rattle.go_batch_core.specs.Batches.{unfinished, with_part}
use Rattle.go_batch_core.proofs.Steps.{left_less}
use Rattle.go_sched_core.specs.Service.{Service}
use Rattle.go_sched_core.specs.Steps.{with_batch}
use Rattle.go_sched_core.specs.mirrors.Beside.{IsAgainBeside}
use Rattle.go_sched_core.specs.mirrors.Fitting.{ArePublished}
use Rattle.go_sched_core.proofs.Lists.{if_ok_more}
use Rattle.go_sched_core.proofs.Marking.{again_last}
use Rattle.go_sched_core.proofs.machine.Core.published_last.Goals as goal

pub left_by-same-requires : goal.left_by-same-requires
left_by-same-requires c =
    let i = c.self.inside in
    let r = c.args.running.now in
    let s = c.in_ok-snapshot.snapshot in
    let running : i.running ≡ Some r = ap (λ (x : Service). x.running) c.self.view_is ∙ c.requires.running in
    subst (λ (x : Service). IsAgainBeside x.published s i.steady) c.self.view_is
    (again_last i.published i.running r i.steady c.args.place c.requires.awaits.0 c.args.part.now s c.self.invariant.steady_is running c.requires.awaits.1 c.in_ok-snapshot.ensures.sources c.in_ok-snapshot.ensures.parts)

pub returns : goal.returns
returns c =
    let r = c.args.running.now in
    let after = with_batch r (with_part r.batch c.args.place c.args.part.now) in
    let less = left_less r.batch.slots c.args.place (Taken c.requires.awaits.0 c.args.part.now.input) Finished c.requires.awaits.1 refl refl in
    if_ok_more c.published_with.result c.published_with.ensures (λ bs is. record {
      over = omega (arith, less, c.requires.last);
      snapshot = c.in_ok-snapshot.snapshot;
      sources = c.in_ok-snapshot.ensures.sources;
      parts = c.in_ok-snapshot.ensures.parts;
      whole = c.in_ok-snapshot.ensures.whole;
      pushed = is;
    })
