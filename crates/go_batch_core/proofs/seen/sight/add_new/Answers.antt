use Rattle.std.proofs.Common.{subst}
use Rattle.go_batch_core.specs.seen.Local.{NoneIsOf}
use Rattle.go_batch_core.specs.seen.Sights.{IsSeenOf}
use Rattle.go_batch_core.proofs.SeenAdding.{had_new, put_new}
use Rattle.go_batch_core.proofs.seen.sight.add_new.Goals as goal

pub returns-then-is_seen-clause-all : goal.returns-then-is_seen-clause-all
returns-then-is_seen-clause-all c =
    let ts = c.args.told.now.items in
    let s = c.args.summary.now in
    had_new ts s c.requires.agrees (subst (IsSeenOf ts) c.path.ensures.value (c.is_seen.ensures.there c.if-is_seen.true))

pub add_summary-requires-clause-new : goal.add_summary-requires-clause-new
add_summary-requires-clause-new c = subst (NoneIsOf c.args.told.now.items) c.path.ensures.value (c.is_seen.ensures.none c.if-is_seen.false)

pub returns-clause-all : goal.returns-clause-all
returns-clause-all c = put_new c.args.told.now.items c.add_summary.new.told.items c.args.summary.now c.in_ok-add_summary.ensures.told
