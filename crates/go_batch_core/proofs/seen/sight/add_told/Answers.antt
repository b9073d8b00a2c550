use Rattle.std.proofs.Common.{subst}
use Rattle.go_batch_core.specs.seen.Local.{NoneIsOf}
use Rattle.go_batch_core.specs.seen.Sights.{IsSeenOf}
use Rattle.go_batch_core.proofs.SeenAdding.{had_new, put_new}
use Rattle.go_batch_core.proofs.seen.sight.add_told.Goals as goal

pub returns-then-has_package-clause-all : goal.returns-then-has_package-clause-all
returns-then-has_package-clause-all c =
    let ts = c.args.told.now.items in
    let s = c.args.summary.now in
    had_new ts s c.requires.agrees (subst (IsSeenOf ts) c.path.ensures.value (c.has_package.ensures.there c.if-has_package.true))

pub add_summary-requires-clause-new : goal.add_summary-requires-clause-new
add_summary-requires-clause-new c = subst (NoneIsOf c.args.told.now.items) c.path.ensures.value (c.has_package.ensures.none c.if-has_package.false)

pub returns-clause-all : goal.returns-clause-all
returns-clause-all c = put_new c.args.told.now.items c.add_summary.new.told.items c.args.summary.now c.in_ok-add_summary.ensures.told
