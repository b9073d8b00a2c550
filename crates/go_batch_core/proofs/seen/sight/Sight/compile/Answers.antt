use Rattle.std.proofs.Common.{List, sym, subst}
use Rattle.go_summary_core.specs.Summaries.{SummaryModel}
use Rattle.go_summary_core.specs.Views.{PathsAreApart}
use Rattle.go_package_core.specs.package_part.Inputs.{path_in}
use Rattle.go_batch_core.specs.seen.Local.{NoneIsOf}
use Rattle.go_batch_core.specs.seen.Sights.{Agrees, AreWithReached}
use Rattle.go_batch_core.proofs.SeenAdding.{agrees_same, none_whole, seen_by_all}
use Rattle.go_batch_core.proofs.seen.sight.Sight.compile.Goals as goal

pub with_reached-requires-clause-agrees : goal.with_reached-requires-clause-agrees
with_reached-requires-clause-agrees g c =
    subst (Agrees c.in_ok-others.others) (sym c.reached-reached.ensures.value) (agrees_same c.args.self c.in_ok-others.others c.args.input.now.reached c.in_ok-others.ensures.same c.requires.agrees)

pub with_reached-requires-clause-apart : goal.with_reached-requires-clause-apart
with_reached-requires-clause-apart g c = subst PathsAreApart (sym c.reached-reached.ensures.value) c.reached-reached.ensures.well.reached.apart

pub compile_seen_at_once-requires-clause-none : goal.compile_seen_at_once-requires-clause-none
compile_seen_at_once-requires-clause-none g c κs within =
    let i = c.args.input.now in
    let whole = subst (λ (l : List SummaryModel). AreWithReached c.in_ok-others.others l c.in_ok-whole.whole) c.reached-reached.ensures.value c.in_ok-whole.ensures in
    none_whole c.in_ok-others.others i.reached c.in_ok-whole.whole (path_in i) whole (subst (NoneIsOf c.in_ok-others.others) c.path.ensures c.in_ok-others.ensures.none) c.reached-reached.ensures.well.reached.others

pub compile_seen_at_once-requires-clause-all : goal.compile_seen_at_once-requires-clause-all
compile_seen_at_once-requires-clause-all g c κs within =
    let whole = subst (λ (l : List SummaryModel). AreWithReached c.in_ok-others.others l c.in_ok-whole.whole) c.reached-reached.ensures.value c.in_ok-whole.ensures in
    whole.reached

pub returns-clause-seen : goal.returns-clause-seen
returns-clause-seen g c =
    let i = c.args.input.now in
    let whole = subst (λ (l : List SummaryModel). AreWithReached c.in_ok-others.others l c.in_ok-whole.whole) c.reached-reached.ensures.value c.in_ok-whole.ensures in
    seen_by_all c.args.self c.in_ok-others.others c.in_ok-whole.whole c.in_ok-made.made.sight i c.in_ok-made.made.part.content c.in_ok-others.ensures.same whole c.in_ok-made.ensures.made c.in_ok-made.ensures.seen
