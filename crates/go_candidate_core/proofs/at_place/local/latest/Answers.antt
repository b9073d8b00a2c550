use Rattle.std.proofs.Common.{Option, ◌+◌, drop, map, sym, ap, ◌∙◌}
use Rattle.go_cursor_core.specs.scope_stack.Blocks.{or_else}
use Rattle.go_expr_core.specs.local_core.mirrors.Walk.{latest}
use Rattle.go_body_core.specs.env_core.declared.meaning.Meaning.{Meaning}
use Rattle.go_candidate_core.specs.at_place.Locals.{local_shown}
use Rattle.go_candidate_core.proofs.AtPlaceLooking.{latest_begin, latest_end, latest_turn}
use Rattle.go_candidate_core.proofs.at_place.local.latest.Goals as goal

pub loop-local-init : goal.loop-local-init
loop-local-init c = latest_begin c.args.locals.now c.args.name.now

pub loop-local-preserved : goal.loop-local-preserved
loop-local-preserved c =
    ap (λ (o : Option Meaning). or_else (latest (map local_shown (drop (c.loop-local.local-index + 1) c.args.locals.now)) c.args.name.now) o) c.later_of-found.ensures
    ∙ (latest_turn c.args.locals.now c.loop-local.local-index c.local-item.result c.args.name.now _ c.loop-local-test.true c.local-item.is ∙ c.loop-local.invariant)

pub returns : goal.returns
returns c = sym (latest_end c.args.locals.now c.loop-local.local-index c.args.name.now _ c.loop-local-test.false) ∙ c.loop-local.invariant
