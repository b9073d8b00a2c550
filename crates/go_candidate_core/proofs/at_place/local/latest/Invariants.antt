use Rattle.std.proofs.Common.{◌≡◌, drop, map}
use Rattle.std.specs.Option.{option_map}
use Rattle.go_cursor_core.specs.scope_stack.Blocks.{or_else}
use Rattle.go_expr_core.specs.local_core.mirrors.Walk.{latest}
use Rattle.go_candidate_core.specs.at_place.Locals.{local_shown, meaning_shown}
use Rattle.go_candidate_core.proofs.at_place.local.latest.Given as goal

abbrev pub invariant-loop-local : goal.invariant-loop-local
invariant-loop-local l = or_else (latest (map local_shown (drop l.local-index l.locals)) l.name) (option_map (λ f. meaning_shown f.now) l.found) ≡ latest (map local_shown l.locals) l.name
