use Rattle.std.proofs.Common.{map, sym, ap, ◌∙◌}
use Rattle.std.specs.Option.{option_map}
use Rattle.go_expr_core.specs.local_core.mirrors.Walk.{latest}
use Rattle.go_body_core.specs.function.Types.{is_local_meaning}
use Rattle.go_candidate_core.specs.at_place.Locals.{local_shown, meaning_shown}
use Rattle.go_candidate_core.proofs.at_place.noting.is_hidden.Goals as goal

pub returns-in-Some : goal.returns-in-Some
returns-in-Some c = ap is_local_meaning (sym (ap (option_map (λ l. meaning_shown l.now)) c.in-Some.is) ∙ (c.latest.ensures ∙ ap (latest (map local_shown c.args.locals.now)) c.as_str.ensures))

pub returns-in-None : goal.returns-in-None
returns-in-None c = ap is_local_meaning (sym (ap (option_map (λ l. meaning_shown l.now)) c.in-None.is) ∙ (c.latest.ensures ∙ ap (latest (map local_shown c.args.locals.now)) c.as_str.ensures))
