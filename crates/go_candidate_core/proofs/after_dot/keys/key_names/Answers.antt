use Rattle.std.proofs.Common.{map}
use Rattle.go_expr_core.specs.denote_core.CompositeLook.{literal_look_of}
use Rattle.go_candidate_core.proofs.AfterDotKeyed.{keys_named}
use Rattle.go_candidate_core.proofs.after_dot.keys.key_names.Goals as goal

pub returns : goal.returns
returns g c =
    keys_named (literal_look_of (g.E.TypeLooks.types c.args.env.now) (g.E.Names.names c.args.env.now) (g.E.Literals.literals c.args.env.now)) c.args.t.now c.args.is_mixed (map (λ n. n.now) c.args.others.now) _ _
    c.in_ok-names.ensures c.put_in_order.ensures.order c.put_in_order.ensures.same
