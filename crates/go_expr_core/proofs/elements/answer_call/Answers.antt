use Rattle.std.proofs.Common.{ap, ◌∙◌}
use Rattle.go_denote_core.specs.Look.{look_of}
use Rattle.go_denote_core.specs.Arguments as arguments
use Rattle.go_expr_core.proofs.Steps.{called_as}
use Rattle.go_expr_core.proofs.elements.answer_call.Goals as goal

pub returns : goal.returns
returns g c =
    let look = look_of (g.E.TypeLooks.types c.args.env.now) (g.E.Names.names c.args.env.now) in
    called_as c.call_answer.result look c.args.callee.now c.is_free-free.result (arguments.is_free c.args.is_lone_call c.args.members.items) c.in_ok-given.given.items (arguments.arguments_of look c.args.members.items)
    (c.is_free-free.ensures ∙ ap (arguments.is_free c.args.is_lone_call) c.deref.ensures.value) c.in_ok-given.ensures c.call_answer.ensures
