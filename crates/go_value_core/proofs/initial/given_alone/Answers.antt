use Rattle.std.proofs.Common.{◌≡◌, [], ◌∷◌, ◌++◌, ap, ◌∙◌}
use Rattle.go_stmt_core.specs.denote_core.Arguments.{arguments_of}
use Rattle.go_stmt_core.specs.denote_core.Look.{look_of}
use Rattle.go_value_core.specs.mirrors.Own.{one_of}
use Rattle.go_value_core.proofs.initial.given_alone.Goals as goal

pub returns : goal.returns
returns g c =
    let look = look_of (g.E.TypeLooks.types c.args.env.now) (g.E.Names.names c.args.env.now) in
    let d = c.in_ok-denoted.field-0 in
    c.one_of.ensures
    ∙ ap (one_of c.args.count c.args.at)
    (c.in_ok-given.ensures ∙ ap (arguments_of look) (c.in_ok-push.ensures.items ∙ (ap (λ l. l ++ d ∷ []) c.new-members.ensures.items ∙ ap (λ x. x ∷ []) c.in_ok-denoted.ensures)))
