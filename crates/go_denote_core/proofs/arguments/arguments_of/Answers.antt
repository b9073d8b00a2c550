use Rattle.std.proofs.Common.{◌≡◌, subst, ◌∙◌}
use Rattle.std.specs.Prelude.{IfOk}
use Rattle.go_denote_core.specs.Look.{look_of}
use Rattle.go_denote_core.proofs.Turns.{not_alone}
use Rattle.go_denote_core.proofs.arguments.arguments_of.Goals as goal

pub returns-then-len-ne1 : goal.returns-then-len-ne1
returns-then-len-ne1 g c =
    let look = look_of (g.E.TypeLooks.types c.args.env.now) (g.E.Names.names c.args.env.now) in
    subst (λ l. IfOk c.each.result (λ all. all.items ≡ l)) (not_alone look c.args.members.items (λ one. c.if-len-ne1.true (c.len.ensures ∙ (c.args.members.ok.0 ∙ one)))) c.each.ensures
