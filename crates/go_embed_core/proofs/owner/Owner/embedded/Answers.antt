use Rattle.std.proofs.Common.{sym, ap, ◌∙◌}
use Rattle.go_term_core.specs.Shapes.{Line, line_shapes}
use Rattle.go_embed_core.specs.OwnersShown.{owner_shown}
use Rattle.go_embed_core.proofs.Edging.{embeds_past, embeds_hidden, embeds_shown}
use Rattle.go_embed_core.specs.mirrors.Edges.{IsHiding, edge_if}
use Rattle.std.proofs.Common.{subst}
use Rattle.go_embed_core.proofs.owner.Owner.embedded.Goals as goal

pub returns-then-hides : goal.returns-then-hides
returns-then-hides c =
    let o = owner_shown c.args.self.now in
    sym (embeds_hidden (line_shapes c.fields-all.result.lines.now) o c.fields-all.result.fields.now c.args.position c.in-Some.field.now c.hides.result c.fields-all.ensures c.in-Some.ensures.lookup.3.0 c.in-Some.ensures.lookup.1 (subst (IsHiding c.hides.result o) c.as_str.ensures c.hides.ensures) c.if-hides.true)

pub returns-else-hides : goal.returns-else-hides
returns-else-hides c =
    let o = owner_shown c.args.self.now in
    c.edge_of.ensures ∙ ap (λ (l : Line). edge_if l.embedded c.args.position l.term) c.of.ensures.line ∙ sym (embeds_shown (line_shapes c.fields-all.result.lines.now) o c.fields-all.result.fields.now c.args.position c.in-Some.field.now c.hides.result c.fields-all.ensures c.in-Some.ensures.lookup.3.0 c.in-Some.ensures.lookup.1 (subst (IsHiding c.hides.result o) c.as_str.ensures c.hides.ensures) c.if-hides.false)

pub returns-in-None : goal.returns-in-None
returns-in-None c = sym (embeds_past (line_shapes c.fields-all.result.lines.now) (owner_shown c.args.self.now) c.fields-all.result.fields.now c.args.position c.fields-all.ensures c.in-None.ensures.lookup.3)
