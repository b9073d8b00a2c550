use Rattle.std.proofs.Common.{◌≡◌, ◌+◌, ◌++◌, map, drop, refl, sym, subst, ap, ◌∙◌, Vec}
use Rattle.std.specs.Global.{Global}
use Rattle.go_term_core.specs.Shapes.{fields_in, line_shapes}
use Rattle.go_embed_core.specs.declared.member.Member as declared_member
use Rattle.go_embed_core.specs.Owners.{fields_found}
use Rattle.go_embed_core.specs.OwnersShown.{owner_shown, named_shown}
use Rattle.go_embed_core.specs.mirrors.Edges.{IsHiding}
use Rattle.go_embed_core.proofs.Adding.{field_shown, field_hidden, added_end}
use Rattle.go_embed_core.proofs.owner.add_fields.Goals as goal
use Rattle.go_embed_core.proofs.owner.add_fields.Goals.{then-not-hides+in_ok-add_member, else-not-hides}

pub loop-field-preserved : goal.loop-field-preserved
loop-field-preserved c =
    let o = owner_shown c.args.owner.now in
    let hiding = subst (IsHiding c.hides.result o) c.as_str.ensures c.hides.ensures in
    let now = c.if-not-hides.members.items in
    elim c.if-not-hides.branch [
      | then-not-hides+in_ok-add_member w ↦
          field_shown (line_shapes c.args.lines.now) o c.args.path.now c.args.fields.now c.loop-field.field-index c.field-item.result c.hides.result c.loop-field-test.true c.field-item.is c.requires hiding (map named_shown c.loop-field.members.items) (map named_shown now) _ w.if-not-hides.true
          (ap (λ (v : Vec declared_member.Member Global). map named_shown v.items) w.members-is ∙ w.in_ok-add_member.ensures) c.loop-field.invariant
      | else-not-hides w ↦
          subst (λ (v : Vec declared_member.Member Global). map named_shown v.items ++ fields_found o c.args.path.now (fields_in (line_shapes c.args.lines.now) (drop (c.loop-field.field-index + 1) c.args.fields.now)) ≡ map named_shown c.args.members.now.items ++ fields_found o c.args.path.now (fields_in (line_shapes c.args.lines.now) c.args.fields.now)) (sym w.members-is)
          (field_hidden (line_shapes c.args.lines.now) o c.args.path.now c.args.fields.now c.loop-field.field-index c.field-item.result c.hides.result c.loop-field-test.true c.field-item.is c.requires hiding (map named_shown c.loop-field.members.items) _ w.if-not-hides.false c.loop-field.invariant)
    ]

pub returns : goal.returns
returns c = added_end (λ l. fields_found (owner_shown c.args.owner.now) c.args.path.now (fields_in (line_shapes c.args.lines.now) l)) c.args.fields.now c.loop-field.field-index (map named_shown c.loop-field.members.items) _ refl c.loop-field-test.false c.loop-field.invariant
