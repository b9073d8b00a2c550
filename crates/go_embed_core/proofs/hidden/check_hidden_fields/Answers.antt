use Rattle.std.proofs.Common.{map, sym, ap, ◌∙◌}
use Rattle.std.proofs.lemmas.Result.{IfOk-weaker}
use Rattle.go_term_core.specs.Shapes.{shape, fields_in, line_shapes}
use Rattle.go_term_core.proofs.TermShapes.{shape_struct}
use Rattle.go_type_core.specs.table_core.Shown.{member_shown}
use Rattle.go_embed_core.specs.Faults.{own_names, named_faults}
use Rattle.go_embed_core.proofs.Naming.{hidden_struct, none_hidden}
use Rattle.go_embed_core.proofs.hidden.check_hidden_fields.Goals as goal

pub returns-then-not-is_one_hiding : goal.returns-then-not-is_one_hiding
returns-then-not-is_one_hiding c = c.new.ensures.items ∙ sym (none_hidden c.args.path.now c.args.fields.now (map member_shown c.args.methods.now) (sym c.is_one_hiding.ensures ∙ c.if-not-is_one_hiding.true))

pub returns-then-is_home : goal.returns-then-is_home
returns-then-is_home c =
    let w = c.in-Struct in
    let path = c.args.path.now in
    let ms = map member_shown c.args.methods.now in
    IfOk-weaker c.hidden_fields.result _ _
    (λ v e. e (line_shapes w.field-2.items) ∙ (ap (λ l. named_faults (own_names path c.args.fields.now ms) (fields_in (line_shapes w.field-2.items) l)) c.deref.ensures.value
    ∙ hidden_struct (line_shapes w.field-2.items) path w.home w.list.items c.args.fields.now ms (sym c.underlying.ensures ∙ (ap shape w.is ∙ shape_struct w.home w.list w.field-2)) (sym c.is_home.ensures ∙ c.if-is_home.true)))
    c.hidden_fields.ensures
