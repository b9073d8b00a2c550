use Rattle.std.proofs.Common.{◌++◌, ◌∷◌, [], map, true, ap, ◌∙◌}
use Rattle.std.proofs.lemmas.Result.{on_ok_weaker}
use Rattle.go_term_core.specs.Shapes.{line_shape, line_with, shape}
use Rattle.go_typexpr_core.specs.written.Written.{in_file, term_starred, tag_of}
use Rattle.go_term_core.specs.decl_core.Outer.{last_ident}
use Rattle.go_typexpr_core.specs.written.mirrors.Adding.{field_in}
use Rattle.go_typexpr_core.proofs.WrittenCollected.{embedded_added}
use Rattle.go_typexpr_core.proofs.written.terms.add_embedded.Goals as goal

pub returns : goal.returns
returns c =
    let a = c.args in
    let f = in_file a.at.now in
    on_ok_weaker c.add_line.result
    (λ lines. embedded_added f (term_starred a.star.now (shape a.term)) (tag_of a.tag.now) (last_ident a.name.now) c.len.result a.body.now (record { fields = c.add_field.new.fields; lines = c.add_line.new.lines }) (c.len.ensures ∙ a.body.now.lines.ok.0)
    (c.in_ok-add_field.ensures ∙ ap (λ x. a.body.now.fields.items ++ field_in f c.len.result x ∷ []) c.last_ident.ensures)
    (lines ∙ ap (λ t. map line_shape a.body.now.lines.items ++ line_with true t (tag_of a.tag.now) ∷ []) c.in_ok-term.ensures))
    c.add_line.ensures
