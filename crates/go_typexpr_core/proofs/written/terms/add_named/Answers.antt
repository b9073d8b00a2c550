use Rattle.std.proofs.Common.{◌∙◌}
use Rattle.std.proofs.lemmas.Result.{on_ok_weaker}
use Rattle.go_tree_nodes.specs.TypeShapes.{shape_idents}
use Rattle.go_term_core.specs.Shapes.{shape}
use Rattle.go_typexpr_core.specs.written.Written.{in_file, tag_of}
use Rattle.go_typexpr_core.proofs.WrittenCollected.{named_added}
use Rattle.go_typexpr_core.proofs.written.terms.add_named.Goals as goal

pub returns : goal.returns
returns c =
    let a = c.args in
    on_ok_weaker c.add_line.result
    (λ lines. named_added (in_file a.at.now) (shape a.term) (tag_of a.tag.now) (shape_idents a.idents.now) c.len.result a.body.now (record { fields = c.add_names.new.fields; lines = c.add_line.new.lines }) (c.len.ensures ∙ a.body.now.lines.ok.0) c.in_ok-add_names.ensures lines)
    c.add_line.ensures
