use Rattle.std.proofs.Common.{map, ap, ◌∙◌}
use Rattle.go_tree_nodes.specs.Shapes.{items_of}
use Rattle.go_denote_core.specs.composite.Marks.{type_fields, key_marks}
use Rattle.go_expr_core.specs.mirrors.Marked.{spread}
use Rattle.go_expr_core.proofs.Marks.{literal_marks}
use Rattle.go_expr_core.proofs.Steps.{keys_marked}
use Rattle.go_expr_core.proofs.elements.mark_keys.Goals as goal

pub returns-clause-keys : goal.returns-clause-keys
returns-clause-keys g c =
    c.keys_among-keys.ensures ∙ keys_marked (λ n. n.now) c.in_ok-names.names.items c.args.items.now.items c.len.result c.len-2.result
    (c.len.ensures ∙ c.args.items.now.ok.0) (c.len-2.ensures ∙ c.in_ok-names.names.ok.0) c.in_ok-names.ensures

pub returns-clause-marks : goal.returns-clause-marks
returns-clause-marks g c =
    let items = items_of c.args.items.now.items in
    let fields = type_fields (g.E.Literals.literals c.args.env.now) c.args.t.now in
    c.in_ok-marks.ensures
    ∙ (ap (λ l. spread l items) (c.deref-2.ensures.value ∙ (c.in_ok-known.ensures ∙ (ap (λ l. key_marks fields (map (λ n. n.now) l)) c.deref.ensures.value ∙ ap (key_marks fields) c.in_ok-names.ensures)))
    ∙ literal_marks fields items)
