use Rattle.std.proofs.Common.{◌∙◌}
use Rattle.std.proofs.lemmas.Result.{on_ok_weaker}
use Rattle.go_tree_nodes.specs.TypeShapes.{shape_names}
use Rattle.go_term_core.specs.declared.term.Params.{roll-Params}
use Rattle.go_typexpr_core.proofs.WrittenCollected.{param_added}
use Rattle.go_typexpr_core.proofs.written.terms.add_param.Goals as goal

pub returns : goal.returns
returns c =
    let a = c.args in
    on_ok_weaker c.add.result
    (λ pushed. param_added a.term (shape_names a.names.now) c.len.result a.params.now (roll-Params (record { lines = c.add_numbers.new.lines; terms = c.add.new.all })) (c.len.ensures ∙ a.params.now.terms.ok.0) c.in_ok-add_numbers.ensures pushed)
    c.add.ensures
