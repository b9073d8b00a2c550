use Rattle.std.proofs.Common.{◌++◌, not, refl, sym, ap, ◌∙◌, append_assoc}
use Rattle.go_tree_nodes.specs.declared.types.Signature.{out-Signature}
use Rattle.go_tree_nodes.specs.declared.types.Params.{out-Params}
use Rattle.go_tree_nodes.specs.TypeShapes.{shape_results, params_of}
use Rattle.go_tree_nodes.proofs.TypeShapes.{signature_parts}
use Rattle.go_expr_core.specs.local_core.Outline.{param_idents, result_idents, receiver_idents, signature_idents}
use Rattle.go_cursor_core.proofs.States.{found_here, declared_here, declares_more, declares_same}
use Rattle.go_cursor_core.proofs.walk.pass_header.Goals as goal

pub returns-then-is_none-2 : goal.returns-then-is_none-2
returns-then-is_none-2 c =
    let f = c.args.func.now in
    let s = out-Signature f.signature in
    let receiver = receiver_idents f.receiver in
    let params = param_idents (params_of (out-Params s.params).entries.items) in
    let results = result_idents (shape_results s.results) in
    declared_here _ _ _ _ _ _ _ (c.is_none.ensures ∙ ap not c.if-is_none.true) c.in_header-search.ensures (c.is_none-then-is_none.ensures ∙ ap not c.if-is_none-2.true) refl refl refl
    (declares_same _ _ ((receiver ++ params) ++ results) _ (append_assoc receiver params results ∙ ap (λ l. receiver ++ l) (sym (ap signature_idents (signature_parts f.signature))))
    (declares_more _ _ _ (receiver ++ params) results (declares_more _ _ _ receiver params c.declare_receiver.ensures c.declare_params.ensures) c.declare_results.ensures))

pub returns-else-is_none-2 : goal.returns-else-is_none-2
returns-else-is_none-2 c =
    found_here _ _ _ _ _ _ (c.is_none.ensures ∙ ap not c.if-is_none.true) c.in_header-search.ensures (c.is_none-then-is_none.ensures ∙ ap not c.if-is_none-2.false) refl refl refl
