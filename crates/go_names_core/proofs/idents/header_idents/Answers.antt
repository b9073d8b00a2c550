use Rattle.std.proofs.Common.{◌++◌, map, Bor, sym, ap, ◌∙◌}
use Rattle.std.proofs.lemmas.List.{append_assoc}
use Rattle.go_tree_nodes.specs.declared.names.Ident.{Ident}
use Rattle.go_tree_nodes.specs.declared.types.Signature.{out-Signature}
use Rattle.go_tree_nodes.specs.declared.types.Params.{out-Params}
use Rattle.go_tree_nodes.specs.TypeShapes.{shape_results, params_of}
use Rattle.go_tree_nodes.proofs.TypeShapes.{signature_parts}
use Rattle.go_local_core.specs.Outline.{signature_idents, param_idents, result_idents, receiver_idents}
use Rattle.go_names_core.proofs.idents.header_idents.Goals as goal

pub returns : goal.returns
returns c =
    let f = c.args.func.now in
    let s = out-Signature f.signature in
    let receiver = receiver_idents f.receiver in
    let params = param_idents (params_of (out-Params s.params).entries.items) in
    let results = result_idents (shape_results s.results) in
    c.in_ok-add_results.ensures
    ∙ (ap (λ l. l ++ results) (c.in_ok-add_params.ensures ∙ ap (λ l. l ++ params) (c.in_ok-add_receiver.ensures ∙ ap (λ l. map (λ (i : Bor Ident). i.now) l ++ receiver) c.new-list.ensures.items))
    ∙ (append_assoc receiver params results ∙ ap (λ l. receiver ++ l) (sym (ap signature_idents (signature_parts f.signature)))))
