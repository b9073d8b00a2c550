use Rattle.std.proofs.Common.{◌++◌, map, Bor, sym, ap, ◌∙◌}
use Rattle.go_tree_nodes.specs.declared.names.Ident.{Ident}
use Rattle.go_tree_nodes.specs.declared.types.Signature.{out-Signature}
use Rattle.go_tree_nodes.specs.declared.types.Params.{out-Params}
use Rattle.go_tree_nodes.specs.TypeShapes.{shape_results, params_of}
use Rattle.go_tree_nodes.proofs.TypeShapes.{signature_parts}
use Rattle.go_local_core.specs.Outline.{signature_idents, param_idents, result_idents}
use Rattle.go_names_core.proofs.idents.signature_idents.Goals as goal

pub returns : goal.returns
returns c =
    let s = out-Signature c.args.signature.now in
    let params = param_idents (params_of (out-Params s.params).entries.items) in
    let results = result_idents (shape_results s.results) in
    c.in_ok-add_results.ensures
    ∙ (ap (λ l. l ++ results) (c.in_ok-add_params.ensures ∙ ap (λ l. map (λ (i : Bor Ident). i.now) l ++ params) c.new-list.ensures.items)
    ∙ sym (ap signature_idents (signature_parts c.args.signature.now)))
