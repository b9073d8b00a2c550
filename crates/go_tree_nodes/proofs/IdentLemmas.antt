-- The identifiers that signatures look up, from the lists that a program keeps them in.
use Rattle.std.proofs.Common.{◌≡◌, ◌++◌, ap, ◌∙◌}
use Rattle.go_tree_nodes.specs.declared.types.Signature.{Signature, out-Signature}
use Rattle.go_tree_nodes.specs.declared.types.Results as declared_results
use Rattle.go_tree_nodes.specs.declared.types.Results.TheVariants as results
use Rattle.go_tree_nodes.specs.declared.types.Params.{Params, out-Params}
use Rattle.go_tree_nodes.specs.TypeShapes.{shape_signature, shape_results, params_of}
use Rattle.go_tree_nodes.specs.Idents.{signature_type_idents, result_type_idents, params_idents}
use Rattle.go_tree_nodes.proofs.TypeShapes.{listed_parts, signature_parts}

pub signature_has : (s : Signature) → signature_type_idents (shape_signature s) ≡ params_idents (params_of (out-Params (out-Signature s).params).entries.items) ++ result_type_idents (shape_results (out-Signature s).results)
signature_has s = ap signature_type_idents (signature_parts s)

pub listed_has : (r : declared_results.Results) (p : Params) → r ≡ results.Listed p → result_type_idents (shape_results r) ≡ params_idents (params_of (out-Params p).entries.items)
listed_has r p is = ap (λ r. result_type_idents (shape_results r)) is ∙ ap result_type_idents (listed_parts p)
