-- The parts of headers.
use Rattle.std.proofs.Common.{◌≡◌, Bool, false, true, ◌++◌, sym, ap, ◌∙◌}
use Rattle.go_tree_nodes.specs.declared.types.Signature.{Signature, out-Signature}
use Rattle.go_tree_nodes.specs.declared.types.Results as declared_results
use Rattle.go_tree_nodes.specs.declared.types.Results.TheVariants as results
use Rattle.go_tree_nodes.specs.declared.types.Params.{Params, out-Params}
use Rattle.go_tree_nodes.specs.TypeShapes.{shape_signature, shape_results, params_of}
use Rattle.go_tree_nodes.specs.Rules.{is_grouped}
use Rattle.go_tree_nodes.proofs.TypeShapes.{listed_parts, signature_parts}
use Rattle.go_expr_core.specs.Looks.{Looks}
use Rattle.go_stmt_core.specs.piece.Headers.{entry_types, types_of_result, types_of_signature, returned_types, params_faults, result_faults, signature_faults, has_result_names, returned_names}

pub listed_types : {T S D P : Type 0} (looks : Looks T S D P) (b : Bool) (r : declared_results.Results) (p : Params) → r ≡ results.Listed p → entry_types looks b (params_of (out-Params p).entries.items) ≡ types_of_result looks b (shape_results r)
listed_types looks b r p is = sym (ap (λ r. types_of_result looks b (shape_results r)) is ∙ ap (types_of_result looks b) (listed_parts p))

pub listed_faults : {T S D P : Type 0} (looks : Looks T S D P) (r : declared_results.Results) (p : Params) → r ≡ results.Listed p → params_faults looks (params_of (out-Params p).entries.items) ≡ result_faults looks (shape_results r)
listed_faults looks r p is = sym (ap (λ r. result_faults looks (shape_results r)) is ∙ ap (result_faults looks) (listed_parts p))

pub all_types : {T S D P : Type 0} (looks : Looks T S D P) (s : Signature)
    → entry_types looks false (params_of (out-Params (out-Signature s).params).entries.items) ++ types_of_result looks false (shape_results (out-Signature s).results) ≡ types_of_signature looks (shape_signature s)
all_types looks s = sym (ap (types_of_signature looks) (signature_parts s))

pub all_faults : {T S D P : Type 0} (looks : Looks T S D P) (s : Signature)
    → params_faults looks (params_of (out-Params (out-Signature s).params).entries.items) ++ result_faults looks (shape_results (out-Signature s).results) ≡ signature_faults looks (shape_signature s)
all_faults looks s = sym (ap (signature_faults looks) (signature_parts s))

pub of_results : {T S D P : Type 0} (looks : Looks T S D P) (s : Signature) → types_of_result looks true (shape_results (out-Signature s).results) ≡ returned_types looks (shape_signature s)
of_results looks s = sym (ap (returned_types looks) (signature_parts s))

pub named_results : (s : Signature) (p : Params) → (out-Signature s).results ≡ results.Listed p → is_grouped (params_of (out-Params p).entries.items) ≡ returned_names (shape_signature s)
named_results s p is = sym (ap returned_names (signature_parts s) ∙ (ap (λ r. has_result_names (shape_results r)) is ∙ ap has_result_names (listed_parts p)))
