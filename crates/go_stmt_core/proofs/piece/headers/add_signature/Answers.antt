use Rattle.std.proofs.Common.{false}
use Rattle.go_tree_nodes.specs.declared.types.Signature.{out-Signature}
use Rattle.go_tree_nodes.specs.declared.types.Params.{out-Params}
use Rattle.go_tree_nodes.specs.TypeShapes.{shape_signature, shape_results, params_of}
use Rattle.go_expr_core.specs.Looks.{everywhere}
use Rattle.go_expr_core.proofs.Steps.{ok_both}
use Rattle.go_stmt_core.specs.piece.Headers.{entry_types, types_of_result, types_of_signature, params_faults, result_faults, signature_faults}
use Rattle.go_stmt_core.proofs.PieceHeads.{all_types, all_faults}
use Rattle.go_stmt_core.proofs.piece.headers.add_signature.Goals as goal

pub returns-clause-types : goal.returns-clause-types
returns-clause-types g c =
    let looks = everywhere (g.E.TypeLooks.types c.args.env.now) (g.E.Names.names c.args.env.now) (g.E.Literals.literals c.args.env.now) (g.E.Exprs.written c.args.env.now) in
    let s = c.args.signature.now in
    ok_both c.add_results.result c.args.types.now.items c.add_params.new.types.items c.add_results.new.types.items
    (entry_types looks false (params_of (out-Params (out-Signature s).params).entries.items)) (types_of_result looks false (shape_results (out-Signature s).results)) (types_of_signature looks (shape_signature s)) c.in_ok-add_params.ensures.types (all_types looks s) c.add_results.ensures.types

pub returns-clause-faults : goal.returns-clause-faults
returns-clause-faults g c =
    let looks = everywhere (g.E.TypeLooks.types c.args.env.now) (g.E.Names.names c.args.env.now) (g.E.Literals.literals c.args.env.now) (g.E.Exprs.written c.args.env.now) in
    let s = c.args.signature.now in
    ok_both c.add_results.result c.args.faults.now.items c.add_params.new.faults.items c.add_results.new.faults.items
    (params_faults looks (params_of (out-Params (out-Signature s).params).entries.items)) (result_faults looks (shape_results (out-Signature s).results)) (signature_faults looks (shape_signature s)) c.in_ok-add_params.ensures.faults (all_faults looks s) c.add_results.ensures.faults
