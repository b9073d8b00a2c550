use Rattle.std.proofs.Common.{map, sym, subst}
use Rattle.go_tree_nodes.specs.Shapes.{file_of, top_of}
use Rattle.go_body_core.proofs.FunctionSeen.{types_are_seen_alike}
use Rattle.go_body_core.specs.file.Stands.{stand_of}
use Rattle.go_body_core.specs.file.mirrors.Steps.{AreMade}
use Rattle.go_body_core.proofs.FilePlaced.{funcs_placed}
use Rattle.go_body_core.proofs.file.joined.check_file_at_once.Goals as goal

pub check_pieces-requires-clause-made : goal.check_pieces-requires-clause-made
check_pieces-requires-clause-made g c κs within =
    let at = c.args.at.now in
    let st = stand_of g.P.ImportedNames.shows at in
    let f = file_of c.args.tree.now in
    subst (λ ds. AreMade st at.initial.now at.functions.now (map top_of ds)) (sym c.as_slice-decls.ensures.value)
    (record { seen = types_are_seen_alike.in_file st at.initial.now f c.requires.placed c.requires.initial; placed = funcs_placed f c.requires.placed; typed = c.requires.functions })
