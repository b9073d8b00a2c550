use Rattle.std.proofs.Common.{map}
use Rattle.go_tree_nodes.specs.Shapes.{shape_value_spec}
use Rattle.go_tree_nodes.specs.TypeShapes.{shape_idents}
use Rattle.go_local_core.specs.Steps.{Spec}
use Rattle.go_local_core.specs.Outline.{idents}
use Rattle.go_stmt_core.specs.piece.Pieces.{piece_values}
use Rattle.go_body_core.specs.mirrors.Noted.{looks_at}
use Rattle.go_body_core.proofs.Standing.{by_rules, if_ok}
use Rattle.go_body_core.proofs.Meaning.{lent, means_by}
use Rattle.go_body_core.proofs.pieces.RecalledPiecesChecker.check_spec.Goals as goal

pub returns-clause-notes : goal.returns-clause-notes
returns-clause-notes g c =
    let same = lent c.as_slice.result.now c.in_ok-idents.idents.items (idents (shape_idents c.args.spec.now.names)) c.as_slice.ensures.value c.in_ok-idents.ensures in
    if_ok c.declare_piece.result c.declare_piece.ensures.noted (
    by_rules c.args.self.now.pieces c.args.names.now c.args.firsts.now (Spec c.args.kind (shape_value_spec c.args.spec.now)) (map (λ i. i.now) c.as_slice.result.now) c.args.notes.now.items c.declare_piece.new.notes.items same)

pub returns-clause-means : goal.returns-clause-means
returns-clause-means g c =
    let xs = idents (shape_idents c.args.spec.now.names) in
    means_by c.declare_piece.result (map (λ i. i.now) c.as_slice.result.now) xs (piece_values (looks_at c.args.self.now.pieces c.args.names.now) c.args.firsts.now (Spec c.args.kind (shape_value_spec c.args.spec.now)))
    (lent c.as_slice.result.now c.in_ok-idents.idents.items xs c.as_slice.ensures.value c.in_ok-idents.ensures)
    c.declare_piece.ensures.means
