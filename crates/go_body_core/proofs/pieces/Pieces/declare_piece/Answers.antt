use Rattle.std.proofs.Common.{map}
use Rattle.go_body_core.specs.mirrors.Noted.{values_at}
use Rattle.go_body_core.proofs.Standing.{noted, valued, meant, if_ok}
use Rattle.go_body_core.proofs.pieces.Pieces.declare_piece.Goals as goal

pub returns-clause-noted : goal.returns-clause-noted
returns-clause-noted g c =
    if_ok c.declare.result c.declare.ensures.noted (
    noted c.args.self.now c.stand-here.result c.args.names.now c.stand-here.ensures.scene c.stand-here.ensures.file c.stand-here.ensures.inline c.stand-here.ensures.known c.stand-here.ensures.names
    c.args.firsts.now c.args.piece.now (map (λ i. i.now) c.args.idents.now) c.args.notes.now.items c.declare.new.list.items
    c.check_piece.new.notes.uses.items c.nothing-own.result.uses.items c.check_piece.new.notes.faults.items c.nothing-own.result.faults.items c.in_ok-values.values.items
    c.nothing-own.ensures.uses c.nothing-own.ensures.faults c.in_ok-values.ensures.uses c.in_ok-values.ensures.faults c.in_ok-values.ensures.values)

pub returns-clause-means : goal.returns-clause-means
returns-clause-means g c =
    meant c.declare.result (map (λ i. i.now) c.args.idents.now) c.in_ok-values.values.items (values_at c.args.self.now c.args.names.now c.args.firsts.now c.args.piece.now)
    (valued c.args.self.now c.stand-here.result c.args.names.now c.stand-here.ensures.scene c.stand-here.ensures.file c.stand-here.ensures.inline c.stand-here.ensures.known c.stand-here.ensures.names
    c.args.firsts.now c.args.piece.now c.in_ok-values.values.items c.in_ok-values.ensures.values)
    c.declare.ensures.means
