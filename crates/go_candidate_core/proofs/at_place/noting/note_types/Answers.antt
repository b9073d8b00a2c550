use Rattle.std.proofs.Common.{map, rules}
use Rattle.go_term_core.specs.settling.Settled.{settled}
use Rattle.go_body_core.specs.typexpr_core.WrittenWritten.{in_file, term_of}
use Rattle.go_candidate_core.proofs.AtPlaceLooking.{note_end, note_turn}
use Rattle.go_candidate_core.specs.at_place.Types.{noted_shown}
use Rattle.go_candidate_core.proofs.at_place.noting.note_types.Goals as goal

pub returns : goal.returns
returns g c =
    note_end (λ t. settled (g.K.Kinds.kinds c.args.kinds.now) (term_of (g.N.TypeNames.meaning c.args.names.now) (in_file c.args.at.now) t)) c.args.trees.now c.loop-tree.tree-index (map noted_shown c.loop-tree.types.items) c.loop-tree-test.false c.loop-tree.invariant

pub loop-tree-preserved : goal.loop-tree-preserved
loop-tree-preserved g c =
    note_turn (λ t. settled (g.K.Kinds.kinds c.args.kinds.now) (term_of (g.N.TypeNames.meaning c.args.names.now) (in_file c.args.at.now) t)) c.args.trees.now c.loop-tree.tree-index c.tree-item.result c.loop-tree.types.items c.add.new.all.items c.in_ok-noted.noted
    c.loop-tree-test.true c.tree-item.is c.in_ok-noted.ensures (search rules) c.in_ok-add.ensures c.loop-tree.invariant
