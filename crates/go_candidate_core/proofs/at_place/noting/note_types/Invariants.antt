use Rattle.std.proofs.Common.{map, take}
use Rattle.go_tree_nodes.specs.TypeShapes.{shape_type}
use Rattle.go_body_core.specs.typexpr_core.WrittenWritten.{in_file}
use Rattle.go_candidate_core.specs.at_place.Types.{AreNoted, noted_shown}
use Rattle.go_candidate_core.proofs.at_place.noting.note_types.Given as goal

abbrev pub invariant-loop-tree : goal.invariant-loop-tree
invariant-loop-tree g l = AreNoted (g.K.Kinds.kinds l.kinds) (in_file l.at) (g.N.TypeNames.meaning l.names) (map (λ t. shape_type t.now) (take l.tree-index l.trees)) (map noted_shown l.types.items)
