use Rattle.std.proofs.Common.{◌≡◌, ◌++◌, drop}
use Rattle.go_decl_core.proofs.AnchorLemmas.{anchors_more}
use Rattle.go_decl_core.proofs.anchoring.add_names.Given as goal

abbrev pub invariant-loop-next : goal.invariant-loop-next
invariant-loop-next l = l.initial.anchors.items ++ anchors_more l.anchor l.next-items ≡ l.anchors.items ++ anchors_more l.anchor (drop l.next-index l.next-items)
