use Rattle.go_edit_core.specs.mirrors.Sharing.{AreSharedTo}
use Rattle.go_edit_core.proofs.keeping.shared_parts.Given as goal

abbrev pub invariant-loop-number : goal.invariant-loop-number
invariant-loop-number l = AreSharedTo l.parts l.shared l.number
