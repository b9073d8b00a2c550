use Rattle.std.proofs.Common.{◌≡◌, take}
use Rattle.go_submit_core.proofs.history.lists.shared_parts.Given as goal

abbrev pub invariant-loop-part : goal.invariant-loop-part
invariant-loop-part l = l.shared.items ≡ take l.part-index l.parts
