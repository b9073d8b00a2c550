use Rattle.std.proofs.Common.{◌≡◌, ℕ, ◌<◌, ◌≤◌, true, not, length, get_or}
use Rattle.std.specs.Prelude.{◌==◌}
use Rattle.go_block_core.proofs.word.last_element.Given as goal

abbrev pub invariant-loop-start : goal.invariant-loop-start
invariant-loop-start l = (l.start ≤ length l.text) × ((k : ℕ) → l.start ≤ k → k < length l.text → not (get_or l.text k 0 == 47) ≡ true)

abbrev pub decreases-loop-start : goal.decreases-loop-start
decreases-loop-start l = l.start
