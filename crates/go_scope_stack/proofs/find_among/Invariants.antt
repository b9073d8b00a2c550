use Rattle.std.proofs.Common.{◌≡◌, ◌≤◌, length, take, map}
use Rattle.go_scope_stack.specs.Blocks.{found_in, block_of}
use Rattle.go_scope_stack.proofs.find_among.Given as goal

abbrev pub invariant-loop-i : goal.invariant-loop-i
invariant-loop-i l = record { in_range : l.i ≤ length l.blocks; rest : found_in (map block_of l.blocks) l.name ≡ found_in (map block_of (take l.i l.blocks)) l.name }

abbrev pub decreases-loop-i : goal.decreases-loop-i
decreases-loop-i l = l.i
