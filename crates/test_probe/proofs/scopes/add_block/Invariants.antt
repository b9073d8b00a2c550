use Rattle.std.proofs.Common.{◌<◌, length}
use Rattle.test_probe.proofs.scopes.add_block.Given as goal

abbrev pub invariant-loop-word : goal.invariant-loop-word
invariant-loop-word l =
    (goal.iterator-loop-word).can_next l.word-iterator × (goal.iterator-loop-word).is_finite l.word-iterator ×
    0 < length l.scopes.open_blocks
