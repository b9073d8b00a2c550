use Rattle.std.proofs.Common.{◌≡◌, take}
use Rattle.test_snapshot.proofs.respelling.source_with.Given as goal

abbrev pub invariant-loop-source : goal.invariant-loop-source
invariant-loop-source l = l.files.items ≡ take l.source-index l.sources
