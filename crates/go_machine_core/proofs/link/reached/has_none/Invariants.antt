use Rattle.std.proofs.Common.{◌≡◌, drop}
use Rattle.go_machine_core.specs.link.Reaching.{has_none}
use Rattle.go_machine_core.proofs.link.reached.has_none.Given as goal

abbrev pub invariant-loop-import : goal.invariant-loop-import
invariant-loop-import l = has_none l.imports ≡ has_none (drop l.import-index l.imports)
