use Rattle.std.proofs.Common.{◌≡◌, take}
use Rattle.go_submit_core.proofs.modules.shared_modules.Given as goal

abbrev pub invariant-loop-module : goal.invariant-loop-module
invariant-loop-module l = l.shared.items ≡ take l.module-index l.modules
