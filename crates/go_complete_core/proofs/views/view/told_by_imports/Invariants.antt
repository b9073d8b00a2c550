use Rattle.std.proofs.Common.{◌≡◌, take}
use Rattle.std.specs.List.{filter}
use Rattle.go_complete_core.proofs.ViewsKeeping.{is_of}
use Rattle.go_complete_core.proofs.views.view.told_by_imports.Given as goal

abbrev pub invariant-loop-number : goal.invariant-loop-number
invariant-loop-number l = l.told.items ≡ filter (is_of l.paths.keys) (take l.number l.reached)
