use Rattle.std.proofs.Common.{◌≡◌, take}
use Rattle.go_submit_core.specs.Modules.{with_trees}
use Rattle.go_submit_core.proofs.modules.add_trees.Given as goal

abbrev pub invariant-loop-submission : goal.invariant-loop-submission
invariant-loop-submission l = l.modules.items ≡ with_trees l.initial.modules.items (take l.submission-index l.submissions)
