use Rattle.std.proofs.Common.{◌≡◌, ◌++◌}
use Rattle.std.specs.Vec.Iter.{into_iter_items}
use Rattle.go_report_core.proofs.answer.answers.answers_of.Given as goal

abbrev pub invariant-loop-used : goal.invariant-loop-used
invariant-loop-used l = l.answers.items ++ into_iter_items l.used-iterator ≡ l.fn.uses.items
