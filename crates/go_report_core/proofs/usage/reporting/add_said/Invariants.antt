use Rattle.std.proofs.Common.{◌≡◌, ◌++◌, drop}
use Rattle.go_report_core.specs.usage.mirrors.Steps.{said}
use Rattle.go_report_core.proofs.usage.reporting.add_said.Given as goal

abbrev pub invariant-loop-answer : goal.invariant-loop-answer
invariant-loop-answer l = l.faults.items ++ said (drop l.answer-index l.answers) ≡ l.fn.faults.items ++ said l.answers
