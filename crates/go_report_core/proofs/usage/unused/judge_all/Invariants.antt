use Rattle.std.proofs.Common.{◌≡◌, ◌++◌, drop, map, take}
use Rattle.go_report_core.specs.usage.Used.{judged_import}
use Rattle.go_report_core.proofs.usage.unused.judge_all.Given as goal

abbrev pub invariant-loop-answer : goal.invariant-loop-answer
invariant-loop-answer l = l.answers ≡ map (judged_import l.places.keys) (take l.answer-index l.fn.answers) ++ drop l.answer-index l.fn.answers
