use Rattle.std.proofs.Common.{◌≡◌, ◌++◌, drop}
use Rattle.go_emit_core.specs.Emitted.{declarations_in}
use Rattle.go_emit_core.proofs.functions.declarations_in.Given as goal

abbrev pub invariant-loop-answer : goal.invariant-loop-answer
invariant-loop-answer l = l.references.items ++ declarations_in (drop l.answer-index l.answers) ≡ declarations_in l.answers
