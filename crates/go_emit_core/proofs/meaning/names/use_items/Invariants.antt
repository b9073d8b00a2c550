use Rattle.std.proofs.Common.{◌≡◌, ◌++◌, drop}
use Rattle.go_emit_core.specs.meaning.Looking.{uses_meant}
use Rattle.go_emit_core.specs.meaning.mirrors.Naming.{code_scene_shown}
use Rattle.go_emit_core.proofs.meaning.names.use_items.Given as goal

abbrev pub invariant-loop-answer : goal.invariant-loop-answer
invariant-loop-answer l =
    l.items.items ++ uses_meant (code_scene_shown l.package_names) l.file l.locals (drop l.answer-index l.answers) ≡ uses_meant (code_scene_shown l.package_names) l.file l.locals l.answers
