use Rattle.std.proofs.Common.{◌≡◌, ◌++◌, drop, map}
use Rattle.go_term_core.specs.decl_core.Shown.{decl_shown}
use Rattle.go_object_core.specs.Objects.{function_shown}
use Rattle.go_emit_core.specs.Emitted.{uses_before, functions_of}
use Rattle.go_emit_core.specs.lookup.mirrors.Naming.{file_looks}
use Rattle.go_emit_core.proofs.functions.add_functions.Given as goal

abbrev pub invariant-loop-decl : goal.invariant-loop-decl
invariant-loop-decl l =
    (l.known.count ≡ uses_before l.file.answers.now l.known.bound) × (map function_shown l.fn.functions.items ++ functions_of l.file.path.now l.file.number l.file.answers.now (file_looks l.file.names.now) (map decl_shown l.tops)
    ≡ map function_shown l.functions.items ++ functions_of l.file.path.now l.file.number l.file.answers.now (file_looks l.file.names.now) (map decl_shown (drop l.decl-index l.tops)))
