use Rattle.std.proofs.Common.{◌≡◌, ◌++◌, drop, map}
use Rattle.go_declared_core.specs.typexpr_core.EntryOutlines.{outline_shown}
use Rattle.go_object_core.specs.Objects.{function_shown}
use Rattle.go_package_core.specs.package_part.Parts.{file_shown}
use Rattle.go_emit_core.specs.mirrors.Listing.{outlines_functions}
use Rattle.go_emit_core.specs.meaning.mirrors.Naming.{code_scene_shown}
use Rattle.go_emit_core.proofs.object.functions_of.Given as goal

abbrev pub invariant-loop-number : goal.invariant-loop-number
invariant-loop-number l =
    map function_shown l.functions.items ++ outlines_functions (code_scene_shown l.names) l.number (map outline_shown (drop l.number l.outlines)) (map file_shown (drop l.number l.files)) ≡ outlines_functions (code_scene_shown l.names) 0 (map outline_shown l.outlines) (map file_shown l.files)
